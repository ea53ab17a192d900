-- START: its answer by its rules in their order, and what it leaves where it is done. Leans on AdvanceLaws and on the slot's
-- Places. Assumes nothing.
use Prim.Native.Nat.{ℕ, ◌≤◌, ◌<◌}
use mathlib.Core.Path.{◌≡◌, sym, ◌∙◌, ap}
use mathlib.Core.Logic.{⊎_elim}
use mathlib.Core.List.{List, [], ◌∷◌}
use lib.ListN.{length}
use borrow.Author.Tests.{lt-ltb, le-ltb, eq-eqb, ne_eqb}
use Rattle.trade.specs.Limits.{most_flows, area_bytes}
use Rattle.trade.specs.Bytes.{over}
use Rattle.trade.specs.Layout.{sections_of}
use Rattle.trade.specs.Facts.{facts_of, said}
use Rattle.trade.specs.Slot.{at_start}
use Rattle.trade.specs.Area.{area_of}
use Rattle.trade.specs.Answers.{done, refused, is_done, first_of, no_number}
use Rattle.trade.specs.Codes.{code13}
use Rattle.trade.specs.Calls.{check_rules, check_answer, check_answer_by, Starting, start_answer, start_answer_by, start_area, start_by}
use Rattle.trade.specs.declared.answer.Answer.{Answer}
use Rattle.trade.specs.declared.state.Run.{Run}
use Rattle.trade.proofs.First.{lt_or_ge}
use Rattle.trade.proofs.Answers.{first_of_refuse, first_of_pass, first_of_on}
use Rattle.trade.proofs.Area.{place_byte}
use Rattle.slot.specs.States.{state_of}
use Rattle.run.specs.Idle.{Idle}
use Rattle.run.specs.Calls.{Starts}
use Rattle.slot.proofs.Places.{area_same}
use Rattle.run.proofs.AdvanceLaws.{too_short, long_enough, refuses}

abbrev area_rule : Starting → Answer
area_rule s = code13 area_bytes s.area

module _ (b area : List ℕ) where
  -- what the call is handed
  abbrev handed : Starting
  handed = record { book = b; area = area }

  -- refused, nothing is touched
  pub start_refused : (r : Answer) → start_answer handed ≡ r → (r.code ≡ 0 → ⊥) → Starts handed r area
  unfolding start_by is_done
  start_refused r e n = record { answer = sym e; area = rw (e, ne_eqb r.code 0 n) }

  pub check_refuses : ((check_answer b).code ≡ 0 → ⊥) → start_answer handed ≡ check_answer b
  unfolding start_answer_by check_answer_by is_done
  check_refuses n =
      first_of_on (λ (s : Starting). s.book) check_rules (area_rule ∷ []) no_number handed
      ∙ rw (ne_eqb (first_of check_rules no_number b).code 0 n)

  module _ (checks : (check_answer b).code ≡ 0) where
    left_to : start_answer handed ≡ first_of (area_rule ∷ []) no_number handed
    unfolding start_answer_by check_answer_by is_done
    left_to =
        first_of_on (λ (s : Starting). s.book) check_rules (area_rule ∷ []) no_number handed
        ∙ rw (eq-eqb (first_of check_rules no_number b).code 0 checks)

    pub start_short : length area < area_bytes → start_answer handed ≡ refused 13 0
    start_short h =
        let e : code13 area_bytes area ≡ refused 13 0 = too_short area_bytes area h in
        left_to ∙ first_of_refuse area_rule [] no_number handed (refuses 12 0 e) ∙ e

    module _ (room : area_bytes ≤ length area) where
      all_passed : start_answer handed ≡ done 0
      unfolding first_of
      all_passed = left_to ∙ first_of_pass area_rule [] no_number handed (ap (λ (r : Answer). r.code) (long_enough area_bytes area room))

      -- every flow idle, and every other place 0
      pub start_done :
          (run : Run)
          → Idle (said b).flows (sections_of b).records run
          → Starts handed (done 0) (over (area_of most_flows (state_of run)) area)
      unfolding start_by start_area at_start is_done state_of said facts_of
      start_done run idle =
          record {
            answer = sym all_passed;
            area =
                rw all_passed
                (ap (λ (bytes : List ℕ). over bytes area) (area_same (said b).flows (state_of run) (at_start (said b)) idle.slot places));
          }
        where
          places : (i : ℕ) → i < most_flows → (state_of run).done i ≡ place_byte (said b).flows (at_start (said b)) i
          places i h =
              ⊎_elim (λ (l : i < (said b).flows). rw (lt-ltb i (said b).flows l) (idle.places i l))
              (λ (l : (said b).flows ≤ i). rw (le-ltb i (said b).flows l) (idle.others i l))
              (lt_or_ge i (said b).flows)
