-- ASK: what is told by the rules of the call in their order. Leans on the run's AdvanceLaws. Assumes nothing.
use Prim.Native.Nat.{ℕ, ◌≤◌, ◌<◌}
use mathlib.Core.Path.{◌≡◌, refl, sym, ◌∙◌, ap}
use mathlib.Core.Bool.{true, false, cond}
use mathlib.Core.Logic.{⊎_elim}
use mathlib.Core.List.{List, [], ◌∷◌}
use lib.Dec.{leb}
use lib.ListN.{length}
use borrow.Author.Tests.{eq-eqb, ne_eqb}
use Rattle.trade.specs.Limits.{area_bytes}
use Rattle.trade.specs.Layout.{sections_of}
use Rattle.trade.specs.Facts.{Facts, facts_of, facts_in, said, step_of, first_step}
use Rattle.trade.specs.Slot.{State, Releases, released, releases_of, done_now, unfinished, next_step, greedy, granted_by}
use Rattle.trade.specs.Area.{state_in}
use Rattle.trade.specs.Answers.{refused, is_done, given, first_of, no_number}
use Rattle.trade.specs.Codes.{code13, code15_removing}
use Rattle.trade.specs.SlotCodes.{bad_place, overrun, code10, code11, code12}
use Rattle.trade.specs.Calls.{book_rules, read_answer}
use Rattle.trade.specs.Why.{blocks, why, Asking, asked_due, ask_answer, ask_of}
use Rattle.trade.specs.declared.answer.Answer.{Answer}
use Rattle.trade.specs.declared.told.Told.TheVariants.{Refused}
use Rattle.trade.proofs.First.{bool_cases}
use Rattle.trade.proofs.Answers.{refused_second, first_of_rule, first_of_refuse, first_of_pass, first_of_on, first_of_last, given_passes}
use Rattle.area.specs.Refusals.{run_answer}
use Rattle.run.specs.Calls.{slot_answer}
use Rattle.run.proofs.AdvanceLaws.{too_short, long_enough, refuses, three}
use Rattle.why.specs.Told.{told_in}

-- the rules after those of the book
abbrev place_rule : Asking → Answer
place_rule a = code15_removing (said a.book) a.place

abbrev rule10 : Asking → Answer
rule10 a = code10 (said a.book) (asked_due a) (state_in a.area)

abbrev rule12 : Asking → Answer
rule12 a = code12 (state_in a.area)

abbrev rule11 : Asking → Answer
rule11 a = code11 (said a.book) (asked_due a) (state_in a.area)

abbrev run_rules : List (Asking → Answer)
run_rules = rule10 ∷ rule12 ∷ rule11 ∷ place_rule ∷ []

abbrev area_rules : List (Asking → Answer)
area_rules = (λ a. code13 area_bytes a.area) ∷ run_rules

module _ (b area : List ℕ) (place : ℕ) where
  abbrev handed : Asking
  handed = record { book = b; area = area; place = place }

  -- refused, the code and the number alone are told
  pub ask_refused : (r : Answer) → ask_answer handed ≡ r → (r.code ≡ 0 → ⊥) → Refused r ≡ ask_of handed
  unfolding ask_of
  ask_refused r e n =
      ap Refused (sym e) ∙ sym (refused_second (ask_answer handed) _ (Refused (ask_answer handed)) (λ z. n (sym (ap (λ (a : Answer). a.code) e) ∙ z)))

  pub book_refused : ((read_answer b).code ≡ 0 → ⊥) → ask_answer handed ≡ read_answer b
  unfolding ask_answer read_answer is_done
  book_refused n = first_of_on (λ (a : Asking). a.book) book_rules area_rules no_number handed ∙ rw (ne_eqb (first_of book_rules no_number b).code 0 n)

  module _ (opened : (read_answer b).code ≡ 0) where
    left_to : ask_answer handed ≡ first_of area_rules no_number handed
    unfolding ask_answer read_answer is_done
    left_to = first_of_on (λ (a : Asking). a.book) book_rules area_rules no_number handed ∙ rw (eq-eqb (first_of book_rules no_number b).code 0 opened)

    pub area_short : length area < area_bytes → ask_answer handed ≡ refused 13 0
    area_short h =
        let e : code13 area_bytes area ≡ refused 13 0 = too_short area_bytes area h in
        left_to ∙ first_of_refuse _ _ no_number handed (refuses 12 0 e) ∙ e

    module _ (room : area_bytes ≤ length area) where
      -- the slot decides, or the place
      by_run : ask_answer handed ≡ cond (is_done (slot_answer (said b) area)) (code15_removing (said b) place) (slot_answer (said b) area)
      unfolding run_answer code15_removing
      by_run =
          let f : Facts = said b in
          let s : State = state_in area in
          let r : Releases = releases_of f s in
          left_to
          ∙ first_of_pass _ _ no_number handed (ap (λ (x : Answer). x.code) (long_enough area_bytes area room))
          ∙ first_of_rule rule10 (rule12 ∷ rule11 ∷ place_rule ∷ []) no_number handed
          ∙ ap (λ (w : Answer). cond (is_done (code10 f r s)) w (code10 f r s))
          (first_of_rule rule12 (rule11 ∷ place_rule ∷ []) no_number handed
          ∙ ap (λ (w : Answer). cond (is_done (code12 s)) w (code12 s))
          (first_of_rule rule11 (place_rule ∷ []) no_number handed
          ∙ ap (λ (w : Answer). cond (is_done (code11 f r s)) w (code11 f r s)) (first_of_last place_rule handed (given_passes 14 _ 0))))
          ∙ three (code10 f r s) (code12 s) (code11 f r s) (code15_removing f place)

      -- what is told by the answer is told in the slot
      by_answer : (r : Answer) → ask_answer handed ≡ r → ask_of handed ≡ cond (is_done r) (why (said b) (releases_of (said b) (state_in area)) (state_in area) place) (Refused r)
      unfolding ask_of
      by_answer r e = rw e refl

      pub slot_tells : ask_of handed ≡ told_in (said b) area place
      unfolding told_in code15_removing given is_done
      slot_tells =
          by_answer _ by_run
          ∙ ⊎_elim
          (λ (d : is_done (slot_answer (said b) area) ≡ true).
          ⊎_elim (λ (l : leb (said b).flows place ≡ true). rw (d, l) refl) (λ (l : leb (said b).flows place ≡ false). rw (d, l) refl)
          (bool_cases (leb (said b).flows place)))
          (λ (d : is_done (slot_answer (said b) area) ≡ false). rw (d, d) refl)
          (bool_cases (is_done (slot_answer (said b) area)))

      -- told over the book's sections, it is told of the book: its node count bears on nothing
      pub sections_tell :
          told_in (facts_in 0 (sections_of b).flows (sections_of b).rows (sections_of b).records (sections_of b).steps) area place
          ≡ told_in (said b) area place
      unfolding told_in why blocks run_answer code10 code11 bad_place overrun granted_by greedy unfinished next_step done_now released step_of first_step said facts_of
      sections_tell = refl
