-- ADVANCE: its answer by its rules in their order, and what it leaves where it is done. Leans on RunSlotLaws. Assumes nothing.
use Prim.Native.Nat.{ℕ, suc, ◌*◌, ◌≤◌, ◌<◌}
use mathlib.Core.Path.{◌≡◌, refl, sym, ◌∙◌, ap}
use mathlib.Core.Bool.{true, false, cond}
use mathlib.Core.Logic.{⊎_elim}
use mathlib.Core.List.{List, [], ◌∷◌}
use native.Mathlib.Omega.{arith}
use lib.Dec.{eqb, ltb}
use lib.ListN.{length}
use borrow.Author.Tests.{lt-ltb, le-ltb, eq-eqb, ne_eqb, eqb-true, eqb-false}
use Rattle.trade.specs.Limits.{area_bytes, grant_bytes}
use Rattle.trade.specs.Bytes.{over}
use Rattle.trade.specs.Layout.{sections_of}
use Rattle.trade.specs.Facts.{Facts, facts_of, facts_in, said, step_of, first_step}
use Rattle.trade.specs.Slot.{State, Releases, released, releases_of, done_now, unfinished, next_step, greedy, granted_by, instance_at, next_state, next_state_by, grant_of, grants_of}
use Rattle.trade.specs.Area.{state_in, area_of}
use Rattle.trade.specs.Answers.{done, refused, is_done, first_of, no_number}
use Rattle.trade.specs.Codes.{code13}
use Rattle.trade.specs.SlotCodes.{bad_place, overrun, code10, code11, code12}
use Rattle.trade.specs.Calls.{book_rules, read_answer, Advancing, flows_granted, flows_granted_by, advance_answer, advance_answer_by, advance_by, next_area_by, grants_in_by}
use Rattle.trade.specs.declared.answer.Answer.{Answer}
use Rattle.trade.proofs.First.{bool_cases}
use Rattle.trade.proofs.Answers.{first_of_rule, first_of_refuse, first_of_pass, first_of_on, given_true, given_false}
use Rattle.area.specs.Refusals.{run_answer}
use Rattle.run.specs.Calls.{slot_answer, slot_granted, RunsSlot, Advances}

-- memory that is too short, and memory that is not
pub too_short : (needed : ℕ) (memory : List ℕ) → length memory < needed → code13 needed memory ≡ refused 13 0
unfolding code13
too_short needed memory h = given_true 13 (ltb (length memory) needed) 0 (lt-ltb (length memory) needed h)

pub long_enough : (needed : ℕ) (memory : List ℕ) → needed ≤ length memory → code13 needed memory ≡ done 0
unfolding code13
long_enough needed memory h = given_false 13 (ltb (length memory) needed) 0 (le-ltb (length memory) needed h)

-- a code other than 0 is a refusal
pub refuses : {r : Answer} (code number : ℕ) → r ≡ refused (suc code) number → r.code ≡ 0 → ⊥
refuses code number e z = let n : suc code ≡ 0 = sym (ap (λ (a : Answer). a.code) e) ∙ z in omega arith

-- three rules in a row, and what is behind them
pub three : (x y z behind : Answer) → cond (is_done x) (cond (is_done y) (cond (is_done z) behind z) y) x ≡ cond (is_done (cond (is_done x) (cond (is_done y) z y) x)) behind (cond (is_done x) (cond (is_done y) z y) x)
three x y z behind =
    ⊎_elim
    (λ (d : is_done x ≡ true). ⊎_elim (λ (e : is_done y ≡ true). rw (d, e)) (λ (e : is_done y ≡ false). rw (d, e, e)) (bool_cases (is_done y)))
    (λ (d : is_done x ≡ false). rw (d, d))
    (bool_cases (is_done x))

-- the rules after those of the book: on the run area, on the grant buffer, and on the run
abbrev rule10 : Advancing → Answer
rule10 a = code10 (said a.book) (releases_of (said a.book) (state_in a.area)) (state_in a.area)

abbrev rule12 : Advancing → Answer
rule12 a = code12 (state_in a.area)

abbrev rule11 : Advancing → Answer
rule11 a = code11 (said a.book) (releases_of (said a.book) (state_in a.area)) (state_in a.area)

abbrev run_rules : List (Advancing → Answer)
run_rules = rule10 ∷ rule12 ∷ rule11 ∷ []

abbrev grant_rule : Advancing → Answer
grant_rule a = code13 (grant_bytes * (said a.book).flows) a.grants

abbrev grant_rules : List (Advancing → Answer)
grant_rules = grant_rule ∷ run_rules

abbrev area_rules : List (Advancing → Answer)
area_rules = (λ a. code13 area_bytes a.area) ∷ grant_rules

abbrev count : Advancing → ℕ
count a = length (flows_granted a)

module _ (b area grants : List ℕ) where
  -- what the call is handed
  abbrev handed : Advancing
  handed = record { book = b; area = area; grants = grants }

  -- refused, nothing is touched
  pub advance_refused : (r : Answer) → advance_answer handed ≡ r → (r.code ≡ 0 → ⊥) → Advances handed r area grants
  unfolding advance_by is_done
  advance_refused r e n =
      record {
        answer = sym e;
        area = rw (e, ne_eqb r.code 0 n);
        grants = rw (e, ne_eqb r.code 0 n);
      }

  pub book_refused : ((read_answer b).code ≡ 0 → ⊥) → advance_answer handed ≡ read_answer b
  unfolding advance_answer_by read_answer is_done
  book_refused n = first_of_on (λ (a : Advancing). a.book) book_rules area_rules count handed ∙ rw (ne_eqb (first_of book_rules no_number b).code 0 n)

  module _ (opened : (read_answer b).code ≡ 0) where
    left_to : advance_answer handed ≡ first_of area_rules count handed
    unfolding advance_answer_by read_answer is_done
    left_to = first_of_on (λ (a : Advancing). a.book) book_rules area_rules count handed ∙ rw (eq-eqb (first_of book_rules no_number b).code 0 opened)

    pub area_short : length area < area_bytes → advance_answer handed ≡ refused 13 0
    area_short h =
        let e : code13 area_bytes area ≡ refused 13 0 = too_short area_bytes area h in
        left_to ∙ first_of_refuse _ _ count handed (refuses 12 0 e) ∙ e

    module _ (room : area_bytes ≤ length area) where
      area_fits : advance_answer handed ≡ first_of grant_rules count handed
      area_fits = left_to ∙ first_of_pass _ _ count handed (ap (λ (r : Answer). r.code) (long_enough area_bytes area room))

      pub grants_short : length grants < grant_bytes * (said b).flows → advance_answer handed ≡ refused 13 0
      grants_short h =
          let e : code13 (grant_bytes * (said b).flows) grants ≡ refused 13 0 = too_short (grant_bytes * (said b).flows) grants h in
          area_fits ∙ first_of_refuse _ _ count handed (refuses 12 0 e) ∙ e

      module _ (lent : grant_bytes * (said b).flows ≤ length grants) where
        pub by_run :
            advance_answer handed
            ≡ cond (is_done (slot_answer (said b) area)) (done (length (flows_granted handed))) (slot_answer (said b) area)
        unfolding run_answer first_of
        by_run =
            let f : Facts = said b in
            let s : State = state_in area in
            let r : Releases = releases_of f s in
            area_fits
            ∙ first_of_pass grant_rule run_rules count handed (ap (λ (x : Answer). x.code) (long_enough (grant_bytes * (said b).flows) grants lent))
            ∙ first_of_rule rule10 (rule12 ∷ rule11 ∷ []) count handed
            ∙ ap (λ (w : Answer). cond (is_done (code10 f r s)) w (code10 f r s))
            (first_of_rule rule12 (rule11 ∷ []) count handed
            ∙ ap (λ (w : Answer). cond (is_done (code12 s)) w (code12 s)) (first_of_rule rule11 [] count handed))
            ∙ three (code10 f r s) (code12 s) (code11 f r s) (done (length (flows_granted handed)))

        -- a slot over the book's sections is the slot of the book: its node count bears on nothing
        abbrev ours : Facts
        ours = facts_in 0 (sections_of b).flows (sections_of b).rows (sections_of b).records (sections_of b).steps

        same_answer : slot_answer ours area ≡ slot_answer (said b) area
        unfolding run_answer code10 code11 bad_place overrun released said facts_of
        same_answer = refl

        same_granted : slot_granted ours area ≡ slot_granted (said b) area
        unfolding granted_by greedy unfinished next_step done_now released step_of first_step said facts_of
        same_granted = refl

        same_next : area_of ours.flows (next_state ours (releases_of ours (state_in area)) (state_in area)) ≡ next_area_by greedy releases_of handed
        unfolding next_area_by next_state_by granted_by greedy unfinished next_step done_now released step_of first_step said facts_of
        same_next = refl

        same_grants :
            grants_of (grant_of ours (releases_of ours (state_in area)) (state_in area)) (slot_granted ours area) ≡ grants_in_by greedy releases_of handed
        unfolding grants_in_by flows_granted_by grant_of instance_at granted_by greedy unfinished next_step done_now released step_of first_step said facts_of
        same_grants = refl

        same_count : slot_granted ours area ≡ flows_granted handed
        unfolding flows_granted_by
        same_count = same_granted

        module _ (r : Answer) (left made : List ℕ) (ran : RunsSlot ours area grants r left made) where
          slot_runs : (slot_answer (said b) area).code ≡ 0 → Advances handed r left made
          unfolding advance_by is_done
          slot_runs z =
              let passes : (slot_answer ours area).code ≡ 0 = ap (λ (x : Answer). x.code) same_answer ∙ z in
              let all : advance_answer handed ≡ done (length (flows_granted handed)) = by_run ∙ rw (eq-eqb (slot_answer (said b) area).code 0 z) in
              record {
                answer = ran.answer passes ∙ ap (λ (is : List ℕ). done (length is)) same_count ∙ sym all;
                area = rw all (ran.area passes ∙ ap (λ (bytes : List ℕ). over bytes area) same_next);
                grants = rw all (ran.grants passes ∙ ap (λ (bytes : List ℕ). over bytes grants) same_grants);
              }

          slot_stops : ((slot_answer (said b) area).code ≡ 0 → ⊥) → Advances handed r left made
          unfolding is_done
          slot_stops n =
              let (same, kept, lent_as) = ran.refused (λ z. n (sym (ap (λ (x : Answer). x.code) same_answer) ∙ z)) in
              let stops : advance_answer handed ≡ r = by_run ∙ rw (ne_eqb (slot_answer (said b) area).code 0 n) (sym (same ∙ same_answer)) in
              rw (kept, lent_as) (advance_refused r stops (λ z. n (sym (ap (λ (x : Answer). x.code) (same ∙ same_answer)) ∙ z)))

          pub slot_advances : Advances handed r left made
          slot_advances =
              ⊎_elim (λ e. slot_runs (eqb-true (slot_answer (said b) area).code 0 e)) (λ e. slot_stops (eqb-false (slot_answer (said b) area).code 0 e))
              (bool_cases (eqb (slot_answer (said b) area).code 0))
