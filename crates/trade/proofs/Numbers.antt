-- The number that goes with an answer of check, start or advance is small enough to be packed for C. Leans on Answers and Valid.
-- Assumes nothing.
use Prim.Native.Nat.{ℕ, zero, suc, ◌≤◌, ◌<◌}
use mathlib.Core.Path.{◌≡◌}
use mathlib.Core.Bool.{Bool, true, false, cond, not, ◌&&◌}
use mathlib.Core.Logic.{◌⊎◌, inl, inr, ⊎_elim}
use mathlib.Core.List.{List, [], ◌∷◌, ◌++◌}
use native.Mathlib.Omega.{arith}
use lib.Dec.{ltb}
use lib.ListN.{length, length-append}
use borrow.Author.Tests.{eqb-true, ltb-false}
use Rattle.trade.specs.Limits.{most_nodes, most_flows, most_steps, packing, end_of_clock}
use Rattle.trade.specs.First.{first, some, sum_to}
use Rattle.trade.specs.Facts.{Facts, said, first_step, all_steps}
use Rattle.trade.specs.Answers.{refused, is_done, given, given_first, first_of, on, no_number}
use Rattle.trade.specs.Codes.{outside, code1, code2, code3, code4, code5, code6, code7, code8, code13, bad_row, bad_record, bad_step}
use Rattle.trade.specs.Bound.{Measure, code9_by}
use Rattle.trade.specs.Slot.{State, Rule, going, Waits, Releases, granted_by}
use Rattle.trade.specs.Area.{state_in}
use Rattle.trade.specs.SlotCodes.{code10, code11, code12, bad_place}
use Rattle.trade.specs.Calls.{Starting, Advancing, book_rules, check_rules_by, check_answer_by, start_answer_by, flows_granted_by, advance_answer_by}
use Rattle.trade.specs.declared.answer.Answer.{Answer}
use Rattle.trade.proofs.First.{bool_cases, first_within, or_false}
use Rattle.trade.proofs.Sums.{sum_most}
use Rattle.trade.proofs.Answers.{Passed, passed_none, passed_more, passed_head, passed_tail, passed_first, first_of_rule, given_passed}
use Rattle.trade.proofs.Valid.{valid}
use Rattle.trade.proofs.SlotLaws.{going_goes, going_stays}

-- each rule's number fits, where the rules before it have passed
pub data Fitting {A : Type 0} (x : A) : List (A → Answer) → Type 0 where
  fits_none : Fitting x []
  fits_more : {rule : A → Answer} {rules : List (A → Answer)} → (rule x).number < packing → ((rule x).code ≡ 0 → Fitting x rules) → Fitting x (rule ∷ rules)

-- so the answer's does
pub first_of_fits : {A : Type 0} {x : A} {rules : List (A → Answer)} (number : A → ℕ) → Fitting x rules → (Passed x rules → number x < packing) → (first_of rules number x).number < packing
unfolding first_of is_done
first_of_fits number fits_none n = n passed_none
first_of_fits {x = x} number (fits_more {rule = rule} {rules = rules} l rest) n =
    step (λ e. first_of_fits number (rest e) (λ p. n (passed_more e p))) (bool_cases (is_done (rule x)))
  where
    step :
        ((rule x).code ≡ 0 → (first_of rules number x).number < packing)
        → (is_done (rule x) ≡ true) ⊎ (is_done (rule x) ≡ false)
        → (first_of (rule ∷ rules) number x).number < packing
    step later (inl d) = rw (first_of_rule rule rules number x, d) (later (eqb-true (rule x).code 0 d))
    step later (inr d) = rw (first_of_rule rule rules number x, d) l

pub fits_append : {A : Type 0} {x : A} {rules more : List (A → Answer)} → Fitting x rules → (Passed x rules → Fitting x more) → Fitting x (rules ++ more)
fits_append fits_none m = m passed_none
fits_append (fits_more l rest) m = fits_more l (λ e. fits_append (rest e) (λ p. m (passed_more e p)))

pub fits_on : {A B : Type 0} (look : B → A) {x : B} {rules : List (A → Answer)} → Fitting (look x) rules → Fitting x (on look rules)
unfolding on
fits_on look fits_none = fits_none
fits_on look (fits_more l rest) = fits_more l (λ e. fits_on look (rest e))

-- the number of a rule with one condition, and of one that searches
given_number : (code : ℕ) (test : Bool) (number : ℕ) → (given code test number).number ≤ number
unfolding given
given_number code true number = omega arith
given_number code false number = omega arith

first_number : (code : ℕ) (bad : ℕ → Bool) (n : ℕ) → (given_first code bad n).number ≤ n
unfolding given_first
first_number code bad n = omega (arith, given_number code (some bad n) (first bad n), first_within bad n)

zero_fits : (code : ℕ) (test : Bool) → (given code test 0).number < packing
zero_fits code test = omega (arith, given_number code test 0)

-- the counts of facts that pass code 3
counted : (f : Facts) → (code3 f).code ≡ 0 → (f.nodes ≤ most_nodes) × (f.flows ≤ most_flows)
unfolding code3 outside
counted f e =
    let p = or_false (outside 1 most_nodes f.nodes) (outside 0 most_flows f.flows) (given_passed 2 _ 0 e) in (
      ltb-false _ _ (or_false (ltb f.nodes 1) (ltb most_nodes f.nodes) p.0).1,
      ltb-false _ _ (or_false (ltb f.flows 0) (ltb most_flows f.flows) p.1).1,
    )

rows_fit : (f : Facts) → (code3 f).code ≡ 0 → (code5 f).number < packing
unfolding code5
rows_fit f e = omega (arith, first_number 5 (bad_row f) f.nodes, (counted f e).0)

records_fit : (f : Facts) → (code3 f).code ≡ 0 → (code6 f).number < packing
unfolding code6
records_fit f e = omega (arith, first_number 6 (bad_record f) f.flows, (counted f e).1)

steps_fit : (f : Facts) → (code3 f).code ≡ 0 → (code6 f).code ≡ 0 → (code8 f).number < packing
unfolding code8 all_steps first_step
steps_fit f e3 e6 =
    let v = valid f e3 e6 in
    omega (arith, first_number 8 (bad_step f) (sum_to f.len f.flows), sum_most f.len most_steps f.flows (λ i h. (v.records i h).len.most), (counted f e3).1)

flows_fit : (code : ℕ) (f : Facts) (bad : ℕ → Bool) → (code3 f).code ≡ 0 → (given_first code bad f.flows).number < packing
flows_fit code f bad e = omega (arith, first_number code bad f.flows, (counted f e).1)

-- rules 1 to 8: a row is below 64, a record below 32, a step below 32 × 32
book_fits : (b : List ℕ) → Fitting b book_rules
unfolding book_rules code1 code2 code3 code4 code7
book_fits b =
    fits_more (zero_fits 1 _)
    (λ e1.
    fits_more (zero_fits 2 _)
    (λ e2.
    fits_more (zero_fits 3 _)
    (λ e3.
    fits_more (zero_fits 4 _)
    (λ e4.
    fits_more (rows_fit (said b) e3)
    (λ e5.
    fits_more (records_fit (said b) e3)
    (λ e6. fits_more (zero_fits 7 _) (λ e7. fits_more (steps_fit (said b) e3 e6) (λ e8. fits_none))))))))

third : (b : List ℕ) → Passed b book_rules → (code3 (said b)).code ≡ 0
unfolding book_rules
third b p = passed_head (passed_tail (passed_tail p))

-- CHECK and START, by any measure
module _ (measured : Facts → Measure) where
  check_fits : (b : List ℕ) → Fitting b (check_rules_by measured)
  unfolding check_rules_by code9_by
  check_fits b = fits_append (book_fits b) (λ p. fits_more (flows_fit 9 (said b) _ (third b p)) (λ e. fits_none))

  pub check_number : (b : List ℕ) → (check_answer_by measured b).number < packing
  unfolding check_answer_by
  check_number b = first_of_fits no_number (check_fits b) (λ p. omega arith)

  pub start_number : (s : Starting) → (start_answer_by measured s).number < packing
  unfolding start_answer_by code13
  start_number s =
      first_of_fits no_number
      (fits_append (fits_on (λ (t : Starting). t.book) (check_fits s.book)) (λ p. fits_more (zero_fits 13 _) (λ e. fits_none)))
      (λ p. omega arith)

-- ADVANCE, by any rule of waiting and any releases
passed_off : {A B : Type 0} (look : B → A) {x : B} (rules : List (A → Answer)) → Passed x (on look rules) → Passed (look x) rules
unfolding on
passed_off look [] p = passed_none
passed_off look (rule ∷ rules) p = passed_more (passed_head p) (passed_off look rules (passed_tail p))

area_fits : (f : Facts) (r : Releases) (s : State) → (code10 f r s).number < packing
unfolding code10
area_fits f r s = step (ltb end_of_clock s.slot)
  where
    step : (b : Bool) → (cond b (refused 10 0) (given_first 10 (bad_place f r s) most_flows)).number < packing
    step true = omega arith
    step false = omega (arith, first_number 10 (bad_place f r s) most_flows)

-- no more flows go than are taken
pub going_few : (waits : Rule) (work : ℕ → Bool) (k : ℕ) → length (going waits work k) ≤ k
unfolding going
going_few waits work zero = omega arith
going_few waits work (suc k) =
    ⊎_elim (λ e. rw (going_goes waits work k e, length-append (going waits work k) (k ∷ [])) (omega (arith, going_few waits work k)))
    (λ e. rw (going_stays waits work k e) (omega (arith, going_few waits work k)))
    (bool_cases (work k && not (waits (going waits work k) k)))

module _ (waits : Waits) (releases : Facts → State → Releases) where
  few_granted : (a : Advancing) → length (flows_granted_by waits releases a) ≤ (said a.book).flows
  unfolding flows_granted_by granted_by
  few_granted a = going_few _ _ (said a.book).flows

  pub advance_number : (a : Advancing) → (advance_answer_by waits releases a).number < packing
  unfolding advance_answer_by code12 code13 code11
  advance_number a =
      first_of_fits (λ (x : Advancing). length (flows_granted_by waits releases x))
      (fits_append (fits_on (λ (x : Advancing). x.book) (book_fits a.book))
      (λ p.
      let three = third a.book (passed_off (λ (x : Advancing). x.book) book_rules p) in
      fits_more (zero_fits 13 _)
      (λ e.
      fits_more (zero_fits 13 _)
      (λ e'.
      fits_more (area_fits (said a.book) (releases (said a.book) (state_in a.area)) (state_in a.area))
      (λ e''. fits_more (zero_fits 12 _) (λ e'''. fits_more (flows_fit 11 (said a.book) _ three) (λ z. fits_none)))))))
      (λ p.
      let three = third a.book (passed_off (λ (x : Advancing). x.book) book_rules (passed_first (on (λ (x : Advancing). x.book) book_rules) _ p)) in
      omega (arith, few_granted a, (counted (said a.book) three).1))
