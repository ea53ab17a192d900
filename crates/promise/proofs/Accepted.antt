-- What a check says of a book that it accepts by a measure, and that it decides by it: for any measure. Assumes nothing.
use Prim.Native.Nat.{ℕ, ◌≤◌, ◌<◌}
use mathlib.Core.Path.{◌≡◌, sym, ◌∙◌, ap, subst}
use mathlib.Core.Logic.{◌↔◌}
use mathlib.Core.List.{List}
use native.Mathlib.Omega.{arith}
use lib.Dec.{eqb}
use lib.ListN.{length, get_or, length-replicate, get_or-eq_default}
use borrow.Author.Tests.{eqb-true, eqb-false, not-true}
use Rattle.trade.specs.Limits.{most_flows}
use Rattle.trade.specs.First.{some, list_to}
use Rattle.trade.specs.Facts.{Facts, facts_of, said}
use Rattle.trade.specs.Kept.{Tabled, RightFigures, kept_measure}
use Rattle.trade.specs.Answers.{given_first, on, no_number}
use Rattle.trade.specs.Bound.{Measure, measure, Admissible, bound_by, boundless_by, accepted_by, code9_by}
use Rattle.trade.specs.Calls.{Checked, book_rules, table_rules, read_answer, check_rules_by, check_answer_by, bounds_by, check_by, kept_rules_by, check_kept_of, check_kept_by}
use Rattle.promise.specs.Demands.{Done, reported, AllBounded, DecidesBooks, WellFormed, DecidesTables}
use Rattle.trade.specs.declared.answer.Answer.{Answer}
use Rattle.trade.proofs.Sums.{length_list_to, get_d_list_to}
use Rattle.trade.proofs.Bytes.{byte_padded, length_padded}
use Rattle.trade.proofs.Bound.{bound_admissible, bound_smallest, boundless_false, accepted_exactly}
use Rattle.trade.proofs.Answers.{done_first, refused_second, Passed, passed_none, passed_more, passed_append, passed_first, passed_look, passed_done, first_of_passed, given_false, given_passed, given_first_passed}
use Rattle.trade.proofs.Valid.{Valid, table_valid, book_valid, check_bounds}
use Rattle.trade.proofs.RoundTrip.{kept_right}
use Rattle.response.specs.Waiting.{Bounded}
use Rattle.response.proofs.Cases.{by_test}
use Rattle.response.proofs.Promise.{admissible_bounded}
use Rattle.promise.proofs.Meets.{by_definition}
use Rattle.promise.proofs.Sound.{Carries}

-- the bounds of facts by a measure, as they are reported: zeros elsewhere
module _ (f : Facts) (μ : Measure) where
  pub listed_bound : (l : ℕ) → l < f.flows → get_or (bounds_by f μ) l 0 ≡ bound_by f μ l
  unfolding bounds_by
  listed_bound l h = byte_padded most_flows (list_to (bound_by f μ) f.flows) l ∙ get_d_list_to (bound_by f μ) f.flows l h

  pub listed_elsewhere : (l : ℕ) → f.flows ≤ l → get_or (bounds_by f μ) l 0 ≡ 0
  unfolding bounds_by
  listed_elsewhere l h =
      byte_padded most_flows (list_to (bound_by f μ) f.flows) l
      ∙ get_or-eq_default (list_to (bound_by f μ) f.flows) 0 (omega (arith, length_list_to (bound_by f μ) f.flows))

  listed_places : f.flows ≤ most_flows → length (bounds_by f μ) ≡ most_flows
  unfolding bounds_by
  listed_places m =
      length_padded most_flows (list_to (bound_by f μ) f.flows) (omega (arith, length_list_to (bound_by f μ) f.flows))

-- the bounds of a book's flows
abbrev bounds_in : (Facts → Measure) → List ℕ → ℕ → ℕ
bounds_in measured b = bound_by (said b) (measured (said b))

-- a book that check accepts
module _ (measured : Facts → Measure) (b : List ℕ) (accepted : Done (check_by measured b).answer) where
  pub check_passed : Passed b (check_rules_by measured)
  unfolding check_by check_answer_by
  check_passed = first_of_passed (check_rules_by measured) no_number b accepted

  pub book_passed : Passed b book_rules
  unfolding check_rules_by
  book_passed = passed_first book_rules _ check_passed

  pub accepted_valid : Valid (said b)
  accepted_valid = book_valid b book_passed

  -- its bounds are admissible,
  pub accepted_admissible :
      (l : ℕ) → l < (said b).flows → Admissible (said b) (measured (said b)) l (bounds_in measured b l)
  accepted_admissible = check_bounds measured b check_passed

  -- and so are bounds, where the carry-in is no less
  pub accepted_bounded :
      Carries measured
      → Bounded (said b).flows (said b).len (said b).period (measured (said b)) (bounds_in measured b)
  accepted_bounded carries =
      admissible_bounded (said b) (measured (said b)) (bounds_in measured b)
      (λ l h. (accepted_valid.records l h).len.least)
      (λ l h. (accepted_valid.records l h).deadline.most)
      (λ l h. carries (said b) l (accepted_admissible l h).deadline)
      accepted_admissible

  pub reports : (check_by measured b).bounds ≡ bounds_by (said b) (measured (said b))
  unfolding check_by
  reports = done_first (check_answer_by measured b) _ _ accepted

  pub reported_bound : (l : ℕ) → l < (said b).flows → reported (check_by measured b) l ≡ bounds_in measured b l
  reported_bound l h = ap (λ (all : List ℕ). get_or all l 0) reports ∙ listed_bound (said b) (measured (said b)) l h

-- code 9 is not given exactly where every flow has a response bound within its deadline
pub code9_exactly : (f : Facts) (μ : Measure) → Done (code9_by f μ) ↔ AllBounded f μ
unfolding code9_by accepted_by given_first
code9_exactly f μ = (
  λ e. (accepted_exactly f μ).0 (rw (given_passed 8 (some (boundless_by f μ) f.flows) _ e)),
  λ a. ap (λ (r : Answer). r.code) (given_false 9 _ _ (not-true _ ((accepted_exactly f μ).1 a))),
)

module _ (measured : Facts → Measure) where
  accepts : (b : List ℕ) → Done (read_answer b) → Done (check_by measured b).answer ↔ AllBounded (said b) (measured (said b))
  unfolding read_answer check_by check_answer_by check_rules_by
  accepts b e = (
    λ c l h. (bounds_in measured b l, accepted_admissible measured b c l h),
    λ a.
        ap (λ (r : Answer). r.code)
        (passed_done no_number
        (passed_append (first_of_passed book_rules no_number b e) (passed_more ((code9_exactly (said b) (measured (said b))).1 a) passed_none))),
  )

  places : (b : List ℕ) → length (check_by measured b).bounds ≡ most_flows
  unfolding check_by
  places b =
      by_test (eqb (check_answer_by measured b).code 0)
      (λ e.
      let accepted : Done (check_by measured b).answer = eqb-true (check_answer_by measured b).code 0 e in
      ap length (reports measured b accepted) ∙ listed_places (said b) (measured (said b)) (accepted_valid measured b accepted).flows)
      (λ e.
      ap length (refused_second (check_answer_by measured b) _ _ (eqb-false (check_answer_by measured b).code 0 e))
      ∙ length-replicate {A = ℕ} most_flows 0)

  -- CHECK DECIDES BY THE MEASURE: accepted exactly when every flow has a response bound within its deadline, the bounds the smallest
  pub check_decides : DecidesBooks measured (λ b given. given ≡ check_by measured b)
  check_decides =
      record {
        accepts = by_definition (check_by measured) _ accepts;
        bounded = by_definition (check_by measured) _ (λ b c l h. rw (reported_bound measured b c l h) (accepted_admissible measured b c l h));
        smallest =
            by_definition (check_by measured) _
            (λ b c l h R a. rw (reported_bound measured b c l h) (bound_smallest (said b) (measured (said b)) l R a));
        elsewhere =
            by_definition (check_by measured) _
            (λ b c l h. ap (λ (all : List ℕ). get_or all l 0) (reports measured b c) ∙ listed_elsewhere (said b) (measured (said b)) l h);
        places = by_definition (check_by measured) _ places;
      }

-- a table that its check accepts, by any measure, is well formed
pub kept_formed : (measured : Tabled → Measure) (t : Tabled) → Done (check_kept_by measured t).answer → Passed t.sections table_rules
unfolding check_kept_by kept_rules_by
kept_formed measured t c =
    passed_look (λ (u : Tabled). u.sections) table_rules
    (passed_first (on (λ (u : Tabled). u.sections) table_rules) _ (first_of_passed _ no_number t c))

-- A TABLE WITH RIGHT FIGURES: where it is well formed, its check is code 9 by interference
module _ (t : Tabled) (right : RightFigures t) where
  abbrev facts : Facts
  facts = facts_of t.sections

  right_answer : WellFormed t.sections → (check_kept_of t).answer ≡ code9_by facts (measure facts)
  right_answer w = ap (λ (c : Checked). c.answer) (kept_right t (first_of_passed table_rules no_number t.sections w) right)

  module _ (c : Done (check_kept_of t).answer) where
    right_nine : Done (code9_by facts (measure facts))
    right_nine = sym (ap (λ (k : Checked). k.answer.code) (kept_right t (kept_formed kept_measure t c) right)) ∙ c

    right_reports : (check_kept_of t).bounds ≡ bounds_by facts (measure facts)
    right_reports =
        ap (λ (k : Checked). k.bounds) (kept_right t (kept_formed kept_measure t c) right) ∙ done_first (code9_by facts (measure facts)) _ _ right_nine

    right_admissible : (l : ℕ) → l < facts.flows → Admissible facts (measure facts) l (bound_by facts (measure facts) l)
    unfolding code9_by
    right_admissible l h =
        bound_admissible facts (measure facts) l
        (boundless_false facts (measure facts) l (given_first_passed 8 _ facts.flows right_nine l h))

    right_bound : (l : ℕ) → l < facts.flows → reported (check_kept_of t) l ≡ bound_by facts (measure facts) l
    right_bound l h = ap (λ (all : List ℕ). get_or all l 0) right_reports ∙ listed_bound facts (measure facts) l h

  right_places : length (check_kept_of t).bounds ≡ most_flows
  unfolding check_kept_by
  right_places =
      by_test (eqb (check_kept_of t).answer.code 0)
      (λ e.
      let c : Done (check_kept_of t).answer = eqb-true (check_kept_of t).answer.code 0 e in
      ap length (right_reports c) ∙ listed_places facts (measure facts) (table_valid t.sections (kept_formed kept_measure t c)).flows)
      (λ e.
      ap length (refused_second (check_kept_of t).answer _ _ (eqb-false (check_kept_of t).answer.code 0 e))
      ∙ length-replicate {A = ℕ} most_flows 0)

-- THE CHECK OF A TABLE decides by interference where its figures are right
pub table_decides : DecidesTables measure (λ t given. given ≡ check_kept_of t)
table_decides =
    record {
      accepts =
          λ t given (right, e) w.
          subst (λ (k : Checked). Done k.answer ↔ AllBounded (facts_of t.sections) (measure (facts_of t.sections))) (sym e)
          (rw (right_answer t right w) (code9_exactly (facts_of t.sections) (measure (facts_of t.sections))));
      bounded =
          λ t given (right, e).
          subst (λ (k : Checked). Done k.answer → (l : ℕ) → l < (facts_of t.sections).flows → Admissible (facts_of t.sections) (measure (facts_of t.sections)) l (reported k l))
          (sym e) (λ c l h. rw (right_bound t right c l h) (right_admissible t right c l h));
      smallest =
          λ t given (right, e).
          subst (λ (k : Checked). Done k.answer → (l : ℕ) → l < (facts_of t.sections).flows → (R : ℕ) → Admissible (facts_of t.sections) (measure (facts_of t.sections)) l R → reported k l ≤ R)
          (sym e) (λ c l h R a. rw (right_bound t right c l h) (bound_smallest (facts_of t.sections) (measure (facts_of t.sections)) l R a));
      elsewhere =
          λ t given (right, e).
          subst (λ (k : Checked). Done k.answer → (l : ℕ) → (facts_of t.sections).flows ≤ l → reported k l ≡ 0)
          (sym e) (λ c l h. ap (λ (all : List ℕ). get_or all l 0) (right_reports t right c) ∙ listed_elsewhere (facts_of t.sections) (measure (facts_of t.sections)) l h);
      places = λ t given (right, e). rw e (right_places t right);
    }
