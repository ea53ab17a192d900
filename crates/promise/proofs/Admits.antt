-- Adding, rule by rule: what a table that add takes has passed; and a flow enters exactly when every flow of the new table has a response
-- bound within its deadline. Assumes nothing.
use mathlib.Core.Path.{◌≡◌, sym, ◌∙◌, ap}
use mathlib.Core.Logic.{◌↔◌}
use mathlib.Core.List.{[], ◌∷◌, ◌++◌}
use native.Mathlib.Omega.{arith}
use borrow.Author.Tests.{eqb-false}
use Rattle.trade.specs.Limits.{most_flows}
use Rattle.trade.specs.Facts.{Facts, facts_of}
use Rattle.trade.specs.Layout.{Sections}
use Rattle.trade.specs.Kept.{Tabled}
use Rattle.trade.specs.Answers.{on, no_number}
use Rattle.trade.specs.Table.{used}
use Rattle.trade.specs.Exchange.{recut}
use Rattle.trade.specs.Codes.{bad_row, code3, code5, code6, code8, code14}
use Rattle.trade.specs.Bound.{Measure, measure}
use Rattle.trade.specs.Calls.{Adding, table_rules, old_rules, with_flow, enter_rules, new_rules_by, add_answer, add_answer_by}
use Rattle.trade.specs.declared.answer.Answer.{Answer}
use Rattle.trade.proofs.Answers.{Passed, passed_none, passed_more, passed_head, passed_tail, passed_append, passed_first, passed_others, passed_look, passed_done, first_of_passed, given_passed}
use Rattle.trade.proofs.Valid.{Valid, table_valid, code3_passes}
use Rattle.trade.proofs.Places.{alike_code5}
use Rattle.trade.proofs.Used.{used_same}
use Rattle.promise.specs.Demands.{Done, AllBounded, form_answer}
use Rattle.promise.proofs.Accepted.{code9_exactly}

-- a table that is to be changed has passed the rules of a table, and its figures
pub old_form : (t : Tabled) → Passed t old_rules → Passed t.sections table_rules
unfolding old_rules
old_form t p = passed_look (λ (u : Tabled). u.sections) table_rules (passed_first (on (λ (u : Tabled). u.sections) table_rules) _ p)

-- a table that add takes, by any measure: the old table passed its rules, then the place did, and then the new table
module _ (measured : Facts → Measure) (a : Adding) (e : Done (add_answer_by measured a)) where
  pub kept_passed : Passed a.table old_rules
  unfolding add_answer_by
  kept_passed =
      passed_look (λ (x : Adding). x.table) old_rules
      (passed_first (on (λ (x : Adding). x.table) old_rules) _ (first_of_passed _ no_number a e))

  pub old_passed : Passed a.table.sections table_rules
  old_passed = old_form a.table kept_passed

  pub others_passed : Passed a (enter_rules ++ on with_flow (new_rules_by measured))
  unfolding add_answer_by
  others_passed = passed_others (on (λ (x : Adding). x.table) old_rules) _ (first_of_passed _ no_number a e)

  pub new_passed : Passed (with_flow a) (new_rules_by measured)
  new_passed = passed_look with_flow (new_rules_by measured) (passed_others enter_rules _ others_passed)

  -- the counts of the new table are within their limits: there was place for one more flow
  new_code3 : (code3 (facts_of (with_flow a))).code ≡ 0
  unfolding enter_rules code14 facts_of with_flow recut used
  new_code3 =
      let v : Valid (facts_of a.table.sections) = table_valid a.table.sections old_passed in
      let full : a.table.sections.flows ≡ most_flows → ⊥ = eqb-false _ _ (given_passed 13 _ 0 (passed_head others_passed)) in
      code3_passes (facts_of (with_flow a)) v.nodes (record { least = omega arith; most = omega (arith, full, v.flows) })

  -- the rows stay
  new_code5 : (code5 (facts_of (with_flow a))).code ≡ 0
  unfolding table_rules code5 bad_row facts_of with_flow recut
  new_code5 =
      sym (ap (λ (r : Answer). r.code) (alike_code5 a.table.sections (used a.table.sections) (used_same a.table.sections)))
      ∙ passed_head (passed_tail old_passed)

  -- so what is put together passes the rules of a table,
  pub with_passes : Passed (with_flow a) table_rules
  unfolding table_rules new_rules_by
  with_passes =
      passed_more new_code3 (passed_more new_code5 (passed_more (passed_head new_passed) (passed_more (passed_head (passed_tail new_passed)) passed_none)))

-- A FLOW ENTERS exactly when every flow of the new table has a response bound within its deadline
pub admits : (a : Adding) → Done (form_answer a) → Done (add_answer a) ↔ AllBounded (facts_of (with_flow a)) (measure (facts_of (with_flow a)))
unfolding form_answer add_answer_by new_rules_by on
admits a e = (
  λ d. (code9_exactly _ _).0 (passed_head (passed_tail (passed_tail (new_passed measure a d)))),
  λ b.
      ap (λ (r : Answer). r.code)
      (passed_done no_number
      (passed_append old
      (passed_append (passed_first enter_rules _ others)
      (passed_more (passed_head form) (passed_more (passed_head (passed_tail form)) (passed_more ((code9_exactly _ _).1 b) passed_none)))))),
)
  where
    old : Passed a (on (λ (x : Adding). x.table) old_rules)
    old = passed_first (on (λ (x : Adding). x.table) old_rules) _ (first_of_passed _ no_number a e)

    others : Passed a (enter_rules ++ on with_flow ((λ (t : Sections). code6 (facts_of t)) ∷ (λ t. code8 (facts_of t)) ∷ []))
    others = passed_others (on (λ (x : Adding). x.table) old_rules) _ (first_of_passed _ no_number a e)

    form : Passed a (on with_flow ((λ (t : Sections). code6 (facts_of t)) ∷ (λ t. code8 (facts_of t)) ∷ []))
    form = passed_others enter_rules _ others
