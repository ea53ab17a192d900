-- `rules::rules::enter_answer` meets its contract: each answer stands behind the tests that led to it. Assumes nothing.
use mathlib.Core.Path.{sym, ◌∙◌}
use borrow.Author.Tests.{eq-eqb, ne_eqb, lt-ltb, le-ltb}
use Rattle.trade.specs.Facts.{facts_of}
use Rattle.trade.specs.Answers.{is_done, given, no_number}
use Rattle.trade.specs.Codes.{code14, code15_adding}
use Rattle.trade.proofs.Answers.{first_of_rule, passed_none, passed_more, passed_done}
use Rattle.rules.proofs.rules.enter_answer.Goals as goal

pub returns-then-flows-eq-MOST : goal.returns-then-flows-eq-MOST
unfolding is_done code14 given facts_of
returns-then-flows-eq-MOST c = sym (first_of_rule code14 _ no_number _ ∙ rw (eq-eqb _ _ c.if-flows-eq-MOST.true))

pub returns-then-flows-place : goal.returns-then-flows-place
unfolding is_done code14 code15_adding given facts_of
returns-then-flows-place c =
    sym
    (first_of_rule code14 _ no_number _
    ∙ rw (ne_eqb _ _ c.if-flows-eq-MOST.false)
    (first_of_rule _ _ no_number _ ∙ rw (lt-ltb _ _ c.if-flows-place.true)))

pub returns : goal.returns
unfolding code14 code15_adding given facts_of
returns c =
    sym
    (passed_done no_number
    (passed_more (rw (ne_eqb _ _ c.if-flows-eq-MOST.false)) (passed_more (rw (le-ltb _ _ c.if-flows-place.false)) passed_none)))
