-- `rules::rules::leave_answer` meets its contract: code 15 is given where the test holds. Assumes nothing.
use mathlib.Core.Path.{refl}
use borrow.Author.Tests.{le-leb, lt-leb}
use Rattle.trade.specs.Facts.{facts_of}
use Rattle.trade.specs.Answers.{given}
use Rattle.trade.specs.Codes.{code15_removing}
use Rattle.rules.proofs.rules.leave_answer.Goals as goal

pub returns-then-flows-place : goal.returns-then-flows-place
unfolding code15_removing given facts_of
returns-then-flows-place c = rw (le-leb _ _ c.if-flows-place.true) refl

pub returns : goal.returns
unfolding code15_removing given facts_of
returns c = rw (lt-leb _ _ c.if-flows-place.false) refl
