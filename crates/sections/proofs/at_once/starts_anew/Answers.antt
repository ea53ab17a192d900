-- `sections::at_once::starts_anew` meets its contract: a plan with a step has a first one. Assumes nothing.
use mathlib.Core.Path.{refl}
use borrow.Author.Tests.{eq-eqb, ne_eqb}
use Rattle.trade.specs.Codes.{repeats, goes_on}
use Rattle.sections.specs.Steps.{unjoined, own, fresh}
use Rattle.sections.proofs.AtOnceLaws.{both_equal}
use Rattle.sections.proofs.at_once.starts_anew.Goals as goal

pub returns-then-len-eq0 : goal.returns-then-len-eq0
returns-then-len-eq0 c = rw (eq-eqb _ _ c.if-len-eq0.true) refl

pub returns : goal.returns
unfolding fresh own unjoined repeats goes_on
returns c =
    let a = c.args in
    let step = c.both_at-step.ensures in
    let last = c.both_at-last.ensures in
    rw (
      both_equal c.both_at-step.result c.both_at-last.result,
      step.0,
      step.1,
      last.0,
      last.1,
      c.saturating_sub.ensures,
      ne_eqb a.len 0 c.if-len-eq0.false,
    ) refl
