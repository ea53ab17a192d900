-- `sections::at_once::is_off` meets its contract: two steps are the same if their numbers are. Assumes nothing.
use mathlib.Core.Path.{refl}
use Rattle.trade.specs.Codes.{repeats, goes_on}
use Rattle.sections.specs.Steps.{unjoined, own, off}
use Rattle.sections.proofs.AtOnceLaws.{both_equal}
use Rattle.sections.proofs.at_once.is_off.Goals as goal

pub returns : goal.returns
unfolding off own unjoined repeats goes_on
returns c =
    let step = c.both_at-step.ensures in
    let before = c.both_at-before.ensures in
    rw (
      both_equal c.both_at-step.result c.both_at-before.result,
      step.0,
      step.1,
      before.0,
      before.1,
    ) refl
