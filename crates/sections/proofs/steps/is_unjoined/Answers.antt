-- `sections::steps::is_unjoined` meets its contract: the tests stand as in the definition. Assumes nothing.
use mathlib.Core.Path.{refl}
use Rattle.sections.specs.Steps.{unjoined}
use Rattle.trade.specs.Codes.{repeats, goes_on}
use Rattle.sections.proofs.steps.is_unjoined.Goals as goal

pub returns : goal.returns
unfolding unjoined repeats goes_on
returns c = rw (c.eq-repeats.ensures, c.eq-goes_on.ensures) refl
