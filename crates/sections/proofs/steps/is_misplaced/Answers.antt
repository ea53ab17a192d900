-- `sections::steps::is_misplaced` meets its contract: each of the three tests stands as in the definition. Assumes nothing.
use mathlib.Core.Path.{refl}
use Rattle.sections.specs.Steps.{misplaced}
use Rattle.sections.proofs.steps.is_misplaced.Goals as goal

pub returns : goal.returns
unfolding misplaced
returns c = rw c.eq.ensures refl
