-- `slot::release::is_released` counts from the first release, and before it nothing is released. Assumes nothing.
use native.Mathlib.Omega.{arith}
use Rattle.std.proofs.lemmas.Bool.Decides.{nat_tests}
use Rattle.slot.specs.Release.{released_at}
use Rattle.slot.proofs.release.is_released.Goals as goal

pub returns-then-le : goal.returns-then-le
unfolding released_at
returns-then-le c = grind (arith, nat_tests)

pub returns-else-le : goal.returns-else-le
unfolding released_at
returns-else-le c = grind (arith, nat_tests)
