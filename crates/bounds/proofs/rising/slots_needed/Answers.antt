-- `bounds::rising::slots_needed` meets its contract: the sum is that of the flows passed. Assumes nothing.
use Prim.Native.Nat.{ℕ, ◌*◌}
use native.Mathlib.Nat.{mul-le-mul, add_assoc}
use native.Mathlib.Numerals.{add-one}
use native.Mathlib.Omega.{arith}
use lib.ListN.{get_or}
use Rattle.trade.specs.First.{sum_to}
use Rattle.trade.specs.Bound.{instances}
use Rattle.trade.proofs.Sums.{sum_next}
use Rattle.bounds.specs.Terms.{needed_in}
use Rattle.bounds.proofs.rising.slots_needed.Goals as goal

pub loop-h-init : goal.loop-h-init
unfolding needed_in sum_to
loop-h-init c = (omega arith, omega arith)

pub loop-h-preserved : goal.loop-h-preserved
unfolding needed_in
loop-h-preserved c =
    let a = c.args in
    let loop = c.loop-h in
    let term : ℕ → ℕ = λ h. instances a.r (get_or a.carries.now h 0) (get_or a.periods.now h 0) * get_or a.figures.now h 0 in (
      omega (arith, mul-le-mul c.instances.ensures.1 (c.requires.0.figure loop.h (omega arith))),
      rw (add-one loop.h, sum_next term loop.h, loop.invariant.1, c.instances.ensures.0) (add_assoc a.len (sum_to term loop.h) (term loop.h)),
    )
