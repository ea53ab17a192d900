-- `sections::at_once::both_at` meets its contract: the lower byte is below 256. Assumes nothing.
use native.Mathlib.Omega.{arith}
use Prim.Native.Nat.{◌+◌, ◌*◌}
use Rattle.trade.specs.Facts.{step_in}
use Rattle.sections.proofs.at_once.both_at.Goals as goal

pub overflow_cast-result : goal.overflow_cast-result
overflow_cast-result c = omega (arith, c.type_inv.steps (2 * c.args.k + 1))

pub overflow_mul-result : goal.overflow_mul-result
overflow_mul-result c = omega (arith, c.type_inv.steps (2 * c.args.k + 1))

pub overflow_cast-result-2 : goal.overflow_cast-result-2
overflow_cast-result-2 c = omega (arith, c.type_inv.steps (2 * c.args.k))

pub overflow_add-result-2 : goal.overflow_add-result-2
overflow_add-result-2 c = omega (arith, c.type_inv.steps (2 * c.args.k + 1), c.type_inv.steps (2 * c.args.k))

pub returns : goal.returns
unfolding step_in
returns c = (omega (arith, c.type_inv.steps (2 * c.args.k)), omega (arith, c.type_inv.steps (2 * c.args.k)))
