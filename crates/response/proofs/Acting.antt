-- Laws of `acting`, the count of a flow's instances that act in a window. Assumes nothing.
use Prim.Native.Nat.{ℕ, suc, ◌+◌}
use mathlib.Core.Path.{◌≡◌}
use native.Mathlib.Omega.{arith}
use native.Mathlib.Nat.{suc-add}
use native.Mathlib.Numerals.{sub-one}
use lib.Dec.{ltb}
use Rattle.trade.specs.Interference.{one}
use Rattle.response.specs.Course.{Course, acting}
use Rattle.response.proofs.Often.{often_none, often_suc}

-- in a window of one slot, the instance that is unfinished there
pub acting_one : (c : Course) (r : ℕ) → acting c r 1 ≡ one (ltb (c.done r) c.len)
unfolding acting
acting_one c r = omega (arith, often_none c.released (suc r))

-- a window of one more slot has one more instance where the slot has a release
pub acting_suc : (c : Course) (r k : ℕ) → acting c r (suc (suc k)) ≡ acting c r (suc k) + one (c.released (suc (r + k)))
unfolding acting
acting_suc c r k = rw (sub-one, sub-one, often_suc, suc-add) (omega arith)
