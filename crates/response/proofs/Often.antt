-- Laws of `often`, the count of slots in which a test holds. Assumes nothing.
use Prim.Native.Nat.{ℕ, zero, suc, ◌+◌}
use mathlib.Core.Path.{◌≡◌, refl}
use mathlib.Core.Bool.{Bool}
use native.Mathlib.Omega.{arith}
use Rattle.trade.specs.First.{sum_to}
use Rattle.trade.specs.Interference.{one}
use Rattle.response.specs.Course.{Course, often, waiting}
use Rattle.response.proofs.One.{one_not}

pub often_none : (test : ℕ → Bool) (r : ℕ) → often test r 0 ≡ 0
unfolding often sum_to
often_none test r = refl

pub often_suc : (test : ℕ → Bool) (r w : ℕ) → often test r (suc w) ≡ often test r w + one (test (r + w))
unfolding often sum_to
often_suc test r w = refl

-- in each slot a flow goes or waits
pub goes_or_waits : (c : Course) (r w : ℕ) → often c.goes r w + waiting c r w ≡ w
unfolding often sum_to waiting
goes_or_waits c r zero = refl
goes_or_waits c r (suc w) = omega (arith, goes_or_waits c r w, one_not (c.goes (r + w)))
