-- Laws of `ceil`, a quotient rounded up. Assumes nothing.
use Prim.Native.Nat.{ℕ, ◌+◌, ◌*◌, ◌≤◌, ◌<◌}
use native.Mathlib.Omega.{arith}
use native.Mathlib.Nat.{le-div_iff_mul-le}
use Rattle.trade.specs.Bound.{ceil}

-- a number is at most ceil(a / b) where its multiple of b is less than b above a
pub ceil_above : (a b n : ℕ) → 1 ≤ b → n * b < a + b → n ≤ ceil a b
unfolding ceil
ceil_above a b n b≥ h = (le-div_iff_mul-le b≥).1 (omega arith)
