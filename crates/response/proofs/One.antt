-- Laws of `one`, which counts a test as 1 or 0. Assumes nothing.
use Prim.Native.Nat.{◌+◌}
use mathlib.Core.Path.{◌≡◌, refl}
use mathlib.Core.Bool.{Bool, true, false, not}
use Rattle.trade.specs.Interference.{one}

pub one_holds : {b : Bool} → b ≡ true → one b ≡ 1
unfolding one
one_holds e = rw e

pub one_fails : {b : Bool} → b ≡ false → one b ≡ 0
unfolding one
one_fails e = rw e

pub one_not : (b : Bool) → one b + one (not b) ≡ 1
unfolding one
one_not true = refl
one_not false = refl
