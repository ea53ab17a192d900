-- `sections::rows::has_above` meets its contract: the two shifts are one by n. Assumes nothing.
use Prim.Native.Nat.{◌+◌, ◌-◌}
use mathlib.Core.Path.{◌≡◌, refl}
use native.Mathlib.Omega.{arith}
use lib.Pow.{shr-shr}
use Rattle.sections.proofs.rows.has_above.Goals as goal

pub returns : goal.returns
returns c =
    let a = c.args in
    let e : a.nodes - 1 + 1 ≡ a.nodes = omega arith in
    rw (shr-shr a.set (a.nodes - 1) 1, e) refl
