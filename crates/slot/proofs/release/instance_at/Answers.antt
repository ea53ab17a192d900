-- `slot::release::instance_at` divides the slots since the first release by the period; there are none before it. Assumes nothing.
use Prim.Native.Nat.{◌-◌}
use mathlib.Core.Path.{◌≡◌, sym}
use native.Mathlib.Nat.{zero-div}
use native.Mathlib.Omega.{arith}
use Rattle.std.proofs.lemmas.Bool.Decides.{nat_tests}
use Rattle.slot.specs.Release.{instance_by}
use Rattle.slot.proofs.release.instance_at.Goals as goal

pub returns-then-lt : goal.returns-then-lt
unfolding instance_by
returns-then-lt c =
    let a = c.args in
    let none : a.slot.0 - a.first.0 ≡ 0 = grind (arith, nat_tests) in
    rw none (sym (zero-div a.period))

pub returns : goal.returns
unfolding instance_by
returns c = grind (arith, nat_tests)
