-- `plans::single::is_again` compares a step with the one before it. Assumes nothing.
use Prim.Native.Nat.{ℕ, suc, ◌-◌}
use mathlib.Core.Path.{◌≡◌, sym, ◌∙◌, ap}
use native.Mathlib.Omega.{arith}
use Rattle.trade.specs.Facts.{step_in}
use Rattle.plans.specs.Single.{same, again}
use Rattle.plans.proofs.single.is_again.Goals as goal

pub returns-then-k-gt0 : goal.returns-then-k-gt0
unfolding again
returns-then-k-gt0 c =
    let a = c.args in
    let k : ℕ = a.k - 1 in
    let here : a.k ≡ suc k = omega arith in
    rw (c.eq.ensures, c.step_at.ensures, c.step_at-then-k-gt0.ensures)
    (ap (λ (n : ℕ). same (step_in a.plan.now k) (step_in a.plan.now n)) here ∙ ap (again a.plan.now) (sym here))

pub returns-else-k-gt0 : goal.returns-else-k-gt0
unfolding again
returns-else-k-gt0 c = let none : c.args.k ≡ 0 = omega arith in rw none
