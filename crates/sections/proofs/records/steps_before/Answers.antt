-- `sections::records::steps_before` meets its contract: the sum is that of the plans passed. Assumes nothing.
use Prim.Native.Nat.{ℕ, ◌+◌}
use mathlib.Core.Path.{◌≡◌, refl, ◌∙◌, ap, ap₂}
use native.Mathlib.Numerals.{add-one}
use native.Mathlib.Omega.{arith}
use Rattle.trade.specs.First.{sum_to}
use Rattle.trade.specs.Layout.{field}
use Rattle.sections.proofs.records.steps_before.Goals as goal

pub loop-i-init : goal.loop-i-init
unfolding sum_to
loop-i-init c = (omega arith, omega arith, refl)

pub loop-i-preserved : goal.loop-i-preserved
unfolding sum_to
loop-i-preserved c = (
  omega arith,
  omega arith,
  rw (add-one c.loop-i.i)
      (ap₂ (λ (a b : ℕ). a + b) c.loop-i.invariant.2 c.len_at-sum.ensures.0),
)

pub returns : goal.returns
returns c =
    let e : c.loop-i.i ≡ c.args.flows = omega arith in
    (c.loop-i.invariant.2 ∙ ap (sum_to (λ (k : ℕ). field c.args.records.now k 4)) e, omega arith)
