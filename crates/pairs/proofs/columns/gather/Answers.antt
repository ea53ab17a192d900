-- `pairs::columns::gather` notes the steps from the last on. The loop's invariant: the columns hold the last b steps, and what lies beyond
-- them is as lent. Assumes nothing.
use Prim.Native.Nat.{ℕ, suc, ◌-◌}
use mathlib.Core.Path.{◌≡◌, refl, ◌∙◌}
use native.Mathlib.Omega.{arith}
use native.Mathlib.Numerals.{add-one}
use Rattle.plans.specs.Plan.{steps_in}
use Rattle.pairs.proofs.SpreadLaws.{columns_none, columns_more}
use Rattle.pairs.proofs.columns.gather.Goals as goal

pub loop-b-init : goal.loop-b-init
loop-b-init c = (c.step_count-len.ensures, refl, columns_none _ _ _ _ c.requires.4, λ x h. refl)

pub loop-b-preserved : goal.loop-b-preserved
loop-b-preserved c =
    let loop = c.loop-b in
    let plan = c.args.plan.now in
    let len : ℕ = c.step_count-len.result in
    let noted = c.note.ensures in
    let e : len - 1 - loop.b ≡ steps_in plan - suc loop.b = omega (arith, loop.invariant.0) in
    rw (add-one loop.b) (
      loop.invariant.0,
      noted.size ∙ loop.invariant.1,
      columns_more c.args.rows.now c.args.heard.now plan loop.b loop.columns c.note.new.columns
          (omega (arith, loop.invariant.0, c.requires.0)) (rw (c.step_at.ensures, e) at noted) loop.invariant.2,
      λ x h. noted.others x h ∙ loop.invariant.3 x h,
    )
