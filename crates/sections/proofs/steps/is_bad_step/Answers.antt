-- `sections::steps::is_bad_step` meets its contract: the first step of a plan is tested by itself, a later one with the step before.
-- Assumes nothing.
use borrow.Author.Tests.{ne_eqb}
use mathlib.Core.Path.{◌≡◌, ◌∙◌, sym}
use mathlib.Core.Bool.{or-false}
use Rattle.trade.specs.Facts.{step_in}
use Rattle.sections.specs.Steps.{misplaced, bad_in_plan}
use Rattle.sections.proofs.steps.is_bad_step.Goals as goal

pub returns-then-j-eq0 : goal.returns-then-j-eq0
unfolding bad_in_plan
returns-then-j-eq0 c =
    let a = c.args in
    let e : a.j ≡ 0 = c.if-j-eq0.true in
    c.is_misplaced.ensures
    ∙ rw (c.step_at-t.ensures, e) (sym (or-false (misplaced a.nodes (step_in a.plan.now 0))))

pub returns : goal.returns
unfolding bad_in_plan
returns c =
    let a = c.args in
    rw (
      c.is_misplaced-2.ensures,
      c.is_unjoined.ensures,
      c.step_at.ensures,
      c.step_at-t.ensures,
      ne_eqb a.j 0 c.if-j-eq0.false,
    )
