-- `plans::view::plan_step` takes the step from a view of the plan's part. Assumes nothing.
use Rattle.plans.proofs.StepsLaws.{step_anywhere}
use Rattle.plans.proofs.view.plan_step.Goals as goal

pub returns : goal.returns
returns c = rw (c.view_step.ensures, c.view_of.ensures, c.plan_part.ensures) (step_anywhere _ _ _ _)
