-- `plans::steps::step_or_none` reads a step where the part holds it whole. Assumes nothing.
use mathlib.Core.Path.{sym, ◌∙◌}
use native.Mathlib.Omega.{arith}
use Rattle.plans.proofs.StepsLaws.{step_held, step_missing}
use Rattle.plans.proofs.steps.step_or_none.Goals as goal

pub returns-then-k-step_count : goal.returns-then-k-step_count
returns-then-k-step_count c = c.step_at.ensures ∙ sym (step_held _ _ (omega arith))

pub returns-else-k-step_count : goal.returns-else-k-step_count
returns-else-k-step_count c = sym (step_missing _ _ (omega arith))
