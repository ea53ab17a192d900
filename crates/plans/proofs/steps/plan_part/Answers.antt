-- `plans::steps::plan_part` cuts a plan out of a steps section: from its first step on, and then to its end. Assumes nothing.
use native.Mathlib.Omega.{arith}
use Rattle.plans.proofs.StepsLaws.{plan_cut, plan_rest, plan_past}
use Rattle.plans.proofs.steps.plan_part.Goals as goal

pub returns-then-step_count-first : goal.returns-then-step_count-first
returns-then-step_count-first c = plan_past _ _ _ (omega arith)

pub returns-then-step_count-count : goal.returns-then-step_count-count
returns-then-step_count-count c = plan_rest _ _ _ (omega arith)

pub returns : goal.returns
returns c = plan_cut _ _ _
