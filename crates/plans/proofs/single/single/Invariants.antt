-- `plans::single::single` writes each step that is no repeat behind those before it. The loop's invariant: the first k steps stand so.
-- Assumes nothing.
use mathlib.Core.Path.{◌≡◌}
use Rattle.plans.specs.Plan.{steps_in}
use Rattle.plans.specs.Single.{singles, SingledTo}
use Rattle.plans.proofs.single.single.Given as goal

abbrev pub invariant-loop-k : goal.invariant-loop-k
invariant-loop-k l =
    (l.len ≡ steps_in l.plan) × (l.found ≡ singles l.plan l.k) × SingledTo l.plan l.k l.initial.out l.out
