-- `sections::steps::first_bad_step` meets its contract: no step before j is bad. Assumes nothing.
use Prim.Native.Nat.{ℕ, ◌<◌}
use mathlib.Core.Path.{◌≡◌}
use mathlib.Core.Bool.{false}
use Rattle.sections.specs.Steps.{bad_in_plan}
use Rattle.sections.proofs.steps.first_bad_step.Given as goal

abbrev pub invariant-loop-j : goal.invariant-loop-j
invariant-loop-j l = (k : ℕ) → k < l.j → bad_in_plan l.nodes l.plan k ≡ false
