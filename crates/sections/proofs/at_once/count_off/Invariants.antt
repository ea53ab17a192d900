-- `sections::at_once::count_off` meets its contract: it has counted the steps before k. Assumes nothing.
use Prim.Native.Nat.{◌≤◌}
use mathlib.Core.Path.{◌≡◌}
use Rattle.trade.specs.First.{sum_to}
use Rattle.trade.specs.Interference.{one}
use Rattle.sections.specs.Steps.{off}
use Rattle.sections.proofs.at_once.count_off.Given as goal

abbrev pub invariant-loop-k : goal.invariant-loop-k
invariant-loop-k l =
    (l.count ≤ l.k) × (l.count ≡ sum_to (λ j. one (off l.steps j)) l.k)
