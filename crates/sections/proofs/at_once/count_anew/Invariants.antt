-- `sections::at_once::count_anew` meets its contract: it has counted the plans before i. Assumes nothing.
use Prim.Native.Nat.{◌≤◌}
use mathlib.Core.Path.{◌≡◌}
use Rattle.trade.specs.First.{sum_to}
use Rattle.trade.specs.Layout.{field}
use Rattle.trade.specs.Interference.{one}
use Rattle.sections.specs.Steps.{starts_anew}
use Rattle.sections.proofs.at_once.count_anew.Given as goal

abbrev pub invariant-loop-i : goal.invariant-loop-i
invariant-loop-i l =
    (l.all ≡ sum_to (λ k. field l.records k 4) l.i)
    × (l.anew ≤ l.i)
    × (l.anew ≡ sum_to (λ k. one (starts_anew l.records l.steps k)) l.i)
