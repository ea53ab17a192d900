-- `run::start::started` makes one flow after another idle in the empty run. Assumes nothing.
use Prim.Native.Nat.{ℕ, ◌≤◌, ◌<◌}
use mathlib.Core.Path.{◌≡◌}
use lib.ListN.{length}
use Rattle.trade.specs.Limits.{most_flows}
use Rattle.trade.specs.Layout.{field}
use Rattle.slot.specs.States.{place_of}
use Rattle.run.proofs.start.started.Given as goal

abbrev pub invariant-loop-i : goal.invariant-loop-i
invariant-loop-i l =
    (length l.run.flows ≡ most_flows)
    × (l.run.slot.0 ≡ 0)
    × ((k : ℕ) → k < l.i → place_of l.run.flows k ≡ field l.parts.records.now k 4)
    × ((k : ℕ) → l.i ≤ k → place_of l.run.flows k ≡ 0)
