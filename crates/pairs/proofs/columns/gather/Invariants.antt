-- `pairs::columns::gather` notes the steps from the last on. The loop's invariant: the columns hold the last b steps, and what lies beyond
-- them is as lent. Assumes nothing.
use Prim.Native.Nat.{ℕ, ◌≤◌}
use mathlib.Core.Path.{◌≡◌}
use lib.ListN.{length, get_or}
use Rattle.trade.specs.Limits.{most_nodes}
use Rattle.plans.specs.Plan.{steps_in}
use Rattle.pairs.specs.Columns.{Columns}
use Rattle.pairs.proofs.columns.gather.Given as goal

abbrev pub invariant-loop-b : goal.invariant-loop-b
invariant-loop-b l =
    (l.len ≡ steps_in l.plan)
    × (length l.columns ≡ length l.initial.columns)
    × Columns l.rows l.heard l.plan l.b l.columns
    × ((x : ℕ) → most_nodes ≤ x → get_or l.columns x 0 ≡ get_or l.initial.columns x 0)
