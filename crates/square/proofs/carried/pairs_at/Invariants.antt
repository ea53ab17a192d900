-- `square::carried::pairs_at` works the line of the flow out, and then the figure of it for each flow below. The loop's invariant: the
-- pairs up to l are there. Assumes nothing.
use Prim.Native.Nat.{◌<◌, ◌≤◌}
use mathlib.Core.Path.{◌≡◌}
use Rattle.trade.specs.Limits.{most_flows}
use Rattle.trade.specs.Facts.{facts_in}
use Rattle.figures.proofs.Padded.{filled}
use Rattle.square.specs.Carried.{pair_in}
use Rattle.square.proofs.carried.pairs_at.Given as goal

abbrev pub invariant-loop-l : goal.invariant-loop-l
invariant-loop-l l =
    (l.place < l.l) × (l.l ≤ l.parts.flows) × (l.pairs ≡ filled most_flows (pair_in (facts_in 0 0 l.parts.rows.now l.parts.records.now l.parts.steps.now) l.place) l.l)
