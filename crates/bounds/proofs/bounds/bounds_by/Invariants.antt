-- `bounds::bounds::bounds_by` meets its contract: each flow passed has its bound, which stands in the array. Assumes nothing.
use mathlib.Core.List.{[]}
use Rattle.trade.specs.Facts.{facts_in}
use Rattle.trade.specs.Bound.{fairly}
use Rattle.bounds.proofs.BoundsLaws.{Bounding}
use Rattle.bounds.proofs.bounds.bounds_by.Given as goal

abbrev pub invariant-loop-l : goal.invariant-loop-l
invariant-loop-l g l =
    Bounding (facts_in 0 l.flows [] l.records []) (fairly (facts_in 0 l.flows [] l.records []) (g.C.Costs.cost l.costs)) l.l l.bounds l.periods
