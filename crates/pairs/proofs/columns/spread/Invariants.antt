-- `pairs::columns::spread` sets the mark at each node of the set. The loop's invariant: the nodes that are not left have the mark.
-- Assumes nothing.
use Rattle.pairs.proofs.SpreadLaws.{Spreading}
use Rattle.pairs.proofs.columns.spread.Given as goal

abbrev pub invariant-loop-x : goal.invariant-loop-x
invariant-loop-x l = Spreading l.nodes l.mark l.x-iterator.0 l.initial.table l.table
