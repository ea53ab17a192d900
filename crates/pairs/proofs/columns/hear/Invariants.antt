-- `pairs::columns::hear` spreads each node of the set over those that it disturbs. The loop's invariant: the nodes that are not left are
-- heard. Assumes nothing.
use Rattle.pairs.proofs.SpreadLaws.{Hearing}
use Rattle.pairs.proofs.columns.hear.Given as goal

abbrev pub invariant-loop-x : goal.invariant-loop-x
invariant-loop-x l = Hearing l.rows l.nodes l.x-iterator.0 l.initial.table l.table
