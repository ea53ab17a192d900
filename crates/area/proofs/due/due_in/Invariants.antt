-- `area::due::due_in` looks at one flow after the other. Assumes nothing.
use mathlib.Core.Path.{◌≡◌}
use Rattle.area.proofs.DueLaws.{Seen}
use Rattle.area.proofs.due.due_in.Given as goal

abbrev pub invariant-loop-i : goal.invariant-loop-i
invariant-loop-i l =
    (l.released.slot ≡ l.run.slot)
    × Seen l.flows l.records l.run l.initial.doubt l.i l.released.flows l.firsts l.doubt
