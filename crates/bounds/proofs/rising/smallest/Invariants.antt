-- `bounds::rising::smallest` meets its contract: no r that was passed is enough. The measure is what is left up to the deadline.
-- Assumes nothing.
use Prim.Native.Nat.{◌+◌, ◌-◌, ◌≤◌}
use Rattle.bounds.specs.Terms.{needed_in}
use Rattle.bounds.proofs.SmallestLaws.{NoneBelow}
use Rattle.bounds.proofs.rising.smallest.Given as goal

abbrev pub invariant-loop-r : goal.invariant-loop-r
invariant-loop-r l =
    (l.len ≤ l.r) × NoneBelow (needed_in l.len l.above l.figures l.periods l.carries) l.len l.deadline l.r

abbrev pub decreases-loop-r : goal.decreases-loop-r
decreases-loop-r l = l.deadline + 1 - l.r
