-- `sections::at_once::highest` meets its contract: none of the bytes before the index is above the most so far. Assumes nothing.
use Prim.Native.Nat.{ℕ, ◌≤◌, ◌<◌}
use lib.ListN.{get_or}
use Rattle.sections.proofs.at_once.highest.Given as goal

abbrev pub invariant-loop-b : goal.invariant-loop-b
invariant-loop-b l = (k : ℕ) → k < l.b-index → get_or l.bytes k 0 ≤ l.most
