-- `sections::records::searched_records` meets its contract: no record before i is bad. Assumes nothing.
use Prim.Native.Nat.{ℕ, ◌≤◌, ◌<◌}
use mathlib.Core.Path.{◌≡◌}
use mathlib.Core.Bool.{false}
use mathlib.Core.List.{[]}
use Rattle.trade.specs.Facts.{facts_in}
use Rattle.trade.specs.Codes.{bad_record}
use Rattle.sections.proofs.records.searched_records.Given as goal

abbrev pub invariant-loop-i : goal.invariant-loop-i
invariant-loop-i l = (l.i ≤ l.flows) × ((k : ℕ) → k < l.i → bad_record (facts_in 0 0 [] l.records []) k ≡ false)
