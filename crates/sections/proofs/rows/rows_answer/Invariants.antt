-- `sections::rows::rows_answer` meets its contract: no row before x is bad. Assumes nothing.
use Prim.Native.Nat.{ℕ, ◌≤◌, ◌<◌}
use mathlib.Core.Path.{◌≡◌}
use mathlib.Core.Bool.{false}
use mathlib.Core.List.{[]}
use Rattle.trade.specs.Facts.{facts_in}
use Rattle.trade.specs.Codes.{bad_row}
use Rattle.sections.proofs.rows.rows_answer.Given as goal

abbrev pub invariant-loop-x : goal.invariant-loop-x
invariant-loop-x l = (l.x ≤ l.nodes) × ((k : ℕ) → k < l.x → bad_row (facts_in l.nodes 0 l.rows [] []) k ≡ false)
