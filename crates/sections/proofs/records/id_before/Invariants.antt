-- `sections::records::id_before` meets its contract: no record before j has the id. Assumes nothing.
use Prim.Native.Nat.{ℕ, ◌≤◌, ◌<◌}
use mathlib.Core.Path.{◌≡◌}
use mathlib.Core.Bool.{false}
use lib.Dec.{eqb}
use Rattle.trade.specs.Layout.{field}
use Rattle.sections.proofs.records.id_before.Given as goal

abbrev pub invariant-loop-j : goal.invariant-loop-j
invariant-loop-j l = (l.j ≤ l.i) × ((k : ℕ) → k < l.j → eqb (field l.records k 0) l.id ≡ false)
