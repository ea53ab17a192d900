-- `square::kept::kept_answer` looks at line by line. The loop's invariant: no line up to l is wrong. Assumes nothing.
use Prim.Native.Nat.{ℕ, ◌≤◌, ◌<◌}
use mathlib.Core.Path.{◌≡◌}
use mathlib.Core.Bool.{false}
use mathlib.Core.List.{List}
use Rattle.trade.specs.Layout.{sections}
use Rattle.trade.specs.Kept.{Tabled, wrong_line}
use Rattle.square.proofs.kept.kept_answer.Given as goal

-- the table
abbrev pub table : ℕ → List ℕ → List ℕ → List ℕ → List ℕ → Tabled
table flows rows records steps figures = record { sections = sections 0 flows rows records steps; figures = figures }

abbrev pub invariant-loop-l : goal.invariant-loop-l
invariant-loop-l l = (l.l ≤ l.parts.flows) × ((k : ℕ) → k < l.l → wrong_line (table l.parts.flows l.parts.rows.now l.parts.records.now l.parts.steps.now l.figures) k ≡ false)
