-- `figures::rises::worked_out` works the words in, the last first. The loop's invariant: each line says what is reached over the columns
-- from j on. Assumes nothing.
use Rattle.std.proofs.Common.{ℕ, ◌-◌, ◌≤◌}
use Rattle.trade.specs.Interference.{Matrix}
use Rattle.figures.specs.Rises.{lane_at, Says, Ends, Marks}
use Rattle.figures.proofs.RisesLaws.{reached_in}
use Rattle.figures.proofs.rises.worked_out.Given as goal

abbrev pub invariant-loop-j : goal.invariant-loop-j
invariant-loop-j l =
    (n lanes : ℕ) (M : ℕ → Matrix) → lane_at n lanes ≤ 64 → Ends n lanes l.ends → Marks n lanes l.count M l.words → Says n lanes l.line (reached_in n lanes M l.j (l.count - l.j))
