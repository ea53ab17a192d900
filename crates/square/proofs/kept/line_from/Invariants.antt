-- `square::kept::line_from` reads figure by figure. The loop's invariant: the figures up to h are read. Assumes nothing.
use Prim.Native.Nat.{ℕ}
use mathlib.Core.Path.{◌≡◌}
use mathlib.Core.List.{List}
use Rattle.trade.specs.Limits.{most_flows}
use Rattle.trade.specs.Kept.{figure_in}
use Rattle.square.specs.Carried.{shifted}
use Rattle.figures.proofs.Padded.{filled}
use Rattle.square.proofs.kept.line_from.Given as goal

-- the figure that is read for a place
abbrev pub from : List ℕ → ℕ → ℕ → ℕ → ℕ → ℕ → ℕ
from figures line cut ahead back h = figure_in figures line (shifted cut ahead back h)

abbrev pub invariant-loop-h : goal.invariant-loop-h
invariant-loop-h l = l.read ≡ filled most_flows (from l.figures l.line l.cut l.ahead l.back) l.h
