-- `square::kept::line_from` reads figure by figure. The loop's invariant: the figures up to h are read. Assumes nothing.
use Prim.Native.Nat.{ℕ, ◌+◌, ◌*◌, ◌<◌}
use mathlib.Core.Path.{sym}
use native.Mathlib.Omega.{arith}
use Rattle.trade.specs.Limits.{most_flows}
use Rattle.trade.specs.Kept.{figure_in}
use Rattle.figures.proofs.Padded.{filled_none, filled_more}
use Rattle.square.proofs.KeptLaws.{shifted_most}
use Rattle.square.proofs.kept.line_from.Goals as goal
use Rattle.square.proofs.kept.line_from.Invariants.{from}
use Rattle.square.proofs.kept.line_from.Goals.{After-shift}

pub loop-h-init : goal.loop-h-init
loop-h-init c = sym (filled_none most_flows _)

-- where it stands
place : (c : After-shift) → most_flows * c.args.line + c.shift.result < 1024
place c =
    let a = c.args in
    let h : ℕ = c.loop-h.h in
    omega (arith, c.shift.ensures, shifted_most a.cut a.ahead a.back h)

pub overflow_add-read : goal.overflow_add-read
overflow_add-read c = record { fits = omega (arith, place (goal.at.overflow_add-read c).After-shift) }

pub bounds-figures-line : goal.bounds-figures-line
bounds-figures-line c = omega (arith, place (goal.at.bounds-figures-line c).After-shift)

pub loop-h-preserved : goal.loop-h-preserved
unfolding figure_in
loop-h-preserved c =
    let a = c.args in
    let loop = c.loop-h in
    rw (loop.invariant, c.shift.ensures) (filled_more most_flows (from a.figures.now a.line a.cut a.ahead a.back) loop.h (omega arith))
