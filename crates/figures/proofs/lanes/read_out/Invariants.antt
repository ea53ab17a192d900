-- `figures::lanes::read_out` reads lane by lane. The loop's invariant: the figures passed are read. Assumes nothing.
use Rattle.std.proofs.Common.{◌≡◌, ℕ, ◌+◌, ◌<◌, get_or}
use Rattle.figures.specs.Rises.{lane_at, rise_at}
use Rattle.figures.proofs.lanes.read_out.Given as goal

abbrev pub invariant-loop-figure : goal.invariant-loop-figure
invariant-loop-figure l =
    (l.end ≡ lane_at l.width l.figure-index + l.width)
    × ((k : ℕ) → k < l.figure-index → rise_at l.line (lane_at l.width k + l.width) + get_or l.figure-items k 0 ≡ 63)
