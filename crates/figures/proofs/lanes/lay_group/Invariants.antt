-- `figures::lanes::lay_group` lays flow by flow. The loop's invariant: those up to the next are laid, and the next lane begins where the
-- last one ended. The measure is how many flows are left. Assumes nothing.
use Rattle.std.proofs.Common.{◌≡◌, ◌-◌, length}
use Rattle.figures.specs.Rises.{lane_at}
use Rattle.figures.specs.Lanes.{GroupedTo}
use Rattle.figures.proofs.lanes.lay_group.Given as goal

abbrev pub invariant-loop-len : goal.invariant-loop-len
invariant-loop-len l =
    (length l.words ≡ length l.initial.words) × (l.at ≡ lane_at l.width (l.laid.next - l.first)) × GroupedTo l.columns l.width l.records l.steps l.first l.l l.laid l.words

abbrev pub decreases-loop-len : goal.decreases-loop-len
decreases-loop-len l = l.l - l.laid.next
