-- `figures::figures::figures_by` works the figures out, group by group. The loop's invariant: those of the flows above h stand in the array.
-- The measure is how many flows are left. Assumes nothing.
use Rattle.std.proofs.Common.{◌≡◌, ◌-◌, ◌*◌, ◌≤◌}
use Rattle.trade.specs.Limits.{most_flows, most_id}
use Rattle.sections.specs.Formed.{plan_start, plan_at}
use Rattle.figures.specs.Figures.{figure_by}
use Rattle.figures.proofs.Padded.{filled}
use Rattle.figures.proofs.figures.figures_by.Given as goal

abbrev pub invariant-loop-h : goal.invariant-loop-h
invariant-loop-h l =
    (l.h ≤ l.l)
    × (l.start ≡ plan_start l.records l.h)
    × (l.start ≤ most_id * l.h)
    × (l.figures ≡ filled most_flows (λ k. figure_by l.columns l.width (plan_at l.records l.steps k)) l.h)

abbrev pub decreases-loop-h : goal.decreases-loop-h
decreases-loop-h l = l.l - l.h
