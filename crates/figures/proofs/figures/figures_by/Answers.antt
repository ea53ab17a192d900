-- `figures::figures::figures_by` works the figures out, group by group. The loop's invariant: those of the flows above h stand in the array.
-- The measure is how many flows are left. Assumes nothing.
use Rattle.std.proofs.Common.{◌≡◌, ℕ, ◌+◌, ◌-◌, List, sym, refl, arith}
use Rattle.trade.specs.Limits.{most_flows}
use Rattle.trade.specs.First.{sum_to}
use Rattle.sections.specs.Formed.{plan_at}
use Rattle.figures.specs.Figures.{figure_by}
use Rattle.pairs.proofs.SpreadLaws.{zeros}
use Rattle.figures.proofs.Padded.{filled_none}
use Rattle.figures.proofs.FiguresLaws.{filled_group}
use Rattle.figures.proofs.LanesLaws.{lane_matrix, laid_holds, lane_figure}
use Rattle.figures.proofs.figures.figures_by.Goals as goal

pub loop-h-init : goal.loop-h-init
unfolding sum_to
loop-h-init c = (omega arith, refl, omega arith, sym (filled_none most_flows _))

pub lay_group-laid-requires : goal.lay_group-laid-requires
lay_group-laid-requires c =
    let loop = c.loop-h in record {
      first_lt_l = (omega arith, c.requires.l_lt_most_flows.0, c.requires.l_lt_most_flows.1, c.requires.l_lt_most_flows.2, c.requires.l_lt_most_flows.3, c.requires.l_lt_most_flows.4);
      start_value = (loop.invariant.1, loop.invariant.2, c.requires.by_index);
      words_len = (refl, λ j. zeros 32 j);
    }

pub loop-h-preserved : goal.loop-h-preserved
loop-h-preserved c =
    let a = c.args in
    let loop = c.loop-h in
    let laid = c.lay_group-laid in
    let g = laid.ensures.all in
    let figure : ℕ → ℕ = λ k. figure_by a.columns.now a.width (plan_at a.records.now a.steps.now k) in
    let plans : ℕ → List ℕ = λ k. plan_at a.records.now a.steps.now (loop.h + k) in (
      g.most,
      g.start,
      g.steps_most,
      filled_group c.worked_out-line.result a.width loop.h laid.result.next figure c.read_out.new.figures g.from
          (omega (arith, g.most, c.requires.l_lt_most_flows.0))
          (λ h p q.
          let k : ℕ = h - loop.h in
          let here : loop.h + k ≡ h = omega arith in
          let read
          = c.worked_out-line.ensures a.width (laid.result.next - loop.h) (lane_matrix a.columns.now a.width plans) g.room g.closed
          (laid_holds a.columns.now a.width plans (laid.result.next - loop.h) laid.result.longest _ g.laid) k (omega arith) in
          rw (lane_figure a.columns.now a.width plans k laid.result.longest (g.long k (omega arith)), here) at read)
          (rw loop.invariant.3 at c.read_out.ensures),
    )
