-- `figures::heard::Heard::figure_at` works the figure out in the first lane. Assumes nothing.
use Rattle.std.proofs.Common.{◌≡◌, ℕ, ◌+◌, ◌-◌, ◌<◌, List, refl, arith}
use Rattle.pairs.proofs.SpreadLaws.{zeros}
use Rattle.sections.specs.Formed.{plan_at}
use Rattle.figures.specs.Rises.{lane_at}
use Rattle.figures.proofs.FiguresLaws.{plan_asked}
use Rattle.figures.proofs.LanesLaws.{lane_matrix, laid_holds, lane_figure}
use Rattle.figures.proofs.heard.Heard.figure_at.Goals as goal

pub columns_at-width-requires : goal.columns_at-width-requires
columns_at-width-requires c = record {
  below = c.requires.1;
  columns_len = (omega arith, λ x h. zeros 64 x);
}

pub lay_group-laid-requires : goal.lay_group-laid-requires
lay_group-laid-requires c =
    let a = c.args in
    let w = c.columns_at-width.ensures in
    let f = c.args.self.parts.formed in record {
      first_lt_l = (omega arith, omega (arith, f.most, c.requires.0), omega (arith, f.recorded, c.requires.0), omega (arith, w.size), w.short, w.narrow);
      start_value = (
        c.steps_before-start.ensures.0,
        c.steps_before-start.ensures.1,
        λ h b. plan_asked a.self.parts.flows a.self.parts.rows.now a.self.parts.records.now a.self.parts.steps.now f h (omega (arith, c.requires.0)),
      );
      words_len = (refl, λ j. zeros 32 j);
    }

pub returns : goal.returns
unfolding lane_at
returns c =
    let a = c.args in
    let w = c.columns_at-width in
    let laid = c.lay_group-laid in
    let g = laid.ensures.all in
    let columns : List ℕ = w.new.columns in
    let plans : ℕ → List ℕ = λ k. plan_at a.self.parts.records.now a.self.parts.steps.now (a.h + k) in
    let some : 0 < laid.result.next - a.h = omega (arith, laid.ensures.some) in
    let here : a.h + 0 ≡ a.h = omega arith in
    let end : lane_at w.result 0 + w.result ≡ w.result = omega arith in
    let read
    = c.worked_out-line.ensures w.result (laid.result.next - a.h) (lane_matrix columns w.result plans) g.room g.closed
    (laid_holds columns w.result plans (laid.result.next - a.h) laid.result.longest _ g.laid) 0 some in
    omega (
      arith,
      c.taken.ensures,
      rw (lane_figure columns w.result plans 0 laid.result.longest (g.long 0 some), end, here, w.ensures.figure a.h c.requires.0) at read,
    )
