-- `figures::heard::Heard::figures_at` meets its contract: the columns of the plan give the figures, and the first flow has none. Assumes nothing.
use Rattle.std.proofs.Common.{◌≡◌, ℕ, sym, ◌∙◌, arith}
use Rattle.trade.specs.Limits.{most_flows}
use Rattle.trade.specs.Facts.{facts_in}
use Rattle.trade.specs.Interference.{interference}
use Rattle.pairs.proofs.SpreadLaws.{zeros}
use Rattle.sections.specs.Formed.{plan_at}
use Rattle.figures.specs.Figures.{figure_by}
use Rattle.figures.proofs.FiguresLaws.{plan_asked}
use Rattle.figures.proofs.Padded.{filled_none, filled_same}
use Rattle.figures.proofs.heard.Heard.figures_at.Goals as goal

pub returns-then-l-eq0 : goal.returns-then-l-eq0
returns-then-l-eq0 c =
    let none : c.args.l ≡ 0 = c.if-l-eq0.true in
    rw none (sym (filled_none most_flows _))

pub columns_at-width-requires : goal.columns_at-width-requires
columns_at-width-requires c = record {
  below = c.requires;
  columns_len = (omega arith, λ x h. zeros 64 x);
}

pub slice_bounds-figures_by-end : goal.slice_bounds-figures_by-end
slice_bounds-figures_by-end c = sym c.columns_at-width.ensures.size

pub figures_by-requires : goal.figures_by-requires
figures_by-requires c =
    let a = c.args in
    let w = c.columns_at-width.ensures in record {
      l_lt_most_flows = (omega (arith, c.args.self.parts.formed.most), omega (arith, c.args.self.parts.formed.recorded), omega (arith, w.size), w.short, w.narrow);
      by_index = λ h b. plan_asked a.self.parts.flows a.self.parts.rows.now a.self.parts.records.now a.self.parts.steps.now c.args.self.parts.formed h (omega arith);
    }

pub returns : goal.returns
returns c =
    let a = c.args in
    let w = c.columns_at-width in
    c.figures_by.ensures
    ∙ filled_same most_flows (λ (h : ℕ). figure_by w.new.columns w.result (plan_at a.self.parts.records.now a.self.parts.steps.now h))
    (interference (facts_in 0 0 a.self.parts.rows.now a.self.parts.records.now a.self.parts.steps.now) a.l) a.l (omega (arith, c.args.self.parts.formed.most)) w.ensures.figure
