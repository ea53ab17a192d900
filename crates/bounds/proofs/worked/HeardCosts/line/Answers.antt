-- The costs that are worked out are the interference of the flows above, which no plan is longer than. Assumes nothing.
use Prim.Native.Nat.{ℕ, ◌<◌}
use mathlib.Core.Path.{◌≡◌}
use lib.ListN.{get_or}
use native.Mathlib.Omega.{arith}
use Rattle.trade.specs.Limits.{most_flows}
use Rattle.trade.specs.Facts.{facts_in}
use Rattle.trade.specs.Interference.{interference}
use Rattle.figures.proofs.FiguresLaws.{interference_most}
use Rattle.figures.proofs.Padded.{filled_at}
use Rattle.bounds.proofs.worked.HeardCosts.line.Goals as goal
use Rattle.bounds.proofs.worked.HeardCosts.line.Goals.{After-figures_at}

figure :
    (c : After-figures_at)
    → (h : ℕ)
    → h < c.args.l
    → get_or c.figures_at.result h 0
    ≡ interference (facts_in 0 0 c.args.self.now.parts.rows.now c.args.self.now.parts.records.now c.args.self.now.parts.steps.now) c.args.l h
figure c h b =
    let p = c.args.self.now.parts in
    rw c.figures_at.ensures (filled_at most_flows (interference (facts_in 0 0 p.rows.now p.records.now p.steps.now) c.args.l) c.args.l h b)

pub returns-clause-costs : goal.returns-clause-costs
returns-clause-costs c = figure (goal.at.returns-clause-costs c).After-figures_at

pub returns-clause-bytes : goal.returns-clause-bytes
returns-clause-bytes c = λ h b.
    let p = c.args.self.now.parts in
    omega (
      arith,
      figure (goal.at.returns-clause-bytes c).After-figures_at h b,
      interference_most p.records.now p.rows.now p.steps.now c.args.l h,
      (p.formed.fields h (omega arith)).len.1,
    )
