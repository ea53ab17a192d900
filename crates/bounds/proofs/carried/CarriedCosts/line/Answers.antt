-- The costs that a table carries are its figures and the newcomer's pairs, which are bytes. Assumes nothing.
use Prim.Native.Nat.{ℕ, ◌<◌}
use mathlib.Core.Path.{◌≡◌}
use lib.ListN.{get_or}
use native.Mathlib.Omega.{arith}
use Rattle.trade.specs.Limits.{most_flows}
use Rattle.square.specs.Carried.{figure_with}
use Rattle.square.proofs.CarriedLaws.{with_bytes}
use Rattle.figures.proofs.Padded.{filled_at}
use Rattle.bounds.proofs.carried.CarriedCosts.line.Goals as goal
use Rattle.bounds.proofs.carried.CarriedCosts.line.Goals.{After-line_with}

figure :
    (c : After-line_with)
    → (h : ℕ)
    → h < c.args.l
    → get_or c.line_with.result h 0 ≡ figure_with c.args.self.now.place c.args.self.now.pairs.now c.args.self.now.figures.now c.args.l h
figure c h b =
    let s = c.args.self.now in
    rw c.line_with.ensures (filled_at most_flows (figure_with s.place s.pairs.now s.figures.now c.args.l) c.args.l h b)

pub returns-clause-costs : goal.returns-clause-costs
returns-clause-costs c = figure (goal.at.returns-clause-costs c).After-line_with

pub returns-clause-bytes : goal.returns-clause-bytes
returns-clause-bytes c = λ h b.
    let s = c.args.self.now in
    omega (arith, figure (goal.at.returns-clause-bytes c).After-line_with h b, with_bytes s.place s.pairs.now s.figures.now s.small s.bytes c.args.l h)
