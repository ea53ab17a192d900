-- The costs that a table carries are its figures, which are bytes: nothing is cut from a line. Assumes nothing.
use Prim.Native.Nat.{ℕ, ◌+◌, ◌*◌, ◌<◌}
use mathlib.Core.Path.{◌≡◌, refl}
use lib.ListN.{get_or}
use native.Mathlib.Omega.{arith}
use borrow.Author.Tests.{lt-ltb}
use Rattle.trade.specs.Limits.{most_flows}
use Rattle.trade.specs.Kept.{figure_in}
use Rattle.square.specs.Carried.{shifted}
use Rattle.figures.proofs.Padded.{filled_at}
use Rattle.bounds.proofs.carried.KeptCosts.line.Goals as goal
use Rattle.bounds.proofs.carried.KeptCosts.line.Goals.{After-line_from}

-- a place is read where it stands
stands : (h : ℕ) → h < most_flows → shifted most_flows 0 0 h ≡ h
unfolding shifted
stands h l = rw (lt-ltb h most_flows l) refl

figure :
    (c : After-line_from)
    → (h : ℕ)
    → h < c.args.l
    → get_or c.line_from.result h 0 ≡ figure_in c.args.self.now.figures.now c.args.l h
figure c h b =
    let figures = c.args.self.now.figures.now in
    rw (c.line_from.ensures, filled_at most_flows (λ h. figure_in figures c.args.l (shifted most_flows 0 0 h)) c.args.l h b, stands h (omega arith)) refl

pub returns-clause-costs : goal.returns-clause-costs
returns-clause-costs c = figure (goal.at.returns-clause-costs c).After-line_from

pub returns-clause-bytes : goal.returns-clause-bytes
unfolding figure_in
returns-clause-bytes c = λ h b.
    let s = c.args.self.now in
    omega (arith, figure (goal.at.returns-clause-bytes c).After-line_from h b, s.bytes (most_flows * c.args.l + h))
