-- `square::kept::kept_answer` looks at line by line. The loop's invariant: no line up to l is wrong. Assumes nothing.
use Prim.Native.Nat.{ℕ}
use mathlib.Core.Path.{◌≡◌, refl, sym, ◌∙◌, ap}
use mathlib.Core.Bool.{not}
use mathlib.Core.List.{List}
use Rattle.sections.specs.declared.parts.Parts.{Parts}
use borrow.Author.Count.{below_more}
use borrow.Author.Tests.{not-true, not-false}
use native.Mathlib.Omega.{arith}
use Rattle.trade.specs.Kept.{Tabled, wrong_line, code17}
use Rattle.trade.proofs.Answers.{given_first_at, given_first_none}
use Rattle.pairs.proofs.SpreadLaws.{zeros}
use Rattle.square.proofs.KeptLaws.{wrong_line_lem}
use Rattle.square.proofs.kept.kept_answer.Goals as goal
use Rattle.square.proofs.kept.kept_answer.Invariants.{table}
use Rattle.square.proofs.kept.kept_answer.Goals.{After-is_line}

abbrev own : Parts → List ℕ → Tabled
own p figures = table p.flows p.rows.now p.records.now p.steps.now figures

pub of-heard-requires : goal.of-heard-requires
of-heard-requires c = (refl, λ y h. zeros 64 y)

pub loop-l-init : goal.loop-l-init
loop-l-init c = (omega arith, λ k h. absurd (omega arith))

pub figures_at-requires : goal.figures_at-requires
figures_at-requires c = rw c.of-heard.ensures.parts (omega arith)

-- whether the line is right
right : (c : After-is_line) → c.is_line.result ≡ not (wrong_line (own c.args.parts c.args.figures.now) c.loop-l.l)
right c =
    let a = c.args in
    rw (rw c.of-heard.ensures.parts at c.figures_at.ensures) at c.is_line.ensures
    ∙ ap not (wrong_line_lem a.parts.flows a.parts.rows.now a.parts.records.now a.parts.steps.now a.figures.now c.loop-l.l)

pub returns-then-not-is_line : goal.returns-then-not-is_line
unfolding code17
returns-then-not-is_line c =
    let loop = c.loop-l in
    sym
    (given_first_at 17 (wrong_line (own c.args.parts c.args.figures.now)) c.args.parts.flows loop.l (omega arith) loop.invariant.1
    (not-false _ (sym (right (goal.at.returns-then-not-is_line c).After-is_line) ∙ c.if-not-is_line.true)))

pub loop-l-preserved : goal.loop-l-preserved
loop-l-preserved c = (omega arith, below_more _ _ c.loop-l.invariant.1 (not-true _ (sym (right (goal.at.loop-l-preserved c).After-is_line) ∙ c.if-not-is_line.false)))

pub returns : goal.returns
unfolding code17
returns c =
    sym (given_first_none 17 (wrong_line (own c.args.parts c.args.figures.now)) c.args.parts.flows (λ k h. c.loop-l.invariant.1 k (omega arith)))
