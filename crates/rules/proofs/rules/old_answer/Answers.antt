-- `rules::rules::old_answer` meets its contract: the old table refuses, by its form or its figures. Assumes nothing.
use Prim.Native.Nat.{ℕ}
use mathlib.Core.Path.{sym, ◌∙◌, ap}
use Rattle.trade.specs.Layout.{Sections, sections}
use Rattle.trade.specs.Kept.{Tabled, tabled, code17}
use Rattle.trade.specs.declared.answer.Answer.{Answer}
use Rattle.trade.proofs.Refusals.{refuses, handed_on}
use Rattle.trade.proofs.Kept.{code17_counted}
use Rattle.rules.proofs.RulesLaws.{form_refused, form_passed}
use Rattle.rules.proofs.rules.old_answer.Goals as goal
use Rattle.rules.proofs.rules.old_answer.Goals.{Start}

-- the table
abbrev given : Start → Tabled
given s = tabled s.args.nodes s.args.flows s.args.rows.now s.args.records.now s.args.steps.now s.args.figures.now

abbrev coded : Answer → ℕ
coded a = a.code

pub returns-in_err-parts : goal.returns-in_err-parts
returns-in_err-parts c =
    let e = c.in_err-parts.field-0.0 in
    let a = c.in_err-parts.ensures.answer in
    handed_on c.from_residual.result e c.from_residual.ensures.1
    ∙ a
    ∙ sym (form_refused (given (goal.at.returns-in_err-parts c).Start) (λ z. refuses e (ap coded a ∙ z)))

pub returns : goal.returns
returns c =
    let a = c.args in
    c.kept_answer.ensures
    ∙ ap (λ (s : Sections). code17 (record { sections = sections 0 s.flows s.rows s.records s.steps; figures = a.figures.now })) c.in_ok-parts.ensures.parts
    ∙ code17_counted 0 a.nodes a.flows a.rows.now a.records.now a.steps.now a.figures.now
    ∙ sym (form_passed (given (goal.at.returns c).Start) (sym (ap coded c.in_ok-parts.ensures.answer)))
