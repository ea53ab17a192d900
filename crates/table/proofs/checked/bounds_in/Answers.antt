-- `table::checked::bounds_in` meets its contract: the form refuses, or the figures decide. Assumes nothing.
use mathlib.Core.Path.{sym, ◌∙◌, ap, subst}
use mathlib.Core.List.{[]}
use Rattle.trade.specs.Layout.{Sections}
use Rattle.trade.specs.Facts.{facts_in}
use Rattle.trade.specs.Bound.{fairly}
use Rattle.trade.specs.Kept.{figure_in}
use Rattle.trade.specs.declared.answer.Answer.{Answer}
use Rattle.trade.proofs.Refusals.{refuses}
use Rattle.bounds.specs.Bounds.{refused_by, bounded_in}
use Rattle.bounds.proofs.BoundsLaws.{bounds_handed_on}
use Rattle.table.specs.Table.{kept_in, ChecksKept}
use Rattle.table.proofs.CheckedLaws.{records_alone, checks_refused, checks_bounded}
use Rattle.table.proofs.checked.bounds_in.Goals as goal

pub returns-in_err-parts : goal.returns-in_err-parts
returns-in_err-parts c =
    let t = kept_in c.args.t.now in
    let e = c.in_err-parts.field-0.0 in
    let a = c.in_err-parts.ensures.answer in
    subst (ChecksKept t) (sym (bounds_handed_on c.from_residual.result e c.from_residual.ensures.1 ∙ ap refused_by a))
    (checks_refused t (λ z. refuses e (ap (λ (x : Answer). x.code) a ∙ z)))

pub returns : goal.returns
returns c =
    let t = kept_in c.args.t.now in
    let bounded = ap (λ (s : Sections). bounded_in (facts_in 0 s.flows [] s.records []) (fairly (facts_in 0 s.flows [] s.records []) (figure_in t.figures))) c.in_ok-parts.ensures.parts in
    subst (ChecksKept t) (sym (c.bounds_kept.ensures ∙ bounded ∙ records_alone t))
    (checks_bounded t (sym (ap (λ (x : Answer). x.code) c.in_ok-parts.ensures.answer)))
