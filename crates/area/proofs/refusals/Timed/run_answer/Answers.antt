-- `area::refusals::Timed::run_answer` tests 10, 12 and 11 in that order. Assumes nothing.
use mathlib.Core.Path.{sym, ◌∙◌, ap}
use mathlib.Core.List.{[]}
use borrow.Author.Tests.{eqb-true, eqb-false}
use Rattle.trade.specs.Limits.{end_of_clock}
use Rattle.area.specs.Dues.{due_by}
use Rattle.trade.specs.Facts.{facts_in}
use Rattle.trade.specs.declared.answer.Answer.{Answer}
use Rattle.trade.proofs.Refusals.{refuses, handed_on}
use Rattle.slot.specs.States.{state_of}
use Rattle.area.proofs.RefusalsLaws.{run_malformed, run_ended, run_overrun}
use Rattle.area.proofs.refusals.Timed.run_answer.Goals as goal

pub returns-in_err-area_answer : goal.returns-in_err-area_answer
returns-in_err-area_answer c =
    let a = c.args in
    let e = c.in_err-area_answer.field-0.0 in
    let ten = c.in_err-area_answer.ensures in
    handed_on c.from_residual.result e c.from_residual.ensures.1
    ∙ ten
    ∙ sym (run_malformed (facts_in 0 a.self.flows [] a.self.records.now []) (due_by (facts_in 0 a.self.flows [] a.self.records.now []) a.firsts a.run) (state_of a.run) (λ z. refuses e (ap (λ (r : Answer). r.code) ten ∙ z)))

pub returns-then-eq : goal.returns-then-eq
unfolding state_of
returns-then-eq c =
    let a = c.args in
    sym (run_ended (facts_in 0 a.self.flows [] a.self.records.now []) (due_by (facts_in 0 a.self.flows [] a.self.records.now []) a.firsts a.run) (state_of a.run) (sym (ap (λ (r : Answer). r.code) c.in_ok-area_answer.ensures)) (eqb-true a.run.slot.0 end_of_clock (sym c.if-eq.ensures)))

pub returns : goal.returns
unfolding state_of
returns c =
    let a = c.args in
    c.overrun_answer.ensures
    ∙ sym (run_overrun (facts_in 0 a.self.flows [] a.self.records.now []) (due_by (facts_in 0 a.self.flows [] a.self.records.now []) a.firsts a.run) (state_of a.run) (sym (ap (λ (r : Answer). r.code) c.in_ok-area_answer.ensures)) (eqb-false a.run.slot.0 end_of_clock (sym c.if-eq.ensures)))
