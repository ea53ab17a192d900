-- `area::refusals::Timed::area_answer` no place passed is bad. Assumes nothing.
use mathlib.Core.Path.{◌≡◌, sym, ◌∙◌}
use mathlib.Core.List.{[]}
use native.Mathlib.Omega.{arith}
use borrow.Author.Count.{below_more}
use borrow.Author.Tests.{ltb-true, ltb-false}
use Rattle.trade.specs.Limits.{end_of_clock}
use Rattle.trade.specs.Facts.{facts_in}
use Rattle.slot.specs.States.{state_of}
use Rattle.area.proofs.RefusalsLaws.{earlier, code10_late, code10_at, code10_none, place_shown}
use Rattle.area.specs.Dues.{due_by}
use Rattle.area.proofs.refusals.Timed.area_answer.Invariants.{bad}
use Rattle.area.proofs.refusals.Timed.area_answer.Goals as goal
use Rattle.area.proofs.refusals.Timed.area_answer.Goals.{After-is_bad_place}

-- what is asked of a place is whether it is bad
asked :
    (c : After-is_bad_place)
    → c.is_bad_place.result
    ≡ bad c.args.self.flows c.args.self.records.now c.args.firsts c.args.run c.loop-i.i
asked c =
    let a = c.args in
    c.is_bad_place.ensures ∙ place_shown a.self.flows a.self.records.now a.firsts a.run c.loop-i.i

pub returns-then-lt : goal.returns-then-lt
unfolding state_of
returns-then-lt c =
    let a = c.args in
    sym (code10_late (facts_in 0 a.self.flows [] a.self.records.now []) (due_by (facts_in 0 a.self.flows [] a.self.records.now []) a.firsts a.run) (state_of a.run) (ltb-true end_of_clock a.run.slot.0 (sym (earlier end_of_clock c.args.run.slot.0) ∙ sym c.if-lt.ensures)))

pub returns-then-is_bad_place : goal.returns-then-is_bad_place
unfolding state_of
returns-then-is_bad_place c =
    let a = c.args in
    let loop = c.loop-i in
    sym (code10_at (facts_in 0 a.self.flows [] a.self.records.now []) (due_by (facts_in 0 a.self.flows [] a.self.records.now []) a.firsts a.run) (state_of a.run) loop.i loop.invariant.0 (omega arith) loop.invariant.1 (sym (asked (goal.at.returns-then-is_bad_place c).After-is_bad_place) ∙ c.if-is_bad_place.true))

pub loop-i-init : goal.loop-i-init
loop-i-init c = (ltb-false end_of_clock c.args.run.slot.0 (sym (earlier end_of_clock c.args.run.slot.0) ∙ sym c.if-lt.ensures), λ k h. absurd (omega arith))

pub loop-i-preserved : goal.loop-i-preserved
loop-i-preserved c =
    let loop = c.loop-i in
    (loop.invariant.0, below_more _ _ loop.invariant.1 (sym (asked (goal.at.loop-i-preserved c).After-is_bad_place) ∙ c.if-is_bad_place.false))

pub returns : goal.returns
unfolding state_of
returns c =
    let a = c.args in
    let loop = c.loop-i in
    sym (code10_none (facts_in 0 a.self.flows [] a.self.records.now []) (due_by (facts_in 0 a.self.flows [] a.self.records.now []) a.firsts a.run) (state_of a.run) loop.invariant.0 (λ k h. loop.invariant.1 k (omega arith)))
