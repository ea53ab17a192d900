-- `area::refusals::Timed::overrun_answer` no flow passed is overrun. Assumes nothing.
use mathlib.Core.Path.{◌≡◌, sym, ◌∙◌, ap}
use mathlib.Core.List.{[]}
use native.Mathlib.Omega.{arith}
use lib.ListN.{get_or}
use borrow.Author.Count.{below_more}
use Rattle.trade.specs.Facts.{facts_of, facts_in, flow_in}
use Rattle.trade.specs.Run.{idle_of}
use Rattle.trade.specs.declared.flow.Flow.{Flow}
use Rattle.slot.specs.States.{state_of}
use Rattle.area.specs.Refusals.{overrun_at}
use Rattle.area.proofs.RefusalsLaws.{code11_at, code11_none, overrun_shown}
use Rattle.area.specs.Dues.{due_by}
use Rattle.area.proofs.refusals.Timed.overrun_answer.Invariants.{late}
use Rattle.area.proofs.refusals.Timed.overrun_answer.Goals as goal
use Rattle.area.proofs.refusals.Timed.overrun_answer.Goals.{After-is_overrun}

-- what is asked of a flow is whether it is overrun
asked :
    (c : After-is_overrun)
    → c.is_overrun.result
    ≡ late c.args.self.flows c.args.self.records.now c.args.firsts c.args.run c.loop-i.i
asked c =
    let a = c.args in
    let i = c.loop-i.i in
    c.is_overrun.ensures
    ∙ ap (λ (w : Flow). overrun_at w (get_or a.firsts i (record { 0 = 0 })) a.run.slot (get_or a.run.flows i (idle_of 0))) c.record_at-flow.ensures
    ∙ overrun_shown a.self.flows a.self.records.now a.firsts a.run i

pub loop-i-init : goal.loop-i-init
loop-i-init c = λ k h. absurd (omega arith)

pub is_overrun-requires : goal.is_overrun-requires
unfolding flow_in
is_overrun-requires c = rw c.record_at-flow.ensures (c.args.self.periods c.loop-i.i c.loop-i-test.true)

pub returns-then-is_overrun : goal.returns-then-is_overrun
unfolding facts_of
returns-then-is_overrun c =
    let a = c.args in
    let loop = c.loop-i in
    sym (code11_at (facts_in 0 a.self.flows [] a.self.records.now []) (due_by (facts_in 0 a.self.flows [] a.self.records.now []) a.firsts a.run) (state_of a.run) loop.i (omega arith) loop.invariant (sym (asked (goal.at.returns-then-is_overrun c).After-is_overrun) ∙ c.if-is_overrun.true))

pub loop-i-preserved : goal.loop-i-preserved
loop-i-preserved c =
    let loop = c.loop-i in
    below_more _ _ loop.invariant (sym (asked (goal.at.loop-i-preserved c).After-is_overrun) ∙ c.if-is_overrun.false)

pub returns : goal.returns
unfolding facts_of
returns c =
    let a = c.args in
    let loop = c.loop-i in
    sym (code11_none (facts_in 0 a.self.flows [] a.self.records.now []) (due_by (facts_in 0 a.self.flows [] a.self.records.now []) a.firsts a.run) (state_of a.run) (λ k h. loop.invariant k (omega arith)))
