-- `area::due::due_in` looks at one flow after the other. Assumes nothing.
use mathlib.Core.Path.{◌≡◌, refl, sym, ◌∙◌}
use mathlib.Core.Bool.{◌||◌}
use native.Mathlib.Omega.{arith}
use lib.Dec.{ltb}
use Rattle.area.proofs.RefusalsLaws.{earlier}
use Rattle.trade.specs.Limits.{last_slot}
use Rattle.trade.specs.Facts.{flow_in}
use Rattle.area.proofs.DueLaws.{Seen, seen_none, seen_stays, seen_released, seen_clear, seen_after, seen_firsts, seen_answer}
use Rattle.area.proofs.due.due_in.Goals as goal
use Rattle.area.proofs.due.due_in.Goals.{else-is_released, then-is_released, After-loop-i}

pub loop-i-init : goal.loop-i-init
loop-i-init c =
    let a = c.args in
    (refl, seen_none a.flows a.records.now a.run _)

pub is_released-requires : goal.is_released-requires
unfolding flow_in
is_released-requires c =
    rw c.record_at-flow.ensures (c.requires.1 c.loop-i.i c.loop-i-test.true)

pub loop-i-preserved : goal.loop-i-preserved
loop-i-preserved c =
    let a = c.args in
    let loop = c.loop-i in
    let taken = c.loop-i-test.true in
    let flow = c.record_at-flow in
    let bad = c.is_bad-doubt.ensures in
    let known = c.is_released.ensures in (
      elim c.if-is_released.branch [ then-is_released w ↦ rw w.released-is loop.invariant.0 | else-is_released w ↦ rw w.released-is loop.invariant.0 ],
      elim c.if-is_released.branch [ then-is_released w ↦ rw (w.released-is, w.doubt-is, bad) (seen_released a.flows a.records.now a.run _ loop.i loop.released.flows loop.firsts loop.doubt loop.invariant.1 (omega (arith, taken, c.requires.2)) taken flow.result flow.ensures (sym known ∙ w.if-is_released.true) (omega (arith, loop.invariant.1.size, taken, c.requires.3, c.requires.2))) | else-is_released w ↦ rw (w.released-is, w.doubt-is, bad) (seen_stays a.flows a.records.now a.run _ loop.i loop.released.flows loop.firsts loop.doubt loop.invariant.1 (omega (arith, taken, c.requires.2)) taken flow.result flow.ensures (sym known ∙ w.if-is_released.false)) ],
    )

-- once the loop is through, every flow has been seen
seen : (c : After-loop-i) → Seen c.args.flows c.args.records.now c.args.run (ltb last_slot c.args.run.slot.0 || c.has_stray.result) c.args.flows c.loop-i.released.flows c.loop-i.firsts c.loop-i.doubt
seen c =
    let all : c.loop-i.i ≡ c.args.flows = omega arith in
    let late : c.lt.result ≡ ltb last_slot c.args.run.slot.0 = c.lt.ensures ∙ earlier last_slot c.args.run.slot.0 in
    rw (all, late) at c.loop-i.invariant.1

pub returns-then-doubt : goal.returns-then-doubt
returns-then-doubt c =
    let a = c.args in
    let loop = c.loop-i in
    let all = seen (goal.at.returns-then-doubt c).After-loop-i in
    record {
      answer =
          c.run_answer-test.ensures ∙ seen_answer a.flows a.records.now a.run _ loop.released.flows loop.firsts loop.doubt all;
      after = seen_after a.flows a.records.now a.run _ loop.released.flows loop.firsts loop.doubt all loop.released.slot loop.invariant.0;
      firsts = seen_firsts a.flows a.records.now a.run _ loop.released.flows loop.firsts loop.doubt all;
    }

pub returns-else-doubt : goal.returns-else-doubt
returns-else-doubt c =
    let a = c.args in
    let loop = c.loop-i in
    let all = seen (goal.at.returns-else-doubt c).After-loop-i in
    record {
      answer =
          sym (seen_clear a.flows a.records.now a.run c.has_stray.result loop.released.flows loop.firsts loop.doubt all c.has_stray.ensures c.if-doubt.false);
      after = seen_after a.flows a.records.now a.run _ loop.released.flows loop.firsts loop.doubt all loop.released.slot loop.invariant.0;
      firsts = seen_firsts a.flows a.records.now a.run _ loop.released.flows loop.firsts loop.doubt all;
    }
