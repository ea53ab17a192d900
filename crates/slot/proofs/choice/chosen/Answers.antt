-- `slot::choice::chosen` takes the flows in record order. Assumes nothing.
use Prim.Native.Nat.{ℕ, ◌+◌}
use mathlib.Core.Path.{◌≡◌, refl, ap₂}
use native.Mathlib.Numerals.{add-one}
use native.Mathlib.Omega.{arith}
use Rattle.trade.specs.Limits.{most_steps}
use Rattle.trade.specs.First.{sum_to}
use Rattle.trade.specs.Layout.{field}
use Rattle.trade.specs.Facts.{facts_of, first_step}
use Rattle.trade.specs.Slot.{granted_by, greedy, unfinished, next_step, done_now}
use Rattle.trade.proofs.Sums.{sum_most, sum_next}
use Rattle.nodes.proofs.MaskLaws.{one_bit_of}
use Rattle.slot.specs.States.{place_of, state_of}
use Rattle.slot.proofs.ChoiceLaws.{chosen_none, chosen_all, turn_asks, chosen_waits, chosen_goes}
use Rattle.slot.proofs.choice.chosen.Goals as goal
use Rattle.slot.proofs.choice.chosen.Goals.{in-Some, in_default}

pub loop-i-init : goal.loop-i-init
unfolding first_step sum_to
loop-i-init c = (refl, chosen_none _ _ _ _ _ c.empty-set.result c.empty-set.ensures)

pub take_turn-requires : goal.take_turn-requires
unfolding place_of
take_turn-requires c =
    let a = c.args in
    let loop = c.loop-i in
    rw (loop.invariant.0, c.len_at-len.ensures.0)
    (turn_asks a.parts.flows a.parts.rows.now a.parts.records.now a.parts.steps.now (record { slot = 0; done = place_of a.run.flows }) c.args.parts.formed loop.i c.loop-i-test.true)

pub overflow_add-start : goal.overflow_add-start
unfolding first_step facts_of
overflow_add-start c =
    let loop = c.loop-i in
    let taken = c.loop-i-test.true in
    let len : ℕ → ℕ = λ k. field c.args.parts.records.now k 4 in
    omega (
      arith,
      loop.invariant.0,
      c.len_at-len.ensures.1,
      sum_most len most_steps loop.i (λ k h. (c.args.parts.formed.fields k (omega (arith, taken))).len.1),
      c.args.parts.formed.most,
      taken,
    )

pub loop-i-preserved : goal.loop-i-preserved
unfolding first_step facts_of place_of
loop-i-preserved c =
    let a = c.args in
    let loop = c.loop-i in
    let taken = c.loop-i-test.true in
    let len = c.len_at-len.ensures.0 in (
      rw (add-one loop.i, sum_next (λ (k : ℕ). field a.parts.records.now k 4) loop.i) (ap₂ ◌+◌ loop.invariant.0 len),
      rw (add-one loop.i)
          (elim c.match-take_turn.branch [
            | in-Some w ↦ rw (w.places-is, w.sent-is, one_bit_of 32 loop.i (omega (arith, taken, c.args.parts.formed.most)))
                (chosen_goes a.parts.flows a.parts.rows.now a.parts.records.now a.parts.steps.now (record { slot = 0; done = place_of a.run.flows }) c.args.parts.formed loop.i taken loop.set loop.places loop.sent loop.invariant.1 c.take_turn.new.set
                w.in-Some.step (rw (loop.invariant.0, len) at w.in-Some.ensures))
            | in_default w ↦ rw (w.places-is, w.sent-is)
                (chosen_waits a.parts.flows a.parts.rows.now a.parts.records.now a.parts.steps.now (record { slot = 0; done = place_of a.run.flows }) c.args.parts.formed loop.i taken loop.set loop.places loop.sent loop.invariant.1 c.take_turn.new.set
                (rw (loop.invariant.0, len) at w.in_default.ensures))
          ]),
    )

pub returns : goal.returns
unfolding state_of granted_by greedy unfinished next_step done_now facts_of
returns c =
    let a = c.args in
    let loop = c.loop-i in
    let all : loop.i ≡ a.parts.flows = omega arith in
    let all_made = chosen_all a.parts.flows a.parts.rows.now a.parts.records.now a.parts.steps.now (record { slot = 0; done = place_of a.run.flows }) loop.set loop.places loop.sent (rw all at loop.invariant.1) in
    record { goes = all_made.goes; size = all_made.size; sends = all_made.sends }
