-- `plans::single::single` writes each step that is no repeat behind those before it. The loop's invariant: the first k steps stand so.
-- Assumes nothing.
use Prim.Native.Nat.{◌+◌, ◌*◌, ◌<◌}
use mathlib.Core.Path.{refl, sym, ◌∙◌}
use native.Mathlib.Omega.{arith}
use native.Mathlib.Numerals.{add-one}
use lib.ListN.{length}
use Rattle.trade.specs.Limits.{step_bytes}
use Rattle.plans.specs.Single.{singles}
use Rattle.plans.proofs.SingleLaws.{singles_most, singles_again, singles_new, singled_none, singled_again, singled_new}
use Rattle.plans.proofs.single.single.Goals as goal
use Rattle.plans.proofs.single.single.Goals.{then-not-is_again, else-not-is_again}

pub loop-k-init : goal.loop-k-init
unfolding singles
loop-k-init c = (c.step_count-len.ensures, refl, singled_none _ _)

pub put_step-requires : goal.put_step-requires
put_step-requires c =
    let loop = c.loop-k in
    omega (arith, loop.invariant.0, loop.invariant.1, singles_most c.args.plan.now loop.k, loop.invariant.2.size, c.requires)

pub overflow_add-found : goal.overflow_add-found
overflow_add-found c = record { fits = omega (arith, c.loop-k.invariant.1, singles_most c.args.plan.now c.loop-k.k) }

pub loop-k-preserved : goal.loop-k-preserved
loop-k-preserved c =
    let plan = c.args.plan.now in
    let loop = c.loop-k in
    let known = c.is_again.ensures in
    rw (add-one loop.k) (
      loop.invariant.0,
      elim c.if-not-is_again.branch [
        | then-not-is_again w ↦ rw w.found-is (omega (arith, loop.invariant.1, singles_new plan loop.k (sym known ∙ w.if-not-is_again.true)))
        | else-not-is_again w ↦ rw w.found-is (loop.invariant.1 ∙ sym (singles_again plan loop.k (sym known ∙ w.if-not-is_again.false)))
      ],
      elim c.if-not-is_again.branch [
        | then-not-is_again w ↦
            let room : step_bytes * singles plan loop.k + 1 < length loop.out = omega (arith, loop.invariant.0, loop.invariant.1, singles_most plan loop.k, loop.invariant.2.size, c.requires) in
            rw (w.out-is, w.put_step.ensures, w.step_at.ensures, loop.invariant.1) (singled_new plan loop.k c.args.out.now loop.out (sym known ∙ w.if-not-is_again.true) room loop.invariant.2)
        | else-not-is_again w ↦ rw w.out-is (singled_again plan loop.k c.args.out.now loop.out (sym known ∙ w.if-not-is_again.false) loop.invariant.2)
      ],
    )
