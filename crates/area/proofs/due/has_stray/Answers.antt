-- `area::due::has_stray` where none is seen, no unused place passed is other than 0. Assumes nothing.
use borrow.Author.Count.{below_more}
use borrow.Author.Tests.{eqb-true, not-false}
use Rattle.trade.proofs.First.{or_false}
use Rattle.slot.specs.States.{place_of}
use Rattle.area.proofs.due.has_stray.Goals as goal

pub loop-i-preserved : goal.loop-i-preserved
unfolding place_of
loop-i-preserved c e =
    let loop = c.loop-i in
    let (none, zero) = or_false loop.stray _ (rw c.ne-stray.ensures at e) in
    below_more _ _ (loop.invariant none) (λ l. eqb-true _ 0 (not-false _ zero))
