-- `area::area::read_run` reads each place in turn, and then the slot. Assumes nothing.
use mathlib.Core.Path.{◌∙◌}
use native.Mathlib.Omega.{arith}
use borrow.Author.Count.{below_more}
use lib.ListN.{length-set}
use Rattle.trade.specs.Area.{state_in}
use Rattle.slot.proofs.Places.{stored, unstored}
use Rattle.area.proofs.area.read_run.Goals as goal

pub loop-i-preserved : goal.loop-i-preserved
unfolding state_in
loop-i-preserved c =
    let loop = c.loop-i in (
      simp length-set loop.invariant.0,
      below_more _ _ (λ k h. unstored loop.flow-items loop.i k _ (λ e. omega arith) ∙ loop.invariant.1 k h)
          (stored loop.flow-items loop.i _ (omega arith)),
    )

pub returns : goal.returns
unfolding state_in
returns c =
    let loop = c.loop-i in
    record {
      slot = c.long_at.ensures;
      size = loop.invariant.0;
      places = λ i h. loop.invariant.1 i (omega arith);
    }
