-- `pairs::columns::spread` sets the mark at each node of the set. The loop's invariant: the nodes that are not left have the mark.
-- Assumes nothing.
use Prim.Native.Nat.{◌<◌}
use native.Mathlib.Omega.{arith}
use lib.ListN.{length}
use Rattle.pairs.proofs.SpreadLaws.{spreading_none, spreading_more, spreading_all}
use Rattle.pairs.proofs.columns.spread.Goals as goal

pub loop-x-init : goal.loop-x-init
loop-x-init c = rw c.into_iter-x-iterator.ensures.into_iter_gives (spreading_none _ _ _)

pub loop-x-preserved : goal.loop-x-preserved
loop-x-preserved c =
    let loop = c.loop-x in
    let low = c.in-Some.ensures.steps in
    let inside : c.in-Some.x.0 < length loop.table = omega (arith, low.numbered, loop.invariant.size, c.requires) in
    spreading_more _ _ _ _ _ _ loop.table low inside loop.invariant

pub returns : goal.returns
returns c = spreading_all _ _ _ _ (omega arith) (rw c.in-None.ensures.steps.0 at c.loop-x.invariant)
