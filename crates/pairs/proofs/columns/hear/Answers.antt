-- `pairs::columns::hear` spreads each node of the set over those that it disturbs. The loop's invariant: the nodes that are not left are
-- heard. Assumes nothing.
use native.Mathlib.Omega.{arith}
use Rattle.nodes.proofs.MaskLaws.{bit_row}
use Rattle.pairs.proofs.SpreadLaws.{hearing_none, hearing_more, hearing_all}
use Rattle.pairs.proofs.columns.hear.Goals as goal

pub loop-x-init : goal.loop-x-init
loop-x-init c = rw c.into_iter-x-iterator.ensures.into_iter_gives (hearing_none _ _ _ c.requires.2)

pub loop-x-preserved : goal.loop-x-preserved
loop-x-preserved c =
    let rows = c.args.rows.now in
    let loop = c.loop-x in
    hearing_more rows c.args.nodes c.args.table.now _ c.in-Some.x.0 _ loop.table c.spread.new.table
    (λ y h. bit_row rows (λ i. omega (arith, c.type_inv.rows i)) c.in-Some.x.0 y h) c.in-Some.ensures.steps
    (rw (c.row_mask.ensures, c.only.ensures) at c.spread.ensures) loop.invariant

pub returns : goal.returns
returns c = hearing_all _ _ _ _ (rw c.in-None.ensures.steps.0 at c.loop-x.invariant)
