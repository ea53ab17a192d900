-- `pairs::columns::marks_of` reads the columns of the two nodes. Assumes nothing.
use native.Mathlib.Omega.{arith}
use lib.ListN.{get_or}
use Rattle.pairs.specs.Columns.{marked_at}
use Rattle.pairs.proofs.SpreadLaws.{halves_or}
use Rattle.pairs.proofs.columns.marks_of.Goals as goal

pub returns : goal.returns
unfolding marked_at
returns c b =
    let args = c.args in
    let table = args.columns.now in
    halves_or (get_or table args.t.sender.0 0) (get_or table args.t.receiver.0 0) b (omega (arith, c.type_inv.columns args.t.sender.0))
