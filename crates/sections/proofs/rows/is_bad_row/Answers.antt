-- `sections::rows::is_bad_row` meets its contract: the row's own bit, or one at or above n. Assumes nothing.
use native.Mathlib.Omega.{arith}
use Rattle.trade.specs.Bytes.{bit}
use Rattle.sections.proofs.RowsLaws.{bad_row_lem}
use Rattle.sections.proofs.rows.is_bad_row.Goals as goal

pub returns : goal.returns
unfolding bit
returns c =
    let a = c.args in
    rw (c.has_above.ensures, c.row_at-set.ensures)
    (bad_row_lem a.nodes a.rows.now a.x (λ i. (c.type_inv.rows i).fits)
    (rw (← c.row_at-set.ensures) (omega arith)) (omega arith) (omega arith))
