-- `table::written::trailer_bytes` meets its contract: three words, and four bytes behind them. Assumes nothing.
use Rattle.trade.specs.Bytes.{two_bytes}
use Rattle.numbers.specs.Pasting.{pasted_at}
use Rattle.table.specs.Written.{trailer_with}
use Rattle.table.proofs.written.trailer_bytes.Goals as goal

pub returns : goal.returns
unfolding pasted_at two_bytes trailer_with
returns c =
    let e₃ = c.put_word-3.ensures in
    let e₂ = c.put_word-2.ensures in
    let e₁ = c.put_word.ensures in
    rw (e₃, e₂, e₁)
