-- `numbers::numbers::put_word` stores the two bytes of a number, the higher first. Assumes nothing.
use Rattle.trade.specs.Bytes.{two_bytes}
use Rattle.numbers.proofs.PastingLaws.{pasted_whole}
use Rattle.numbers.proofs.numbers.put_word.Goals as goal

pub returns : goal.returns
unfolding two_bytes
returns c =
    let a = c.args in
    rw (c.copy_from_slice.ensures.after, c.to_be_bytes.ensures) (pasted_whole a.at (two_bytes a.n) a.buffer.now)
