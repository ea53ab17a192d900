-- `numbers::pasting::put_at` meets its contract: the part from the place on, as long as the bytes, is the bytes. Assumes nothing.
use Rattle.numbers.proofs.PastingLaws.{pasted_whole}
use Rattle.numbers.proofs.pasting.put_at.Goals as goal

pub returns : goal.returns
returns c =
    let a = c.args in
    rw c.copy_from_slice.ensures.after (pasted_whole a.at a.src.now a.buffer.now)
