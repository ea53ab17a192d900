-- `numbers::numbers::put_long` stores the four bytes of a number, which are those of its two words, the higher first. Assumes nothing.
use mathlib.Core.Path.{◌≡◌, ◌∙◌}
use borrow.Author.Rules.{rules}
use Rattle.std.specs.Int.{w32, to_be_bytes}
use Rattle.trade.specs.Bytes.{two_bytes, four_bytes}
use Rattle.numbers.proofs.PastingLaws.{pasted_whole}
use Rattle.numbers.proofs.numbers.put_long.Goals as goal

pub returns : goal.returns
unfolding two_bytes four_bytes
returns c =
    let a = c.args in
    let same : to_be_bytes w32 a.n ≡ four_bytes a.n = search rules in
    let bytes : c.to_be_bytes.result ≡ four_bytes a.n = c.to_be_bytes.ensures ∙ same in
    rw (c.copy_from_slice.ensures.after, bytes) (pasted_whole a.at (four_bytes a.n) a.buffer.now)
