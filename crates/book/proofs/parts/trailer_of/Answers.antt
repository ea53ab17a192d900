-- `book::parts::trailer_of` meets its contract: each field stands at its place. Assumes nothing.
use Rattle.book.specs.Frame.{trailer_in}
use Rattle.book.proofs.parts.trailer_of.Goals as goal

pub returns : goal.returns
unfolding trailer_in
returns c =
    rw (
      c.word_at.ensures,
      c.word_at-2.ensures,
      c.word_at-3.ensures,
    )
