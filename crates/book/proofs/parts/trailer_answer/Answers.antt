-- `book::parts::trailer_answer` meets its contract: each answer stands behind the tests that led to it. Assumes nothing.
use mathlib.Core.Path.{refl, ◌∙◌, sym}
use Rattle.book.specs.Frame.{trailer_answer}
use Rattle.book.proofs.parts.trailer_answer.Goals as goal

pub returns-then-not-marked : goal.returns-then-not-marked
unfolding trailer_answer
returns-then-not-marked c = rw c.if-not-marked.true refl

pub returns-then-is_miscounted : goal.returns-then-is_miscounted
unfolding trailer_answer
returns-then-is_miscounted c =
    rw (c.if-not-marked.false, sym c.is_miscounted.ensures ∙ c.if-is_miscounted.true) refl

-- the trailer as a whole is asked before what it says of its mark
pub returns-then-is_astray : goal.returns-then-is_astray
unfolding trailer_answer
returns-then-is_astray c =
    rw (
      sym c.is_astray.ensures ∙ c.if-is_astray.true,
      c.if-not-marked.false,
      sym c.is_miscounted.ensures ∙ c.if-is_miscounted.false,
    )
    refl

pub returns : goal.returns
unfolding trailer_answer
returns c =
    rw (
      sym c.is_astray.ensures ∙ c.if-is_astray.false,
      c.if-not-marked.false,
      sym c.is_miscounted.ensures ∙ c.if-is_miscounted.false,
    )
    refl
