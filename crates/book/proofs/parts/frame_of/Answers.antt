-- `book::parts::frame_of` meets its contract: the trailer of a book says where its sections lie. Assumes nothing.
use Prim.Native.Nat.{◌-◌}
use mathlib.Core.Path.{◌≡◌, ◌∙◌}
use native.Mathlib.Omega.{arith}
use lib.ListN.{length, length-drop}
use Rattle.trade.specs.Limits.{trailer_bytes}
use Rattle.trade.specs.Layout.{trailer}
use Rattle.numbers.proofs.NumbersLaws.{part_tail}
use Rattle.book.specs.Frame.{trailer_in}
use Rattle.book.proofs.PartsLaws.{trailer_read}
use Rattle.book.proofs.OpenBookLaws.{said_lies, said_within}
use Rattle.book.proofs.parts.frame_of.Goals as goal
use Rattle.book.proofs.parts.frame_of.Goals.{After-trailer_of-said}

-- the trailer that is read is the slice's
read : (c : After-trailer_of-said) → c.trailer_of-said.result ≡ trailer_in (trailer c.args.slice.now)
read c = c.trailer_of-said.ensures ∙ trailer_read c.args.slice.now

pub overflow_sub-end : goal.overflow_sub-end
overflow_sub-end c = (said_within c.args.slice.now c.requires).0

pub trailer_of-said-requires : goal.trailer_of-said-requires
trailer_of-said-requires c =
    let within = said_within c.args.slice.now c.requires in
    rw (part_tail (length c.args.slice.now - trailer_bytes) c.args.slice.now, length-drop (length c.args.slice.now - trailer_bytes) c.args.slice.now)
    (omega (arith, within.0))

pub frame_by-requires : goal.frame_by-requires
frame_by-requires c = rw (read (goal.at.frame_by-requires c).After-trailer_of-said) (said_within c.args.slice.now c.requires)

pub returns : goal.returns
returns c = rw (c.frame_by.ensures, read (goal.at.returns c).After-trailer_of-said) (said_lies c.args.slice.now c.requires)
