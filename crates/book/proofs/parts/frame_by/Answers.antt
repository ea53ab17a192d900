-- `book::parts::frame_by` meets its contract. Assumes nothing.
use mathlib.Core.Path.{refl}
use Rattle.book.specs.Frame.{frame_by}
use Rattle.book.proofs.parts.frame_by.Goals as goal

pub returns : goal.returns
unfolding frame_by
returns c = refl
