-- `book::parts::is_astray` meets its contract: each test stands as in the definition. Assumes nothing.
use mathlib.Core.Path.{refl}
use Rattle.book.specs.Frame.{astray}
use Rattle.book.proofs.parts.is_astray.Goals as goal

pub returns : goal.returns
unfolding astray
returns c = refl
