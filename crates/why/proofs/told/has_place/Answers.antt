-- `why::told::has_place` reads one bit. Assumes nothing.
use mathlib.Core.Path.{refl}
use Rattle.trade.specs.Bytes.{bit}
use Rattle.why.proofs.told.has_place.Goals as goal

pub returns : goal.returns
unfolding bit
returns c = refl
