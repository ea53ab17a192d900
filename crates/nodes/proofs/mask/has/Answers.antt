-- `nodes::mask::has` reads one bit. Assumes nothing.
use mathlib.Core.Path.{refl}
use Rattle.trade.specs.Bytes.{bit}
use Rattle.nodes.proofs.mask.has.Goals as goal

pub returns : goal.returns
unfolding bit
returns c = refl
