-- `nodes::conflict::conflict` asks the tests that the definition joins. Assumes nothing.
use Rattle.trade.specs.Conflict.{conflict}
use Rattle.nodes.proofs.conflict.conflict.Goals as goal

pub returns : goal.returns
unfolding conflict
returns c = cc
