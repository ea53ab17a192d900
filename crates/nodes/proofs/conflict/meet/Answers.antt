-- `nodes::conflict::meet` is the definition, test by test. Assumes nothing.
use Rattle.trade.specs.Conflict.{meet}
use Rattle.nodes.proofs.conflict.meet.Goals as goal

pub returns : goal.returns
unfolding meet
returns c = cc
