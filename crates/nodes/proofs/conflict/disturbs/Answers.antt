-- `nodes::conflict::disturbs` reads the bit that the definition names. Assumes nothing.
use Rattle.trade.specs.Bytes.{bit}
use Rattle.trade.specs.Facts.{disturbs_in}
use borrow.Author.Rules.{rules}
use Rattle.nodes.proofs.conflict.disturbs.Goals as goal

pub returns : goal.returns
unfolding disturbs_in bit
returns c = search rules
