-- `area::refusals::is_bad` compares the steps done with L. Assumes nothing.
use Rattle.area.specs.Refusals.{bad_at}
use borrow.Author.Rules.{rules}
use Rattle.area.proofs.refusals.is_bad.Goals as goal

pub returns : goal.returns
unfolding bad_at
returns c = search rules
