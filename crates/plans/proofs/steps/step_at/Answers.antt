-- `plans::steps::step_at` reads the two bytes that the definition names. Assumes nothing.
use Rattle.trade.specs.Facts.{step_in}
use borrow.Author.Rules.{rules}
use Rattle.plans.proofs.steps.step_at.Goals as goal

pub returns : goal.returns
unfolding step_in
returns c = search rules
