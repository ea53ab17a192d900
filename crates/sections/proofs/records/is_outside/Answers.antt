-- `sections::records::is_outside` meets its contract, on either side of its `||`. Assumes nothing.
use borrow.Author.Tests.{lt-ltb, le-ltb}
use Rattle.trade.specs.Codes.{outside}
use Rattle.sections.proofs.records.is_outside.Goals as goal

pub returns-then-v-low : goal.returns-then-v-low
unfolding outside
returns-then-v-low c = simp (lt-ltb _ _ c.if-v-low.true)

pub returns-else-v-low : goal.returns-else-v-low
unfolding outside
returns-else-v-low c = simp (le-ltb _ _ c.if-v-low.false)
