-- `book::parts::is_miscounted` meets its contract: no count is below 0. Assumes nothing.
use borrow.Author.Tests.{le-ltb}
use native.Mathlib.Omega.{arith}
use Rattle.trade.specs.Codes.{outside}
use Rattle.book.proofs.parts.is_miscounted.Goals as goal

pub returns : goal.returns
unfolding outside
returns c = rw (le-ltb c.args.flows 0 (omega arith))
