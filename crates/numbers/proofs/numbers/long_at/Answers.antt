-- `numbers::numbers::long_at` reads four bytes, which are two words, the first the higher. Assumes nothing.
use borrow.Author.Rules.{rules}
use Rattle.trade.specs.Bytes.{word, long}
use Rattle.numbers.proofs.numbers.long_at.Goals as goal

pub returns : goal.returns
unfolding word long
returns c = search rules
