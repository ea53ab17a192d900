-- `numbers::numbers::word_at` reads two bytes, the first the higher. Assumes nothing.
use borrow.Author.Rules.{rules}
use Rattle.trade.specs.Bytes.{word}
use Rattle.numbers.proofs.numbers.word_at.Goals as goal

pub returns : goal.returns
unfolding word
returns c = search rules
