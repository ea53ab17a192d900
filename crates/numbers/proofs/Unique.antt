-- Each public function's contract leaves one result, and one content of what it was lent. The contracts are those that the check
-- reads in the code, `Post`. Assumes nothing.
use mathlib.Core.Path.{◌≡◌}
use Rattle.trade.proofs.Unique.{OneResult, one_result}
use Rattle.numbers.proofs.numbers.word_at.Kinds as word_at_kinds
use Rattle.numbers.proofs.numbers.word_at.Reads as word_at
use Rattle.numbers.proofs.numbers.long_at.Kinds as long_at_kinds
use Rattle.numbers.proofs.numbers.long_at.Reads as long_at
use Rattle.numbers.proofs.numbers.put_word.Reads as put_word
use Rattle.numbers.proofs.numbers.put_long.Reads as put_long
use Rattle.numbers.proofs.pasting.put_at.Reads as put_at

pub word_at_unique : OneResult 1 word_at_kinds.ps word_at_kinds.r word_at.Post
word_at_unique κs a r r' s s' p q = one_result p q

pub long_at_unique : OneResult 1 long_at_kinds.ps long_at_kinds.r long_at.Post
long_at_unique κs a r r' s s' p q = one_result p q

-- a buffer is lent to be written: what it holds afterwards is one list
pub put_word_unique : (κs : _) (a : _) (r r' : _) (s s' : _) → put_word.Post κs a r s → put_word.Post κs a r' s' → s.0.now ≡ s'.0.now
put_word_unique κs a r r' s s' p q = one_result p q

pub put_long_unique : (κs : _) (a : _) (r r' : _) (s s' : _) → put_long.Post κs a r s → put_long.Post κs a r' s' → s.0.now ≡ s'.0.now
put_long_unique κs a r r' s s' p q = one_result p q

pub put_at_unique : (κs : _) (a : _) (r r' : _) (s s' : _) → put_at.Post κs a r s → put_at.Post κs a r' s' → s.0.now ≡ s'.0.now
put_at_unique κs a r r' s s' p q = one_result p q
