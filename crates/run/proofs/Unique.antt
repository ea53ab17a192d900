-- Each public function's contract leaves one result, and one content of what it was lent. The contracts are those that the check
-- reads in the code, `Post`. Assumes nothing.
use mathlib.Core.Path.{◌≡◌}
use Rattle.trade.proofs.Unique.{one_result}
use Rattle.trade.proofs.Refusals.{one_test, one_number}
use Rattle.run.proofs.advance.advance.Reads as advance
use Rattle.run.proofs.start.start.Reads as start

pub start_unique : (κs : _) (a : _) (r r' : _) (s s' : _) → start.Post κs a r s → start.Post κs a r' s' → (r ≡ r') × (s.1.0.now ≡ s'.1.0.now)
start_unique κs a r r' s s' p q = (one_test r r' (one_result p.answer q.answer), one_result p.area q.area)

pub advance_unique :
    (κs : _) (a : _) (r r' : _) (s s' : _)
    → advance.Post κs a r s
    → advance.Post κs a r' s'
    → (r ≡ r') × (s.1.0.now ≡ s'.1.0.now) × (s.1.1.0.now ≡ s'.1.1.0.now)
advance_unique κs a r r' s s' p q = (one_number r r' (one_result p.answer q.answer), one_result p.area q.area, one_result p.grants q.grants)
