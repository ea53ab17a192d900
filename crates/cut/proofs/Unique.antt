-- Each public function's contract leaves one content of what it was lent. The contracts are those that the check reads in the code,
-- `Post`. Assumes nothing.
use mathlib.Core.Path.{◌≡◌}
use Rattle.trade.proofs.Unique.{one_result}
use Rattle.cut.proofs.cut.turn.Reads as turn
use Rattle.cut.proofs.cut.put_in.Reads as put_in
use Rattle.cut.proofs.cut.take_out.Reads as take_out
use Rattle.cut.proofs.cut.clear.Reads as clear

pub turn_unique : (κs : _) (a : _) (r r' : _) (s s' : _) → turn.Post κs a r s → turn.Post κs a r' s' → s.0.now ≡ s'.0.now
turn_unique κs a r r' s s' p q = one_result p q

-- the section, and what is held
pub put_in_unique : (κs : _) (a : _) (r r' : _) (s s' : _) → put_in.Post κs a r s → put_in.Post κs a r' s' → (s.0.now ≡ s'.0.now) × (s.1.1.1.0.now ≡ s'.1.1.1.0.now)
put_in_unique κs a r r' s s' p q = (one_result p.0 q.0, one_result p.1 q.1)

pub take_out_unique : (κs : _) (a : _) (r r' : _) (s s' : _) → take_out.Post κs a r s → take_out.Post κs a r' s' → (s.0.now ≡ s'.0.now) × (s.1.1.1.0.now ≡ s'.1.1.1.0.now)
take_out_unique κs a r r' s s' p q = (one_result p.0 q.0, one_result p.1 q.1)

pub clear_unique : (κs : _) (a : _) (r r' : _) (s s' : _) → clear.Post κs a r s → clear.Post κs a r' s' → s.0.now ≡ s'.0.now
clear_unique κs a r r' s s' p q = one_result p q
