-- Each call's contract leaves one answer, and one content of what it was lent. The contracts are those that the check reads in the
-- code, `Post`. Assumes nothing.
use mathlib.Core.Path.{◌≡◌}
use Rattle.trade.proofs.Unique.{OneResult, one_result}
use Rattle.radio.proofs.slot_check.Kinds as slot_check_kinds
use Rattle.radio.proofs.slot_check.Reads as slot_check
use Rattle.radio.proofs.slot_start.Reads as slot_start
use Rattle.radio.proofs.slot_advance.Reads as slot_advance

pub slot_check_unique : OneResult 1 slot_check_kinds.ps slot_check_kinds.r slot_check.Post
slot_check_unique κs a r r' s s' p q = one_result p.answer q.answer

pub slot_start_unique : (κs : _) (a : _) (r r' : _) (s s' : _) → slot_start.Post κs a r s → slot_start.Post κs a r' s' → (r ≡ r') × (s.1.0.now ≡ s'.1.0.now)
slot_start_unique κs a r r' s s' p q = (one_result p.answer q.answer, one_result p.area q.area)

pub slot_advance_unique : (κs : _) (a : _) (r r' : _) (s s' : _) → slot_advance.Post κs a r s → slot_advance.Post κs a r' s' → (r ≡ r') × (s.1.0.now ≡ s'.1.0.now) × (s.1.1.0.now ≡ s'.1.1.0.now)
slot_advance_unique κs a r r' s s' p q =
    (one_result p.answer q.answer, one_result p.area q.area, one_result p.grants q.grants)
