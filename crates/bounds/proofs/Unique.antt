-- Each public function's contract leaves one result, and one content of what it was lent. The contracts are those that the check
-- reads in the code, `Post`. Assumes nothing.
use mathlib.Core.Path.{◌≡◌, ap, sym}
use mathlib.Core.List.{List}
use Prim.Native.Nat.{ℕ}
use Rattle.std.specs.Prelude.{Result, Ok, Err}
use Rattle.trade.specs.declared.refusal.Refusal.{Refusal}
use Rattle.trade.proofs.Unique.{OneResult, one_result}
use Rattle.trade.proofs.Refusals.{refuses, one_refusal}
use Rattle.bounds.specs.Bounds.{checked_by}
use Rattle.bounds.specs.declared.bounds.Checked.{Checked}
use Rattle.bounds.proofs.bounds.CheckedFromResultBoundsRefusal.from.Kinds as from_kinds
use Rattle.bounds.proofs.bounds.CheckedFromResultBoundsRefusal.from.Reads as from
use Rattle.bounds.proofs.bounds.bounds_of.Kinds as bounds_of_kinds
use Rattle.bounds.proofs.bounds.bounds_of.Reads as bounds_of
use Rattle.bounds.proofs.kept.bounds_with.Kinds as bounds_with_kinds
use Rattle.bounds.proofs.kept.bounds_with.Reads as bounds_with
use Rattle.bounds.proofs.kept.bounds_kept.Kinds as bounds_kept_kinds
use Rattle.bounds.proofs.kept.bounds_kept.Reads as bounds_kept
use Rattle.bounds.proofs.acceptance.check.Kinds as check_kinds
use Rattle.bounds.proofs.acceptance.check.Reads as check

-- bounds or a refusal: one for each answer with its bounds
one_row : (r r' : Result (List ℕ) Refusal) → checked_by r ≡ checked_by r' → r ≡ r'
one_row (Ok b) (Ok b') e = ap (λ (c : Checked). Ok c.bounds) e
one_row (Ok b) (Err d) e = absurd (refuses d (sym (ap (λ (c : Checked). c.answer.code) e)))
one_row (Err d) (Ok b) e = absurd (refuses d (ap (λ (c : Checked). c.answer.code) e))
one_row (Err d) (Err d') e = ap Err (one_refusal (ap (λ (c : Checked). c.answer) e))

pub checked_from_unique : OneResult 0 from_kinds.ps from_kinds.r from.Post
checked_from_unique κs a r r' s s' p q = one_result p q

pub bounds_of_unique : OneResult 1 bounds_of_kinds.ps bounds_of_kinds.r bounds_of.Post
bounds_of_unique κs a r r' s s' p q = one_row r r' (one_result p q)

pub check_unique : OneResult 1 check_kinds.ps check_kinds.r check.Post
check_unique κs a r r' s s' p q = λ i. record { answer = one_result p.answer q.answer i; bounds = one_result p.bounds q.bounds i }

pub bounds_with_unique : OneResult 3 bounds_with_kinds.ps bounds_with_kinds.r bounds_with.Post
bounds_with_unique κs a r r' s s' p q = one_row r r' (one_result p q)

pub bounds_kept_unique : OneResult 2 bounds_kept_kinds.ps bounds_kept_kinds.r bounds_kept.Post
bounds_kept_unique κs a r r' s s' p q = one_row r r' (one_result p q)
