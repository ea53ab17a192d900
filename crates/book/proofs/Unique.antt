-- Each public function's contract leaves one result, and one content of what it was lent. The contracts are those that the check
-- reads in the code, `Post`. Assumes nothing.
use mathlib.Core.Path.{◌≡◌, ap, sym, ◌∙◌}
use Rattle.std.specs.Prelude.{Result, Ok, Err, IfOk}
use Rattle.std.proofs.lemmas.Result.{IfOk-at_ok}
use Rattle.trade.specs.Layout.{Sections}
use Rattle.trade.specs.Refusals.{tested}
use Rattle.trade.specs.declared.answer.Answer.{Answer}
use Rattle.trade.specs.declared.refusal.Refusal.{Refusal}
use Rattle.trade.proofs.Unique.{OneResult, one_result}
use Rattle.trade.proofs.Refusals.{refuses, one_refusal}
use Rattle.sections.specs.Parts.{sections_held}
use Rattle.sections.specs.declared.parts.Parts.{Parts}
use Rattle.book.proofs.parts.is_miscounted.Kinds as is_miscounted_kinds
use Rattle.book.proofs.parts.is_miscounted.Reads as is_miscounted
use Rattle.book.proofs.parts.open_book.Reads as open_book
use Rattle.book.proofs.parts.frame_of.Kinds as frame_of_kinds
use Rattle.book.proofs.parts.frame_of.Reads as frame_of
use Rattle.book.proofs.parts.rows_of.Reads as rows_of
use Rattle.book.proofs.parts.records_of.Reads as records_of
use Rattle.book.proofs.parts.steps_of.Reads as steps_of

pub is_miscounted_unique : OneResult 0 is_miscounted_kinds.ps is_miscounted_kinds.r is_miscounted.Post
is_miscounted_unique κs a r r' s s' p q = one_result p q

-- of two tests with one answer, where one refuses the other gives the same refusal
pub same_refusal : {A : Type 0} (r r' : Result A Refusal) → tested r ≡ tested r' → (d : Refusal) → r ≡ Err d → r' ≡ Err d
same_refusal r (Ok x) e d is = absurd (refuses d (ap (λ (a : Answer). a.code) (sym (ap tested is) ∙ e)))
same_refusal r (Err d') e d is = ap Err (one_refusal (sym e ∙ ap tested is))

-- two results have one answer and one refusal, and the parts in them hold one row of sections
abbrev pub OneParts : Result Parts Refusal → Result Parts Refusal → Type 0
OneParts r r' =
    (tested r ≡ tested r')
    × ((p p' : Parts) → r ≡ Ok p → r' ≡ Ok p' → sections_held p ≡ sections_held p')
    × ((d : Refusal) → r ≡ Err d → r' ≡ Err d)

pub one_parts :
    (answer : Answer) (held : Sections) (r r' : Result Parts Refusal)
    → tested r ≡ answer
    → IfOk r (λ p. sections_held p ≡ held)
    → tested r' ≡ answer
    → IfOk r' (λ p. sections_held p ≡ held)
    → OneParts r r'
one_parts answer held r r' a h a' h' = (
  one_result a a',
  λ p p' e e'. one_result (IfOk-at_ok _ e h) (IfOk-at_ok _ e' h'),
  same_refusal r r' (one_result a a'),
)

pub open_book_unique : (κs : _) (a : _) (r r' : _) (s s' : _) → open_book.Post κs a r s → open_book.Post κs a r' s' → OneParts r r'
open_book_unique κs a r r' s s' p q = one_parts _ _ r r' p.0 p.1.0 q.0 q.1.0

pub frame_of_unique : OneResult 1 frame_of_kinds.ps frame_of_kinds.r frame_of.Post
frame_of_unique κs a r r' s s' p q = one_result p.frame q.frame

-- a part is lent on: what it holds is one list
pub rows_of_unique : (κs : _) (a : _) (r r' : _) (s s' : _) → rows_of.Post κs a r s → rows_of.Post κs a r' s' → r.now ≡ r'.now
rows_of_unique κs a r r' s s' p q = one_result p q

pub records_of_unique : (κs : _) (a : _) (r r' : _) (s s' : _) → records_of.Post κs a r s → records_of.Post κs a r' s' → r.now ≡ r'.now
records_of_unique κs a r r' s s' p q = one_result p q

pub steps_of_unique : (κs : _) (a : _) (r r' : _) (s s' : _) → steps_of.Post κs a r s → steps_of.Post κs a r' s' → r.now ≡ r'.now
steps_of_unique κs a r r' s s' p q = one_result p q
