-- A refusal has a code that is not 0, and no two refusals have the same answer: so a test that answers as another does gives what that gives.
-- Assumes nothing.
use Prim.Native.Nat.{ℕ}
use mathlib.Core.Path.{◌≡◌, refl, ap, sym, ◌∙◌}
use mathlib.Core.Bool.{cond}
use native.Mathlib.Omega.{arith}
use Rattle.std.specs.Prelude.{Result, Ok, Err, IsErrAnd, eqb}
use Rattle.std.proofs.lemmas.Result.{err_from_is_err_and}
use Rattle.trade.specs.Refusals.{answer_of, answered, tested}
use Rattle.trade.specs.declared.answer.Answer.{Answer}
use Rattle.trade.specs.declared.refusal.Refusal.{Refusal}
use Rattle.trade.specs.declared.refusal.Refusal.TheVariants.{Short, Unmarked, Miscounted, Astray, BadRow, BadRecord, Uneven, BadStep, Late, BadArea, Overrun, Ended, NoRoom, Full, NoPlace, BadFigure}

-- the refusal that an answer tells
unfoldable pub refusal_of : Answer → Refusal
refusal_of a =
    cond (eqb a.code 1) Short
    (cond (eqb a.code 2) Unmarked
    (cond (eqb a.code 3) Miscounted
    (cond (eqb a.code 4) Astray
    (cond (eqb a.code 5) (BadRow a.number)
    (cond (eqb a.code 6) (BadRecord a.number)
    (cond (eqb a.code 7) Uneven
    (cond (eqb a.code 8) (BadStep a.number)
    (cond (eqb a.code 9) (Late a.number)
    (cond (eqb a.code 10) (BadArea a.number)
    (cond (eqb a.code 11) (Overrun a.number)
    (cond (eqb a.code 12) Ended
    (cond (eqb a.code 13) NoRoom
    (cond (eqb a.code 14) Full
    (cond (eqb a.code 15) NoPlace (BadFigure a.number)))))))))))))))

pub refusal_told : (r : Refusal) → refusal_of (answer_of r) ≡ r
unfolding refusal_of
refusal_told Short = refl
refusal_told Unmarked = refl
refusal_told Miscounted = refl
refusal_told Astray = refl
refusal_told (BadRow x) = refl
refusal_told (BadRecord i) = refl
refusal_told Uneven = refl
refusal_told (BadStep k) = refl
refusal_told (Late l) = refl
refusal_told (BadArea i) = refl
refusal_told (Overrun i) = refl
refusal_told Ended = refl
refusal_told NoRoom = refl
refusal_told Full = refl
refusal_told NoPlace = refl
refusal_told (BadFigure l) = refl

-- no two refusals have the same answer
pub one_refusal : {r s : Refusal} → answer_of r ≡ answer_of s → r ≡ s
one_refusal {r} {s} e = sym (refusal_told r) ∙ ap refusal_of e ∙ refusal_told s

-- no refusal is done
pub refuses : (r : Refusal) → (answer_of r).code ≡ 0 → ⊥
refuses Short e = omega arith
refuses Unmarked e = omega arith
refuses Miscounted e = omega arith
refuses Astray e = omega arith
refuses (BadRow x) e = omega arith
refuses (BadRecord i) e = omega arith
refuses Uneven e = omega arith
refuses (BadStep k) e = omega arith
refuses (Late l) e = omega arith
refuses (BadArea i) e = omega arith
refuses (Overrun i) e = omega arith
refuses Ended e = omega arith
refuses NoRoom e = omega arith
refuses Full e = omega arith
refuses NoPlace e = omega arith
refuses (BadFigure l) e = omega arith

-- a test that gives nothing but that it passed: one for each answer
pub one_test : (r s : Result Unit Refusal) → tested r ≡ tested s → r ≡ s
one_test (Ok x) (Ok y) e = refl
one_test (Ok x) (Err q) e = absurd (refuses q (sym (ap (λ (a : Answer). a.code) e)))
one_test (Err r) (Ok y) e = absurd (refuses r (ap (λ (a : Answer). a.code) e))
one_test (Err r) (Err q) e = ap Err (one_refusal e)

-- what gives a number: one for each answer
pub one_number : (r s : Result ℕ Refusal) → answered (λ n. n) r ≡ answered (λ n. n) s → r ≡ s
one_number (Ok m) (Ok n) e = ap (λ (a : Answer). Ok a.number) e
one_number (Ok m) (Err q) e = absurd (refuses q (sym (ap (λ (a : Answer). a.code) e)))
one_number (Err r) (Ok n) e = absurd (refuses r (ap (λ (a : Answer). a.code) e))
one_number (Err r) (Err q) e = ap Err (one_refusal e)

-- what a `?` hands on is answered as the test that refused
pub handed_on : {A : Type 0} (r : Result A Refusal) (refusal : Refusal) → IsErrAnd r (λ e. e ≡ refusal) → tested r ≡ answer_of refusal
handed_on r refusal h =
    let (e, is, same) = err_from_is_err_and r h in
    rw (is, same) refl

pub number_handed_on :
    {A : Type 0} (number : A → ℕ) (r : Result A Refusal) (refusal : Refusal)
    → IsErrAnd r (λ e. e ≡ refusal)
    → answered number r ≡ answer_of refusal
number_handed_on number r refusal h =
    let (e, is, same) = err_from_is_err_and r h in
    rw (is, same) refl
