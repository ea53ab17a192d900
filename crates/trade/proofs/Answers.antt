-- The first refusal of a list of rules: two inputs that no rule tells apart have the same answer, and a call is done exactly when
-- every rule passed. Leans on nothing. Assumes nothing.
use Prim.Native.Nat.{ℕ, suc, ◌<◌}
use mathlib.Core.Path.{◌≡◌, refl, ap, sym, ◌∙◌}
use mathlib.Core.Bool.{Bool, true, false, cond}
use mathlib.Core.List.{List, [], ◌∷◌, ◌++◌, append-nil}
use mathlib.Core.Logic.{◌⊎◌, inl, inr, ⊎_elim}
use lib.Dec.{eqb}
use borrow.Author.Tests.{eqb-true, eqb-false, eq-eqb, ne_eqb}
use native.Mathlib.Omega.{arith}
use Rattle.trade.proofs.First.{bool_cases, some_intro, some_none, some_false, some_cong, first_unique, first_cong}
use Rattle.trade.specs.First.{first, some}
use Rattle.trade.specs.Answers.{done, refused, is_done, given, given_first, first_of, on, no_number}
use Rattle.trade.specs.declared.answer.Answer.{Answer}

-- of what a call returns done and what it returns refused, one that is done returns the first, and a refused one the second
pub done_first : {A : Type 0} (a : Answer) (x y : A) → a.code ≡ 0 → cond (is_done a) x y ≡ x
unfolding is_done
done_first a x y e = rw (eq-eqb a.code 0 e)

pub refused_second : {A : Type 0} (a : Answer) (x y : A) → (a.code ≡ 0 → ⊥) → cond (is_done a) x y ≡ y
unfolding is_done
refused_second a x y n = rw (ne_eqb a.code 0 n)

-- no rule tells x from y
pub data Same {A : Type 0} (x y : A) : List (A → Answer) → Type 0 where
  same_none : Same x y []
  same_more : {rule : A → Answer} {rules : List (A → Answer)} → rule x ≡ rule y → Same x y rules → Same x y (rule ∷ rules)

pub same_append : {A : Type 0} {x y : A} {rules more : List (A → Answer)} → Same x y rules → Same x y more → Same x y (rules ++ more)
same_append same_none m = m
same_append (same_more e s) m = same_more e (same_append s m)

pub same_on : {A B : Type 0} (look : B → A) {x y : B} {rules : List (A → Answer)} → Same (look x) (look y) rules → Same x y (on look rules)
unfolding on
same_on look same_none = same_none
same_on look (same_more e s) = same_more e (same_on look s)

-- the first rule decides, or the others do
pub first_of_rule : {A : Type 0} (rule : A → Answer) (rules : List (A → Answer)) (number : A → ℕ) (x : A) → first_of (rule ∷ rules) number x ≡ cond (is_done (rule x)) (first_of rules number x) (rule x)
unfolding first_of
first_of_rule rule rules number x = go (is_done (rule x))
  where
    go : (b : Bool) → ◌≡◌ {A = Answer} (elim b [ true ↦ first_of rules number x | false ↦ rule x ]) (cond b (first_of rules number x) (rule x))
    go true = refl
    go false = refl

pub first_of_same : {A : Type 0} {x y : A} {rules : List (A → Answer)} (number : A → ℕ) → Same x y rules → number x ≡ number y → first_of rules number x ≡ first_of rules number y
unfolding first_of
first_of_same number same_none n = ap done n
first_of_same {x = x} {y = y} number (same_more {rule = rule} {rules = rules} e s) n =
    let rest = first_of_same number s n in
    first_of_rule rule rules number x ∙ rw (e, rest) refl ∙ sym (first_of_rule rule rules number y)

-- every rule passed
pub data Passed {A : Type 0} (x : A) : List (A → Answer) → Type 0 where
  passed_none : Passed x []
  passed_more : {rule : A → Answer} {rules : List (A → Answer)} → (rule x).code ≡ 0 → Passed x rules → Passed x (rule ∷ rules)

pub passed_head : {A : Type 0} {x : A} {rule : A → Answer} {rules : List (A → Answer)} → Passed x (rule ∷ rules) → (rule x).code ≡ 0
passed_head (passed_more e p) = e

pub passed_tail : {A : Type 0} {x : A} {rule : A → Answer} {rules : List (A → Answer)} → Passed x (rule ∷ rules) → Passed x rules
passed_tail (passed_more e p) = p

pub passed_append : {A : Type 0} {x : A} {rules more : List (A → Answer)} → Passed x rules → Passed x more → Passed x (rules ++ more)
passed_append passed_none m = m
passed_append (passed_more e p) m = passed_more e (passed_append p m)

-- of rules put together, the first and the others
pub passed_first : {A : Type 0} {x : A} (rules more : List (A → Answer)) → Passed x (rules ++ more) → Passed x rules
passed_first [] more p = passed_none
passed_first (rule ∷ rules) more p = passed_more (passed_head p) (passed_first rules more (passed_tail p))

pub passed_others : {A : Type 0} {x : A} (rules more : List (A → Answer)) → Passed x (rules ++ more) → Passed x more
passed_others [] more p = p
passed_others (rule ∷ rules) more p = passed_others rules more (passed_tail p)

pub passed_on : {A B : Type 0} (look : B → A) {x : B} {rules : List (A → Answer)} → Passed (look x) rules → Passed x (on look rules)
unfolding on
passed_on look passed_none = passed_none
passed_on look (passed_more e p) = passed_more e (passed_on look p)

pub passed_look : {A B : Type 0} (look : B → A) {x : B} (rules : List (A → Answer)) → Passed x (on look rules) → Passed (look x) rules
unfolding on
passed_look look [] p = passed_none
passed_look look (rule ∷ rules) p = passed_more (passed_head p) (passed_look look rules (passed_tail p))

-- a call that is done passed every rule, and one that passed every rule is done
pub first_of_passed : {A : Type 0} (rules : List (A → Answer)) (number : A → ℕ) (x : A) → (first_of rules number x).code ≡ 0 → Passed x rules
unfolding is_done
first_of_passed [] number x e = passed_none
first_of_passed (rule ∷ rules) number x e = step (λ q. first_of_passed rules number x q) (bool_cases (is_done (rule x)))
  where
    step :
        ((first_of rules number x).code ≡ 0 → Passed x rules)
        → (is_done (rule x) ≡ true) ⊎ (is_done (rule x) ≡ false)
        → Passed x (rule ∷ rules)
    step rest (inl d) =
        let others : first_of (rule ∷ rules) number x ≡ first_of rules number x = first_of_rule rule rules number x ∙ rw d refl in
        passed_more (eqb-true (rule x).code 0 d) (rest (sym (ap (λ (a : Answer). a.code) others) ∙ e))
    step rest (inr d) =
        let this : first_of (rule ∷ rules) number x ≡ rule x = first_of_rule rule rules number x ∙ rw d refl in
        absurd (eqb-false (rule x).code 0 d (sym (ap (λ (a : Answer). a.code) this) ∙ e))

pub passed_done : {A : Type 0} {x : A} {rules : List (A → Answer)} (number : A → ℕ) → Passed x rules → first_of rules number x ≡ done (number x)
unfolding first_of is_done
passed_done number passed_none = refl
passed_done {x = x} number (passed_more {rule = rule} {rules = rules} e p) =
    first_of_rule rule rules number x ∙ rw (eq-eqb (rule x).code 0 e) (passed_done number p)

-- so a call that is done has its number
pub first_of_done : {A : Type 0} (rules : List (A → Answer)) (number : A → ℕ) (x : A) → (first_of rules number x).code ≡ 0 → first_of rules number x ≡ done (number x)
first_of_done rules number x e = passed_done number (first_of_passed rules number x e)

-- rules that passed, and then one that refuses: its refusal is the answer
pub passed_refused :
    {A : Type 0} {x : A} {rules : List (A → Answer)} (rule : A → Answer) (more : List (A → Answer)) (number : A → ℕ)
    → Passed x rules
    → ((rule x).code ≡ 0 → ⊥)
    → first_of (rules ++ (rule ∷ more)) number x ≡ rule x
unfolding is_done
passed_refused {x = x} rule more number passed_none n = first_of_rule rule more number x ∙ rw (ne_eqb (rule x).code 0 n)
passed_refused {x = x} rule more number (passed_more {rule = first} {rules = rules} e p) n =
    first_of_rule first (rules ++ (rule ∷ more)) number x ∙ rw (eq-eqb (first x).code 0 e) (passed_refused rule more number p n)

-- what a rule that passed says: its condition does not hold, or no place is bad
pub given_passed : (code : ℕ) (test : Bool) (number : ℕ) → (given (suc code) test number).code ≡ 0 → test ≡ false
unfolding given
given_passed code true number e = absurd (omega arith)
given_passed code false number e = refl

pub given_first_passed : (code : ℕ) (bad : ℕ → Bool) (n : ℕ) → (given_first (suc code) bad n).code ≡ 0 → (j : ℕ) → j < n → bad j ≡ false
unfolding given_first
given_first_passed code bad n e = some_false bad n (given_passed code (some bad n) (first bad n) e)

-- a code that is given at the first bad place, where a search found one, and where it found none
pub given_first_at : (code : ℕ) (bad : ℕ → Bool) (n i : ℕ) → i < n → ((j : ℕ) → j < i → bad j ≡ false) → bad i ≡ true → given_first code bad n ≡ refused code i
unfolding given_first given
given_first_at code bad n i l before holds =
    rw (some_intro bad n i l holds, first_unique bad n i (omega arith) before (λ h. holds))

pub given_first_none : (code : ℕ) (bad : ℕ → Bool) (n : ℕ) → ((j : ℕ) → j < n → bad j ≡ false) → given_first code bad n ≡ done 0
unfolding given_first given
given_first_none code bad n before = rw (some_none bad n before)

-- tests that agree below n give the same code
pub given_first_same : (code : ℕ) (bad other : ℕ → Bool) (n m : ℕ) → n ≡ m → ((j : ℕ) → j < n → bad j ≡ other j) → given_first code bad n ≡ given_first code other m
unfolding given_first
given_first_same code bad other n m e same = rw (some_cong bad other n same, first_cong bad other n same, e)

-- and a code that is given by one condition
pub given_true : (code : ℕ) (test : Bool) (number : ℕ) → test ≡ true → given code test number ≡ refused code number
unfolding given
given_true code test number e = rw e

pub given_false : (code : ℕ) (test : Bool) (number : ℕ) → test ≡ false → given code test number ≡ done 0
unfolding given
given_false code test number e = rw e

-- a rule that refuses is the answer; one that passes leaves it to those after it
pub first_of_refuse : {A : Type 0} (rule : A → Answer) (rules : List (A → Answer)) (number : A → ℕ) (x : A) → ((rule x).code ≡ 0 → ⊥) → first_of (rule ∷ rules) number x ≡ rule x
unfolding is_done
first_of_refuse rule rules number x n = first_of_rule rule rules number x ∙ rw (ne_eqb (rule x).code 0 n)

pub first_of_pass : {A : Type 0} (rule : A → Answer) (rules : List (A → Answer)) (number : A → ℕ) (x : A) → (rule x).code ≡ 0 → first_of (rule ∷ rules) number x ≡ first_of rules number x
unfolding is_done
first_of_pass rule rules number x e = first_of_rule rule rules number x ∙ rw (eq-eqb (rule x).code 0 e)

-- a rule that passes has no number, so the last rule's answer is the call's
pub given_passes : (code : ℕ) (test : Bool) (number : ℕ) → (given (suc code) test number).code ≡ 0 → given (suc code) test number ≡ done 0
unfolding given
given_passes code true number e = absurd (omega arith)
given_passes code false number e = refl

pub first_of_last : {A : Type 0} (rule : A → Answer) (x : A) → ((rule x).code ≡ 0 → rule x ≡ done 0) → first_of (rule ∷ []) no_number x ≡ rule x
unfolding first_of is_done
first_of_last rule x plain =
    ⊎_elim
    (λ (e : eqb (rule x).code 0 ≡ true). first_of_rule rule [] no_number x ∙ rw e (sym (plain (eqb-true (rule x).code 0 e))))
    (λ (e : eqb (rule x).code 0 ≡ false). first_of_rule rule [] no_number x ∙ rw e)
    (bool_cases (eqb (rule x).code 0))

-- of rules put together, the first decide, or the others do
pub first_of_append :
    {A : Type 0} (rules more : List (A → Answer)) (number : A → ℕ) (x : A)
    → first_of (rules ++ more) number x ≡ cond (is_done (first_of rules no_number x)) (first_of more number x) (first_of rules no_number x)
unfolding first_of is_done
first_of_append [] more number x = refl
first_of_append (rule ∷ rules) more number x =
    ⊎_elim
    (λ (e : is_done (rule x) ≡ true).
    first_of_rule rule (rules ++ more) number x ∙ rw (e, first_of_append rules more number x, first_of_rule rule rules no_number x, e))
    (λ (e : is_done (rule x) ≡ false). first_of_rule rule (rules ++ more) number x ∙ rw (e, first_of_rule rule rules no_number x, e, e))
    (bool_cases (is_done (rule x)))

pub append_refused :
    {A : Type 0} (rules more : List (A → Answer)) (number : A → ℕ) (x : A)
    → ((first_of rules no_number x).code ≡ 0 → ⊥)
    → first_of (rules ++ more) number x ≡ first_of rules no_number x
append_refused rules more number x n = first_of_append rules more number x ∙ refused_second (first_of rules no_number x) _ _ n

pub append_passed :
    {A : Type 0} (rules more : List (A → Answer)) (number : A → ℕ) (x : A)
    → (first_of rules no_number x).code ≡ 0
    → first_of (rules ++ more) number x ≡ first_of more number x
append_passed rules more number x e = first_of_append rules more number x ∙ done_first (first_of rules no_number x) _ _ e

-- a call's number counts only where all its rules pass
pub first_of_number :
    {A : Type 0} (rules : List (A → Answer)) (number : A → ℕ) (x : A)
    → first_of rules number x ≡ cond (is_done (first_of rules no_number x)) (done (number x)) (first_of rules no_number x)
unfolding first_of
first_of_number rules number x = ap (λ (all : List (_ → Answer)). first_of all number x) (sym (append-nil rules)) ∙ first_of_append rules [] number x

-- a rule that passes may be left out
pub first_of_without :
    {A : Type 0} (rules : List (A → Answer)) (rule : A → Answer) (more : List (A → Answer)) (number : A → ℕ) (x : A)
    → (rule x).code ≡ 0
    → first_of (rules ++ (rule ∷ more)) number x ≡ first_of (rules ++ more) number x
first_of_without rules rule more number x e =
    first_of_append rules (rule ∷ more) number x ∙ rw (first_of_pass rule more number x e) (sym (first_of_append rules more number x))

-- rules on a part of what is handed answer as they do by themselves
pub first_of_look :
    {A B : Type 0} (look : B → A) (rules : List (A → Answer)) (x : B)
    → first_of (on look rules) no_number x ≡ first_of rules no_number (look x)
unfolding on first_of
first_of_look look [] x = refl
first_of_look look (rule ∷ rules) x =
    first_of_rule (λ y. rule (look y)) (on look rules) no_number x
    ∙ rw (first_of_look look rules x) (sym (first_of_rule rule rules no_number (look x)))

-- and then more: theirs is the answer if they refuse, and else it is left to those after them
pub first_of_on :
    {A B : Type 0} (look : B → A) (rules : List (A → Answer)) (more : List (B → Answer)) (number : B → ℕ) (x : B)
    → first_of (on look rules ++ more) number x
    ≡ cond (is_done (first_of rules no_number (look x))) (first_of more number x) (first_of rules no_number (look x))
first_of_on look rules more number x = first_of_append (on look rules) more number x ∙ rw (first_of_look look rules x)
