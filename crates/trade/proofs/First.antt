-- The first index at which a test holds: it is at most the end, no index before it passes the test, and it passes if it is not the
-- end; and it is the only such index. Leans on nothing. Assumes nothing.
use Prim.Native.Nat.{ℕ, zero, suc, ◌+◌, ◌≤◌, ◌<◌}
use mathlib.Core.Path.{◌≡◌, refl, sym, ◌∙◌, ap, subst}
use mathlib.Core.Bool.{Bool, true, false, ◌&&◌, ◌||◌, true≢false}
use mathlib.Core.Logic.{◌⊎◌, inl, inr, ⊎_elim}
use native.Mathlib.Omega.{arith}
use native.Mathlib.Nat.{zero-add}
use lib.Dec.{ltb}
use borrow.Author.Tests.{ltb-true, ltb-false, lt-ltb, le-ltb}
use Rattle.trade.specs.First.{first_from, first, some}

-- a Boolean is one or the other, and not both
pub bool_cases : (b : Bool) → (b ≡ true) ⊎ (b ≡ false)
bool_cases true = inl refl
bool_cases false = inr refl

pub not_both : {b : Bool} → b ≡ true → b ≡ false → ⊥
not_both p q = true≢false (sym p ∙ q)

-- of two tests joined, each holds, or each fails
pub and_true : (a b : Bool) → (a && b) ≡ true → (a ≡ true) × (b ≡ true)
and_true true b e = (refl, e)
and_true false b e = absurd (not_both e refl)

pub or_false : (a b : Bool) → (a || b) ≡ false → (a ≡ false) × (b ≡ false)
or_false true b e = absurd (not_both refl e)
or_false false b e = (refl, e)

pub or_cases : (a b : Bool) → (a || b) ≡ true → (a ≡ true) ⊎ (b ≡ true)
or_cases true b e = inl refl
or_cases false b e = inr e

pub or_right : (a b : Bool) → b ≡ true → (a || b) ≡ true
or_right true b e = refl
or_right false b e = e

-- two numbers, one below the other or not
pub lt_or_ge : (m n : ℕ) → (m < n) ⊎ (n ≤ m)
lt_or_ge m n = ⊎_elim (λ e. inl (ltb-true m n e)) (λ e. inr (ltb-false m n e)) (bool_cases (ltb m n))

-- what a search from i up to n finds
pub record Found (test : ℕ → Bool) (i n at : ℕ) : Type 0 where
  pub from : i ≤ at
  pub within : at ≤ n
  pub before : (j : ℕ) → i ≤ j → j < at → test j ≡ false
  pub holds : at < n → test at ≡ true

-- only one index is found
pub found_unique : (test : ℕ → Bool) (i n a b : ℕ) → Found test i n a → Found test i n b → a ≡ b
found_unique test i n a b p q = ⊎_elim low (λ h. ⊎_elim high (λ k. omega arith) (lt_or_ge b a)) (lt_or_ge a b)
  where
    low : a < b → a ≡ b
    low h = absurd (not_both (p.holds (omega (arith, q.within))) (q.before a p.from h))

    high : b < a → a ≡ b
    high h = absurd (not_both (q.holds (omega (arith, p.within))) (p.before b q.from h))

pub first_from_found : (test : ℕ → Bool) (i k : ℕ) → Found test i (i + k) (first_from test i k)
unfolding first_from
first_from_found test i zero =
    record {
      from = omega arith;
      within = omega arith;
      before = λ j l h. absurd (omega arith);
      holds = λ h. absurd (omega arith);
    }
first_from_found test i (suc k) = ⊎_elim hit (miss (first_from_found test (suc i) k)) (bool_cases (test i))
  where
    hit : test i ≡ true → Found test i (i + suc k) (first_from test i (suc k))
    hit e =
        rw (e, first_from)
        (record {
          from = omega arith;
          within = omega arith;
          before = λ j l h. absurd (omega arith);
          holds = λ h. e;
        })

    miss : Found test (suc i) (suc i + k) (first_from test (suc i) k) → test i ≡ false → Found test i (i + suc k) (first_from test i (suc k))
    miss r e =
        rw (e, first_from)
        (record {
          from = omega (arith, r.from);
          within = omega (arith, r.within);
          before =
              λ j l h.
              ⊎_elim (λ (s : i < j). r.before j s h) (λ (s : j ≤ i). subst (λ (n : ℕ). test n ≡ false) (omega arith) e)
              (lt_or_ge i j);
          holds = λ h. r.holds (omega arith);
        })

-- the first index below n at which a test holds, or n
pub first_found : (test : ℕ → Bool) (n : ℕ) → Found test 0 n (first test n)
unfolding first
first_found test n = subst (λ (e : ℕ). Found test 0 e (first_from test 0 n)) (zero-add n) (first_from_found test 0 n)

pub first_within : (test : ℕ → Bool) (n : ℕ) → first test n ≤ n
first_within test n = (first_found test n).within

pub first_before : (test : ℕ → Bool) (n j : ℕ) → j < first test n → test j ≡ false
first_before test n j h = (first_found test n).before j (omega arith) h

pub first_holds : (test : ℕ → Bool) (n : ℕ) → first test n < n → test (first test n) ≡ true
first_holds test n h = (first_found test n).holds h

-- an index before which the test fails, and at which it holds unless it is the end, is the first
pub first_unique : (test : ℕ → Bool) (n at : ℕ) → at ≤ n → ((j : ℕ) → j < at → test j ≡ false) → (at < n → test at ≡ true) → first test n ≡ at
first_unique test n at w b h =
    found_unique test 0 n (first test n) at (first_found test n)
    (record { from = omega arith; within = w; before = λ j l k. b j k; holds = h })

-- no index passes: the first is the end
pub first_none : (test : ℕ → Bool) (n : ℕ) → ((j : ℕ) → j < n → test j ≡ false) → first test n ≡ n
first_none test n b = first_unique test n n (omega arith) b (λ h. absurd (omega arith))

-- tests that agree below n have the same first index
pub first_cong : (test other : ℕ → Bool) (n : ℕ) → ((j : ℕ) → j < n → test j ≡ other j) → first test n ≡ first other n
first_cong test other n e =
    first_unique test n (first other n) (first_within other n)
    (λ j h. e j (omega (arith, first_within other n)) ∙ first_before other n j h)
    (λ h. e (first other n) h ∙ first_holds other n h)

-- some index passes: which, and none
pub some_true : (test : ℕ → Bool) (n : ℕ) → some test n ≡ true → (first test n < n) × (test (first test n) ≡ true)
unfolding some
some_true test n e =
    let h : first test n < n = ltb-true (first test n) n e in
    (h, first_holds test n h)

pub some_false : (test : ℕ → Bool) (n : ℕ) → some test n ≡ false → (j : ℕ) → j < n → test j ≡ false
unfolding some
some_false test n e j h = first_before test n j (omega (arith, ltb-false (first test n) n e))

pub some_intro : (test : ℕ → Bool) (n j : ℕ) → j < n → test j ≡ true → some test n ≡ true
unfolding some
some_intro test n j h e =
    ⊎_elim (λ (l : first test n < n). lt-ltb (first test n) n l)
    (λ (g : n ≤ first test n). absurd (not_both e (first_before test n j (omega arith))))
    (lt_or_ge (first test n) n)

pub some_none : (test : ℕ → Bool) (n : ℕ) → ((j : ℕ) → j < n → test j ≡ false) → some test n ≡ false
unfolding some
some_none test n b = le-ltb (first test n) n (omega (arith, first_none test n b))

pub some_cong : (test other : ℕ → Bool) (n : ℕ) → ((j : ℕ) → j < n → test j ≡ other j) → some test n ≡ some other n
unfolding some
some_cong test other n e = ap (λ (k : ℕ). ltb k n) (first_cong test other n e)
