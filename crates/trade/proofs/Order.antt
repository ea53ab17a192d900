-- The flows that go, by their places in the list: what stands at a place is among them, they stand in record order, and none stands
-- twice; a flow that goes was held back by none above it. Leans on Slot. Assumes nothing.
use Prim.Native.Nat.{ℕ, zero, suc, ◌+◌, ◌≤◌, ◌<◌}
use mathlib.Core.Path.{◌≡◌, refl, sym, ◌∙◌, ap}
use mathlib.Core.Bool.{Bool, true, false, not, ◌&&◌}
use mathlib.Core.Logic.{◌⊎◌, inl, inr, ⊎_elim}
use mathlib.Core.List.{List, [], ◌∷◌, map}
use native.Mathlib.Omega.{arith}
use lib.Dec.{eqb}
use lib.ListN.{length, get_or, length-append, get_or-append}
use lib.Seq.{get_or_at}
use borrow.Author.Tests.{eqb-true, eqb-false, eq-eqb, not-true}
use Rattle.trade.specs.Conflict.{conflict, conflicts_with}
use Rattle.trade.specs.Slot.{Rule, going, among}
use Rattle.trade.specs.declared.node.Transmission.{Transmission}
use Rattle.trade.proofs.First.{bool_cases, not_both, and_true, or_false, or_cases, or_right, lt_or_ge}
use Rattle.trade.proofs.SlotLaws.{going_goes, going_stays, going_other, going_below}

-- what stands at a place is among them
pub among_at : (is : List ℕ) (a : ℕ) → a < length is → among is (get_or is a 0) ≡ true
unfolding among
among_at [] a a< = absurd (omega arith)
among_at (h ∷ is) zero a< = rw (eq-eqb h h refl)
among_at (h ∷ is) (suc a) a< = or_right (eqb h (get_or is a 0)) (among is (get_or is a 0)) (among_at is a (omega arith))

-- what is among them stands at a place
pub place_of : (is : List ℕ) (i : ℕ) → among is i ≡ true → (a : ℕ) × (a < length is) × (get_or is a 0 ≡ i)
unfolding among
place_of [] i m = absurd (not_both m refl)
place_of (h ∷ is) i m =
    ⊎_elim (λ (e : eqb h i ≡ true). (0, omega arith, eqb-true h i e))
    (λ (later : among is i ≡ true). let (a, a<, e) = place_of is i later in (suc a, omega arith, e))
    (or_cases (eqb h i) (among is i) m)

-- a transmission that conflicts with none of these flows' conflicts not with that of any one
pub conflicts_none :
    (disturbs : ℕ → ℕ → Bool) (next : ℕ → Transmission) (t : Transmission) (is : List ℕ) (h : ℕ)
    → conflicts_with disturbs (map next is) t ≡ false
    → among is h ≡ true
    → conflict disturbs (next h) t ≡ false
unfolding conflicts_with among
conflicts_none disturbs next t [] h e m = absurd (not_both m refl)
conflicts_none disturbs next t (i ∷ is) h e m =
    let (this, others) = or_false (conflict disturbs (next i) t) (conflicts_with disturbs (map next is) t) e in
    ⊎_elim (λ (q : eqb i h ≡ true). rw (eqb-true i h q) at this) (λ (later : among is h ≡ true). conflicts_none disturbs next t is h others later)
    (or_cases (eqb i h) (among is h) m)

-- a rule of waiting, and which flows are unfinished
module _ (waits : Rule) (work : ℕ → Bool) where
  -- a flow that goes is not held back by those above it
  pub going_held : (k i : ℕ) → among (going waits work k) i ≡ true → waits (going waits work i) i ≡ false
  unfolding going among
  going_held zero i m = absurd (not_both m refl)
  going_held (suc k) i m =
      step (λ q. going_held k i q) (bool_cases (work k && not (waits (going waits work k) k))) (bool_cases (eqb k i))
    where
      step :
          (among (going waits work k) i ≡ true → waits (going waits work i) i ≡ false)
          → ((work k && not (waits (going waits work k) k)) ≡ true) ⊎ ((work k && not (waits (going waits work k) k)) ≡ false)
          → (eqb k i ≡ true) ⊎ (eqb k i ≡ false)
          → waits (going waits work i) i ≡ false
      step before (inl d) (inl q) =
          let e : k ≡ i = eqb-true k i q in
          rw (← e) (not-true (waits (going waits work k) k) (and_true (work k) (not (waits (going waits work k) k)) d).1)
      step before (inr d) (inl q) = before (sym (ap (λ (hs : List ℕ). among hs i) (going_stays waits work k d)) ∙ m)
      step before d (inr q) = before (sym (going_other waits work k i (eqb-false k i q)) ∙ m)

  -- they go in record order, so none twice
  pub going_rising :
      (k a b : ℕ) → a < b → b < length (going waits work k) → get_or (going waits work k) a 0 < get_or (going waits work k) b 0
  unfolding going
  going_rising zero a b a< b< = absurd (omega arith)
  going_rising (suc k) a b a< b< = step (λ c. going_rising k a b a< c) (bool_cases (work k && not (waits (going waits work k) k)))
    where
      step :
          (b < length (going waits work k) → get_or (going waits work k) a 0 < get_or (going waits work k) b 0)
          → ((work k && not (waits (going waits work k) k)) ≡ true) ⊎ ((work k && not (waits (going waits work k) k)) ≡ false)
          → get_or (going waits work (suc k)) a 0 < get_or (going waits work (suc k)) b 0
      step before (inl d) =
          let is : List ℕ = going waits work k in
          let b≤ : b < length is + 1 = rw (going_goes waits work k d, length-append) at b< in
          rw (going_goes waits work k d, get_or-append is (k ∷ []) 0 a (omega arith))
          (⊎_elim (λ (inner : b < length is). rw (get_or-append is (k ∷ []) 0 b inner) (before inner))
          (λ (last : length is ≤ b).
          rw (get_or_at is k [] 0 b (omega arith)) (going_below waits work k (get_or is a 0) (among_at is a (omega arith))).0)
          (lt_or_ge b (length is)))
      step before (inr d) = rw (going_stays waits work k d) (before (rw (going_stays waits work k d) at b<))

  pub going_once :
      (k a b : ℕ)
      → a < length (going waits work k)
      → b < length (going waits work k)
      → get_or (going waits work k) a 0 ≡ get_or (going waits work k) b 0
      → a ≡ b
  going_once k a b a< b< e =
      ⊎_elim (λ (below : a < b). absurd (omega (arith, going_rising k a b below b<)))
      (λ (h : b ≤ a).
      ⊎_elim (λ (above : b < a). absurd (omega (arith, going_rising k b a above a<))) (λ (g : a ≤ b). omega arith) (lt_or_ge b a))
      (lt_or_ge a b)
