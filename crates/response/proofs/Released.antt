-- Laws of `released` and `instance_at`: instance v is released at the first release + v × P, and nowhere else; so the periodic releases
-- are a period apart and come in order. Assumes nothing.
use Prim.Native.Nat.{ℕ, suc, ◌+◌, ◌-◌, ◌%◌, ◌≤◌, ◌<◌}
use mathlib.Core.Path.{◌≡◌, sym}
use mathlib.Core.Bool.{true, false, ◌||◌}
use native.Mathlib.Omega.{arith}
use native.Mathlib.Nat.{div-add-mod', mod-lt, mul-mod_left, div-eq_of_lt-le, add-sub_cancel_left, suc-mul, lt_of_mul-lt-mul_right, mul-le-mul_right, add-mul, one-mul}
use lib.Dec.{leb, ltb, eqb}
use borrow.Author.Tests.{leb-true, ltb-true, eqb-true, le-leb, lt-ltb, le-ltb}
use Rattle.trade.specs.Facts.{Facts}
use Rattle.trade.specs.Slot.{released, instance_at, periodic}
use Rattle.trade.proofs.First.{not_both, and_true}
use Rattle.response.specs.Counting.{Apart}
use Rattle.response.specs.Promise.{InOrder, release_at}
use Rattle.response.proofs.Cases.{by_test, by_order}

module _ (f : Facts) (firsts : ℕ → ℕ) (l : ℕ) where
  -- no release before the first
  pub released_late : (t : ℕ) → released f firsts t l ≡ true → firsts l ≤ t
  unfolding released
  released_late t e = leb-true (firsts l) t (and_true (leb (firsts l) t) (eqb ((t - firsts l) % f.period l) 0) e).0

  -- a slot with a release is that of its instance
  pub released_slot : (t : ℕ) → released f firsts t l ≡ true → t ≡ release_at f firsts l (instance_at f firsts t l)
  unfolding released instance_at
  released_slot t e =
      omega (
        arith,
        released_late t e,
        div-add-mod' (t - firsts l) (f.period l),
        eqb-true ((t - firsts l) % f.period l) 0 (and_true (leb (firsts l) t) (eqb ((t - firsts l) % f.period l) 0) e).1,
      )

  -- instance v is released
  pub release_comes : (v : ℕ) → released f firsts (release_at f firsts l v) l ≡ true
  unfolding released
  release_comes v =
      rw (le-leb (firsts l) (release_at f firsts l v) (omega arith), add-sub_cancel_left, mul-mod_left)

  -- releases are a period apart
  pub released_apart : Apart (λ t. released f firsts t l) (f.period l)
  released_apart q t eq et q< =
      let a : ℕ = instance_at f firsts q l in
      let b : ℕ = instance_at f firsts t l in
      let q≡ : q ≡ release_at f firsts l a = released_slot q eq in
      let t≡ : t ≡ release_at f firsts l b = released_slot t et in
      let a< : a < b = lt_of_mul-lt-mul_right (f.period l) (omega arith) in
      omega (arith, suc-mul a (f.period l), mul-le-mul_right (f.period l) a<)

  -- the instance of a slot is released
  pub instance_released : (t : ℕ) → firsts l ≤ t → release_at f firsts l (instance_at f firsts t l) ≤ t
  unfolding instance_at
  instance_released t h = omega (arith, div-add-mod' (t - firsts l) (f.period l))

  module _ (positive : 1 ≤ f.period l) where
    -- and the next is still to come
    pub instance_latest : (t : ℕ) → t < release_at f firsts l (instance_at f firsts t l) + f.period l
    unfolding instance_at
    instance_latest t = omega (arith, div-add-mod' (t - firsts l) (f.period l), mod-lt (t - firsts l) positive)

    -- from one release until the next the instance is the same
    pub instance_within :
        (v t : ℕ) → release_at f firsts l v ≤ t → t < release_at f firsts l v + f.period l → instance_at f firsts t l ≡ v
    unfolding instance_at
    instance_within v t low high =
        div-eq_of_lt-le (f.period l) (omega arith) (rw (add-mul, one-mul) (omega arith))

    -- so they come in order
    periodic_begins : (t : ℕ) → ltb (firsts l) (suc t) ≡ (ltb (firsts l) t || released f firsts t l)
    periodic_begins t =
        by_order (firsts l) t
        (λ early.
        rw (lt-ltb (firsts l) (suc t) (omega arith))
        (by_order t (firsts l)
        (λ now.
        let is : t ≡ release_at f firsts l 0 = omega arith in
        rw (le-ltb (firsts l) t now, is, release_comes 0))
        (λ past. rw (lt-ltb (firsts l) t past))))
        (λ late.
        rw (le-ltb (firsts l) (suc t) (omega arith), le-ltb (firsts l) t (omega arith))
        (by_test (released f firsts t l) (λ e. absurd (omega (arith, released_late t e))) sym))

    periodic_stays : (t : ℕ) → released f firsts (suc t) l ≡ false → instance_at f firsts (suc t) l ≡ instance_at f firsts t l
    unfolding instance_at
    periodic_stays t quiet =
        by_order (firsts l) t
        (λ early.
        let v : ℕ = instance_at f firsts t l in
        by_order (release_at f firsts l (suc v)) (suc t)
        (λ next.
        let is : suc t ≡ release_at f firsts l (suc v) = omega (arith, instance_latest t, suc-mul v (f.period l)) in
        absurd (not_both (rw is (release_comes (suc v))) quiet))
        (λ soon. instance_within v (suc t) (omega (arith, instance_released t early)) (omega (arith, suc-mul v (f.period l)))))
        (λ late. let is : suc t - firsts l ≡ t - firsts l = omega arith in rw is)

    pub periodic_in_order : InOrder (periodic f firsts) l
    periodic_in_order =
        record {
          begins = periodic_begins;
          stays = periodic_stays;
          rises =
              λ t e begun.
              lt_of_mul-lt-mul_right (f.period l)
              (omega (arith, released_slot (suc t) e, instance_released t (omega (arith, ltb-true (firsts l) (suc t) begun))));
        }
