-- Laws of releases that come in order: a flow that was released has begun, and two slots with one number have no release between
-- them. Assumes nothing.
use Prim.Native.Nat.{ℕ, zero, suc, ◌+◌, ◌≤◌, ◌<◌}
use mathlib.Core.Path.{◌≡◌, ◌∙◌}
use mathlib.Core.Bool.{true, false}
use native.Mathlib.Omega.{arith}
use native.Mathlib.Nat.{add-zero, add-suc}
use Rattle.trade.specs.Slot.{Releases}
use Rattle.trade.proofs.First.{or_right}
use Rattle.response.specs.Promise.{InOrder}
use Rattle.response.proofs.Cases.{by_test, by_order}

module _ (releases : ℕ → Releases) (l : ℕ) (order : InOrder releases l) where
  -- a flow that has begun stays so
  begun_on : (t u : ℕ) → t ≤ u → (releases t).begun l ≡ true → (releases u).begun l ≡ true
  begun_on t zero t≤ e = let is : t ≡ 0 = omega arith in rw is at e
  begun_on t (suc u) t≤ e =
      by_order t u (λ before. order.begins u ∙ rw (begun_on t u before e)) (λ last. let is : t ≡ suc u = omega arith in rw is at e)

  -- and it has begun once it was released
  pub released_begun : (q t : ℕ) → q < t → (releases q).due l ≡ true → (releases t).begun l ≡ true
  released_begun q t q< e =
      begun_on (suc q) t q< (order.begins q ∙ or_right ((releases q).begun l) ((releases q).due l) e)

  -- without a release the number stays
  pub number_stays :
      (q n : ℕ) → ((u : ℕ) → q < u → u ≤ q + n → (releases u).due l ≡ false) → (releases (q + n)).instance l ≡ (releases q).instance l
  number_stays q zero quiet = rw (add-zero q)
  number_stays q (suc n) quiet =
      rw (add-suc q n)
      (order.stays (q + n) (quiet (suc (q + n)) (omega arith) (omega arith)) ∙ number_stays q n (λ u u> u≤. quiet u u> (omega arith)))

  -- once a flow has begun the number never falls,
  number_grows : (t u : ℕ) → t ≤ u → (releases (suc t)).begun l ≡ true → (releases t).instance l ≤ (releases u).instance l
  number_grows t zero t≤ begun = let is : t ≡ 0 = omega arith in rw is (omega arith)
  number_grows t (suc u) t≤ begun =
      by_order t u
      (λ before.
      by_test ((releases (suc u)).due l)
      (λ e. omega (arith, number_grows t u before begun, order.rises u e (begun_on (suc t) (suc u) (omega arith) begun)))
      (λ e. omega (arith, number_grows t u before begun, order.stays u e)))
      (λ last. let is : t ≡ suc u = omega arith in rw is (omega arith))

  -- and it rises at a release
  number_rises :
      (t x u : ℕ)
      → t ≤ x
      → suc x ≤ u
      → (releases (suc t)).begun l ≡ true
      → (releases (suc x)).due l ≡ true
      → (releases t).instance l < (releases u).instance l
  number_rises t x u t≤ x< begun e =
      omega (
        arith,
        number_grows t x t≤ begun,
        order.rises x e (begun_on (suc t) (suc x) (omega arith) begun),
        number_grows (suc x) u x< (begun_on (suc t) (suc (suc x)) (omega arith) begun),
      )

  -- so slots of one number have no release between them
  pub same_number_quiet :
      (t u : ℕ)
      → (releases (suc t)).begun l ≡ true
      → (releases t).instance l ≡ (releases u).instance l
      → (x : ℕ)
      → t < x
      → x ≤ u
      → (releases x).due l ≡ false
  same_number_quiet t u begun same zero x> x≤ = absurd (omega arith)
  same_number_quiet t u begun same (suc x) x> x≤ =
      by_test ((releases (suc x)).due l) (λ e. absurd (omega (arith, number_rises t x u (omega arith) x≤ begun e))) (λ e. e)
