-- The lowest bit of a number: found, and cleared. Leans on MaskLaws and lib.Count. Assumes nothing.
use Prim.Native.Nat.{ℕ, zero, suc, ◌-◌, ◌*◌, ◌/◌, ◌%◌, ◌^◌, ◌<◌}
use mathlib.Core.Path.{◌≡◌, sym, ◌∙◌}
use mathlib.Core.Bool.{true, false, not, ◌&&◌, and-false, and-true}
use mathlib.Core.Logic.{◌⊎◌, inl, inr}
use native.Mathlib.Omega.{arith}
use native.Mathlib.Nat.{pow-suc, mul-mod_left, mul-div_cancel, add-zero, zero-min}
use lib.Dec.{eqb, eqb-zero-suc, eqb-suc-suc}
use lib.Arith.{lt-one}
use lib.Bits.{bit_and, and_step, and_self}
use lib.Count.{count_trailing_zeros, under}
use Rattle.trade.specs.Bytes.{bit}
use Rattle.nodes.proofs.MaskLaws.{bit_zero, bit_suc, last_cases}

-- a number without its lowest bit, by its halves
without_odd : (n : ℕ) → n % 2 ≡ 1 → bit_and n (n - 1) ≡ n / 2 * 2
without_odd n e =
    let h : (n - 1) / 2 ≡ n / 2 = omega arith in
    let m : (n - 1) % 2 ≡ 0 = omega arith in
    rw (and_step n (n - 1), h, m, e, and_self (n / 2)) (add-zero (n / 2 * 2))

without_even : (n : ℕ) → n % 2 ≡ 0 → bit_and n (n - 1) ≡ bit_and (n / 2) (n / 2 - 1) * 2
without_even n e =
    let h : (n - 1) / 2 ≡ n / 2 - 1 = omega arith in
    rw (and_step n (n - 1), h, e, zero-min) (add-zero (bit_and (n / 2) (n / 2 - 1) * 2))

twice_half : (n : ℕ) → n * 2 / 2 ≡ n
twice_half n = mul-div_cancel n {n = 2} (omega arith)

-- the lowest bit of a number: it is set, none is below it, and a number without it has all the others
pub record Lowest (n p : ℕ) : Type 0 where
  pub set : bit n p ≡ true
  pub below : (y : ℕ) → y < p → bit n y ≡ false
  pub cleared : (y : ℕ) → bit (bit_and n (n - 1)) y ≡ (bit n y && not (eqb p y))

lowest_odd : (n : ℕ) → n % 2 ≡ 1 → Lowest n 0
lowest_odd n e =
    record {
      set = rw (bit_zero n, e);
      below = λ y h. absurd (omega arith);
      cleared = cleared;
    }
  where
    cleared : (y : ℕ) → bit (bit_and n (n - 1)) y ≡ (bit n y && not (eqb 0 y))
    cleared zero = rw (without_odd n e, bit_zero (n / 2 * 2), mul-mod_left (n / 2) 2) (sym (and-false (bit n 0)))
    cleared (suc y) =
        rw (without_odd n e, bit_suc (n / 2 * 2) y, twice_half (n / 2), bit_suc n y, eqb-zero-suc y) (sym (and-true (bit (n / 2) y)))

lowest_even : (n p : ℕ) → n % 2 ≡ 0 → Lowest (n / 2) p → Lowest n (suc p)
lowest_even n p e l =
    record {
      set = bit_suc n p ∙ l.set;
      below = below;
      cleared = cleared;
    }
  where
    below : (y : ℕ) → y < suc p → bit n y ≡ false
    below zero h = rw (bit_zero n, e)
    below (suc y) h = bit_suc n y ∙ l.below y (omega arith)

    cleared : (y : ℕ) → bit (bit_and n (n - 1)) y ≡ (bit n y && not (eqb (suc p) y))
    cleared zero = rw (without_even n e, bit_zero (bit_and (n / 2) (n / 2 - 1) * 2), mul-mod_left (bit_and (n / 2) (n / 2 - 1)) 2, bit_zero n, e)
    cleared (suc y) =
        rw (without_even n e, bit_suc (bit_and (n / 2) (n / 2 - 1) * 2) y, twice_half (bit_and (n / 2) (n / 2 - 1)), bit_suc n y, eqb-suc-suc)
        (l.cleared y)

-- it is as high as there are zeros below it
pub trailing_lowest : (k n : ℕ) → zero < n → n < 2 ^ k → (count_trailing_zeros k n < k) × Lowest n (count_trailing_zeros k n)
unfolding count_trailing_zeros
trailing_lowest zero n p h = absurd (let e : n ≡ 0 = lt-one h in omega arith)
trailing_lowest (suc k) n p h = cases (trailing_lowest k (n / 2)) (last_cases n)
  where
    cases :
        (zero < n / 2 → n / 2 < 2 ^ k → (count_trailing_zeros k (n / 2) < k) × Lowest (n / 2) (count_trailing_zeros k (n / 2)))
        → (n % 2 ≡ 0) ⊎ (n % 2 ≡ 1)
        → (under (n % 2) (count_trailing_zeros k (n / 2)) < suc k) × Lowest n (under (n % 2) (count_trailing_zeros k (n / 2)))
    cases rest (inl e) =
        let r = rest (omega arith) (omega (arith, pow-suc 2 k)) in
        rw e (omega (arith, r.0), lowest_even n (count_trailing_zeros k (n / 2)) e r.1)
    cases rest (inr e) = rw e (omega arith, lowest_odd n e)
