-- What code 5 tests of one row, said of the row as a number of 64 bits. Leans on the bits of masks. Assumes nothing.
use Prim.Native.Nat.{ℕ, zero, suc, ◌+◌, ◌-◌, ◌*◌, ◌/◌, ◌%◌, ◌^◌, ◌≤◌, ◌<◌}
use mathlib.Core.Path.{◌≡◌, refl, sym, ◌∙◌, ap}
use mathlib.Core.Bool.{Bool, true, false, not, ◌&&◌, ◌||◌, and-false}
use mathlib.Core.Logic.{◌⊎◌, inl, inr}
use mathlib.Core.List.{List, []}
use native.Mathlib.Omega.{arith}
use native.Mathlib.Nat.{div-lt_iff_lt-mul, pow-suc}
use lib.Dec.{eqb, leb}
use lib.Pow.{shr_lt, shr-shr}
use borrow.Author.Tests.{eqb-true, eqb-false, eq-eqb, le-leb, lt-leb}
use Rattle.trade.specs.Limits.{most_nodes}
use Rattle.trade.specs.First.{some}
use Rattle.trade.specs.Bytes.{byte, bit}
use Rattle.trade.specs.Facts.{facts_of, facts_in, disturbs_in}
use Rattle.trade.specs.Codes.{bad_row}
use Rattle.trade.proofs.First.{bool_cases, or_right, lt_or_ge, some_cong, some_intro, some_none}
use Rattle.nodes.specs.Mask.{row_mask}
use Rattle.nodes.proofs.MaskLaws.{bit_zero, bit_suc, bit_none, bit_row}

-- a number that is not 0 has a bit
pub has_bit : (k a : ℕ) → a < 2 ^ k → (a ≡ 0 → ⊥) → (y : ℕ) × (y < k) × (bit a y ≡ true)
has_bit zero a h n = absurd (n (omega arith))
has_bit (suc k) a h n = step (λ l m. has_bit k (a / 2) l m) (lt_or_ge (a % 2) 1)
  where
    step :
        (a / 2 < 2 ^ k → (a / 2 ≡ 0 → ⊥) → (y : ℕ) × (y < k) × (bit (a / 2) y ≡ true))
        → (a % 2 < 1) ⊎ (1 ≤ a % 2)
        → (y : ℕ) × (y < suc k) × (bit a y ≡ true)
    step rest (inl e) =
        let p : a < 2 ^ k * 2 = rw (← pow-suc 2 k) h in
        let r = rest ((div-lt_iff_lt-mul (omega arith)).1 p) (λ z. n (omega arith)) in
        (suc r.0, omega (arith, r.1), bit_suc a r.0 ∙ r.2)
    step rest (inr e) =
        let o : a % 2 ≡ 1 = omega arith in
        (0, omega arith, bit_zero a ∙ eq-eqb (a % 2) 1 o)

-- a bit above a shift is a bit of what is shifted
bit_shifted : (a n y : ℕ) → bit (a / 2 ^ n) y ≡ bit a (n + y)
unfolding bit
bit_shifted a n y = rw (shr-shr a n y)

-- of a set of 64 nodes: its own node x, or one at or above n
pub own_or_above :
    (set n x : ℕ)
    → set < 2 ^ 64
    → x < n
    → n ≤ 64
    → some (λ y. bit set y && (eqb y x || leb n y)) 64 ≡ (bit set x || not (eqb (set / 2 ^ n) 0))
own_or_above set n x fits l u = cases (bool_cases (bit set x)) (bool_cases (eqb (set / 2 ^ n) 0))
  where
    both : {a b : Bool} → a ≡ true → b ≡ true → (a && b) ≡ true
    both p q = rw (p, q)

    none : bit set x ≡ false → set / 2 ^ n ≡ 0 → (y : ℕ) → y < 64 → (bit set y && (eqb y x || leb n y)) ≡ false
    none p z y h = outside (bool_cases (eqb y x)) (lt_or_ge y n)
      where
        outside : (eqb y x ≡ true) ⊎ (eqb y x ≡ false) → (y < n) ⊎ (n ≤ y) → (bit set y && (eqb y x || leb n y)) ≡ false
        outside (inl e) b = let s : y ≡ x = eqb-true y x e in rw (s, p)
        outside (inr e) (inl b) = rw (e, lt-leb n y b) (and-false (bit set y))
        outside (inr e) (inr b) =
            let s : y ≡ n + (y - n) = omega arith in
            let f : bit set y ≡ false = ap (bit set) s ∙ sym (bit_shifted set n (y - n)) ∙ ap (λ (v : ℕ). bit v (y - n)) z ∙ bit_none (y - n) in
            rw f

    cases :
        (bit set x ≡ true) ⊎ (bit set x ≡ false)
        → (eqb (set / 2 ^ n) 0 ≡ true) ⊎ (eqb (set / 2 ^ n) 0 ≡ false)
        → some (λ y. bit set y && (eqb y x || leb n y)) 64 ≡ (bit set x || not (eqb (set / 2 ^ n) 0))
    cases (inl p) q = rw p (some_intro (λ y. bit set y && (eqb y x || leb n y)) 64 x (omega arith) (rw (p, eq-eqb x x refl)))
    cases (inr p) (inl q) = rw (p, q) (some_none (λ y. bit set y && (eqb y x || leb n y)) 64 (none p (eqb-true _ _ q)))
    cases (inr p) (inr q) =
        let e : 64 - n + n ≡ 64 = omega arith in
        let small : set / 2 ^ n < 2 ^ (64 - n) = shr_lt (64 - n) n (rw e fits) in
        let r = has_bit (64 - n) (set / 2 ^ n) small (eqb-false _ _ q) in
        rw (p, q)
        (some_intro (λ y. bit set y && (eqb y x || leb n y)) 64 (n + r.0) (omega (arith, r.1))
        (both (sym (bit_shifted set n r.0) ∙ r.2) (or_right (eqb (n + r.0) x) (leb n (n + r.0)) (le-leb n (n + r.0) (omega arith)))))

-- the tests of a row of bytes
pub bad_row_lem :
    (n : ℕ) (rows : List ℕ) (x : ℕ)
    → ((i : ℕ) → byte rows i < 2 ^ 8)
    → row_mask rows x < 2 ^ 64
    → x < n
    → n ≤ most_nodes
    → (bit (row_mask rows x) x || not (eqb (row_mask rows x / 2 ^ n) 0)) ≡ bad_row (facts_in n 0 rows [] []) x
unfolding bad_row facts_of
bad_row_lem n rows x bytes fits l u =
    sym
    (some_cong (λ (y : ℕ). disturbs_in rows x y && (eqb y x || leb n y)) (λ (y : ℕ). bit (row_mask rows x) y && (eqb y x || leb n y)) 64
    (λ y h. ap (λ (b : Bool). b && (eqb y x || leb n y)) (sym (bit_row rows bytes x y h)))
    ∙ own_or_above (row_mask rows x) n x fits l u)
