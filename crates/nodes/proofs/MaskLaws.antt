-- Bits of masks: of a union, of a common part, of one node, of a row and its bytes, and the lowest bit of a set. Leans on lib.Bits. Assumes nothing.
use Prim.Native.Nat.{ℕ, zero, suc, ◌+◌, ◌-◌, ◌*◌, ◌/◌, ◌%◌, ◌^◌, ◌≤◌, ◌<◌}
use mathlib.Core.Path.{◌≡◌, refl, sym, ◌∙◌, ap, ap₂}
use mathlib.Core.Bool.{Bool, true, false, not, cond, ◌&&◌, ◌||◌}
use mathlib.Core.Logic.{◌⊎◌, inl, inr, ⊎_elim}
use mathlib.Core.List.{List, []}
use native.Mathlib.Omega.{arith}
use native.Mathlib.Nat.{div-one, zero-div, pow-suc, mod-lt, mul-mod_left, mul-div_cancel, add-zero, zero-add, zero-mul, one-mul, mod-eq_of_lt}
use native.Mathlib.Numerals.{one-add}
use lib.ListN.{get_or, drop}
use lib.Seq.{get_or-take, get_or-drop}
use lib.Dec.{eqb, eqb-zero-suc, eqb-suc-zero, eqb-suc-suc}
use lib.Bits.{bit_or, bit_and, bit_xor, or_shr, or_mod, and_shr, and_mod, xor_shr, xor_mod, and_block, and_mask, and_zero_r, or_add_and, and_le_r, block_half, block_odd}
use lib.Pow.{pow_pos, pow-lt, shr-shr, split, high}
use lib.Arith.{bin_ind}
use borrow.Author.Tests.{ne_eqb}
use Rattle.std.specs.Int.{w64, from_le_bytes}
use Rattle.std.specs.Simd.{first_chunks}
use Rattle.trade.specs.Limits.{row_bytes, most_nodes}
use Rattle.trade.specs.Bytes.{byte, bit}
use Rattle.trade.specs.Facts.{disturbs_in}
use Rattle.trade.specs.Interference.{one}
use Rattle.trade.proofs.First.{lt_or_ge}
use Rattle.nodes.specs.Mask.{only, meets, low_first, row_mask}

-- the lowest bit, and the others
pub bit_zero : (n : ℕ) → bit n 0 ≡ eqb (n % 2) 1
unfolding bit
bit_zero n = rw div-one

pub bit_suc : (n y : ℕ) → bit n (suc y) ≡ bit (n / 2) y
unfolding bit
bit_suc n y = rw (shr-shr n 1 y, one-add)

pub bit_none : (y : ℕ) → bit 0 y ≡ false
unfolding bit
bit_none y = rw zero-div

-- a number's last bit is 0 or 1
pub last_cases : (n : ℕ) → (n % 2 ≡ 0) ⊎ (n % 2 ≡ 1)
last_cases n = ⊎_elim (λ (h : n % 2 < 1). inl (omega arith)) (λ (h : 1 ≤ n % 2). inr (omega (arith, mod-lt n {m = 2} (omega arith)))) (lt_or_ge (n % 2) 1)

last_one : (n : ℕ) → n % 2 ≡ one (eqb (n % 2) 1)
unfolding one
last_one n = cases (last_cases n)
  where
    cases : (n % 2 ≡ 0) ⊎ (n % 2 ≡ 1) → n % 2 ≡ one (eqb (n % 2) 1)
    cases (inl e) = rw e
    cases (inr e) = rw e

-- an operation on sets that goes by halves, and on last bits as a test does, goes by that test at every node
module _ (op : ℕ → ℕ → ℕ) (test : Bool → Bool → Bool)
    (shr : (a b k : ℕ) → op a b / 2 ^ k ≡ op (a / 2 ^ k) (b / 2 ^ k))
    (rem : (a b k : ℕ) → op a b % 2 ^ k ≡ op (a % 2 ^ k) (b % 2 ^ k))
    (last : (p q : Bool) → eqb (op (one p) (one q)) 1 ≡ test p q) where
  bit_by : (a b y : ℕ) → bit (op a b) y ≡ test (bit a y) (bit b y)
  bit_by a b zero =
      rw (bit_zero (op a b), bit_zero a, bit_zero b)
      (ap (λ (n : ℕ). eqb n 1) (rem a b 1 ∙ ap₂ op (last_one a) (last_one b)) ∙ last (eqb (a % 2) 1) (eqb (b % 2) 1))
  bit_by a b (suc y) = rw (bit_suc (op a b) y, bit_suc a y, bit_suc b y, shr a b 1) (bit_by (a / 2) (b / 2) y)

-- a node is in a union if it is in either, in a common part if it is in both, and in a difference if it is in one of the two
pub bit_or_lem : (a b y : ℕ) → bit (bit_or a b) y ≡ (bit a y || bit b y)
unfolding one
bit_or_lem = bit_by bit_or ◌||◌ or_shr or_mod last
  where
    last : (p q : Bool) → eqb (bit_or (one p) (one q)) 1 ≡ (p || q)
    last true true = refl
    last true false = refl
    last false true = refl
    last false false = refl

pub bit_and_lem : (a b y : ℕ) → bit (bit_and a b) y ≡ (bit a y && bit b y)
unfolding one
bit_and_lem = bit_by bit_and ◌&&◌ and_shr and_mod last
  where
    last : (p q : Bool) → eqb (bit_and (one p) (one q)) 1 ≡ (p && q)
    last true true = refl
    last true false = refl
    last false true = refl
    last false false = refl

pub bit_xor_lem : (a b y : ℕ) → bit (bit_xor a b) y ≡ cond (bit a y) (not (bit b y)) (bit b y)
unfolding one
bit_xor_lem = bit_by bit_xor (λ p q. cond p (not q) q) xor_shr xor_mod last
  where
    last : (p q : Bool) → eqb (bit_xor (one p) (one q)) 1 ≡ cond p (not q) q
    last true true = refl
    last true false = refl
    last false true = refl
    last false false = refl

-- the set of one node has that node alone
pub bit_only : (x y : ℕ) → bit (only x) y ≡ eqb x y
bit_only zero zero = bit_zero 1
bit_only zero (suc y) = bit_suc 1 y ∙ bit_none y ∙ sym (eqb-zero-suc y)
bit_only (suc x) zero = bit_zero (2 ^ suc x) ∙ rw (pow-suc 2 x, mul-mod_left (2 ^ x) 2, eqb-suc-zero)
bit_only (suc x) (suc y) = bit_suc (2 ^ suc x) y ∙ rw (pow-suc 2 x, mul-div_cancel (2 ^ x) {n = 2} (omega arith), eqb-suc-suc) (bit_only x y)

-- the bits of a number and of one that stands above it
pub bit_below : (a r k y : ℕ) → y < k → bit (a * 2 ^ k + r) y ≡ bit r y
bit_below a r zero y h = absurd (omega arith)
bit_below a r (suc k) zero h = bit_zero (a * 2 ^ suc k + r) ∙ ap (λ (m : ℕ). eqb m 1) (block_odd a k r) ∙ sym (bit_zero r)
bit_below a r (suc k) (suc y) h =
    bit_suc (a * 2 ^ suc k + r) y
    ∙ ap (λ (m : ℕ). bit m y) (block_half a k r)
    ∙ bit_below a (r / 2) k y (omega arith)
    ∙ sym (bit_suc r y)

pub bit_above : (a r k y : ℕ) → r < 2 ^ k → bit (a * 2 ^ k + r) (k + y) ≡ bit a y
unfolding bit
bit_above a r k y h = rw (← shr-shr (a * 2 ^ k + r) k y, high a k h)

-- a set has no node at or above a place that its number is below
pub bit_past : (n k y : ℕ) → n < 2 ^ k → k ≤ y → bit n y ≡ false
bit_past n k y h l =
    let e : n ≡ 0 * 2 ^ k + n = omega arith in
    let d : k + (y - k) ≡ y = omega arith in
    ap₂ bit e (sym d) ∙ bit_above 0 n k (y - k) h ∙ bit_none (y - k)

-- one bit of so many, shifted to its place; of 64
pub one_bit_of : (bits p : ℕ) → p < bits → 1 * 2 ^ p % 2 ^ bits ≡ only p
one_bit_of bits p l = rw one-mul (mod-eq_of_lt (pow-lt {j = bits} l))

pub one_bit : (p : ℕ) → p < 64 → 1 * 2 ^ p % 2 ^ 64 ≡ only p
one_bit p l = one_bit_of 64 p l

-- bit y of a run of bytes is bit y mod 8 of byte y div 8
pub bit_low_first :
    (bytes : List ℕ)
    → ((i : ℕ) → byte bytes i < 2 ^ 8)
    → (k at y : ℕ)
    → y < 8 * k
    → bit (low_first bytes at k) y ≡ bit (byte bytes (at + y / 8)) (y % 8)
unfolding low_first
bit_low_first bytes small zero at y h = absurd (omega arith)
bit_low_first bytes small (suc k) at y h = ⊎_elim low (next (λ z l. bit_low_first bytes small k (suc at) z l)) (lt_or_ge y 8)
  where
    low : y < 8 → bit (low_first bytes at (suc k)) y ≡ bit (byte bytes (at + y / 8)) (y % 8)
    low l =
        let here : at + y / 8 ≡ at = omega arith in
        let same : y % 8 ≡ y = omega arith in
        rw (here, same) (bit_below (low_first bytes (suc at) k) (byte bytes at) 8 y l)

    next :
        ((z : ℕ) → z < 8 * k → bit (low_first bytes (suc at) k) z ≡ bit (byte bytes (suc at + z / 8)) (z % 8))
        → 8 ≤ y
        → bit (low_first bytes at (suc k)) y ≡ bit (byte bytes (at + y / 8)) (y % 8)
    next rest g =
        let z : ℕ = y - 8 in
        let e : 8 + z ≡ y = omega arith in
        let there : suc at + z / 8 ≡ at + y / 8 = omega arith in
        let same : z % 8 ≡ y % 8 = omega arith in
        ap (bit (low_first bytes at (suc k))) (sym e)
        ∙ bit_above (low_first bytes (suc at) k) (byte bytes at) 8 z (small at)
        ∙ rest z (omega arith)
        ∙ ap₂ (λ (i b : ℕ). bit (byte bytes i) b) there same

-- a run of bytes goes by the bytes in it
low_first_same :
    (a b : List ℕ) (k p q : ℕ) → ((i : ℕ) → i < k → byte a (p + i) ≡ byte b (q + i)) → low_first a p k ≡ low_first b q k
unfolding low_first
low_first_same a b zero p q same = refl
low_first_same a b (suc k) p q same =
    ap₂ (λ (m n : ℕ). m * 2 ^ 8 + n) (low_first_same a b k (suc p) (suc q) (λ i h. next i h)) (rw (add-zero p, add-zero q) at (same 0 (omega arith)))
  where
    next : (i : ℕ) → i < k → byte a (suc p + i) ≡ byte b (suc q + i)
    next i h =
        let e : suc p + i ≡ p + suc i = omega arith in
        let f : suc q + i ≡ q + suc i = omega arith in
        rw (e, f) (same (suc i) (omega arith))

-- byte i of part x of so many bytes each
byte_chunk :
    (n k x i : ℕ) (bytes : List ℕ) → x < k → i < n → byte (get_or (first_chunks n k bytes) x []) i ≡ byte bytes (n * x + i)
byte_chunk n zero x i bytes h g = absurd (omega arith)
byte_chunk n (suc k) zero i bytes h g = get_or-take n bytes i 0 g ∙ ap (byte bytes) (omega arith)
byte_chunk n (suc k) (suc x) i bytes h g =
    byte_chunk n k x i (drop n bytes) (omega arith) g ∙ get_or-drop n bytes (n * x + i) 0 ∙ ap (byte bytes) (omega arith)

-- part x of eight bytes each, as a number
pub eight_bytes :
    (k x : ℕ) (bytes : List ℕ) → x < k → from_le_bytes w64 (get_or (first_chunks 8 k bytes) x []) ≡ low_first bytes (8 * x) 8
unfolding low_first
eight_bytes k x bytes h =
    let part : List ℕ = get_or (first_chunks 8 k bytes) x [] in
    let read : from_le_bytes w64 part ≡ low_first part 0 8 = omega arith in
    read ∙ low_first_same part bytes 8 0 (8 * x) (λ i l. rw (zero-add i) (byte_chunk 8 k x i bytes h l))

-- a row has the nodes that are disturbed
pub bit_row : (rows : List ℕ) → ((i : ℕ) → byte rows i < 2 ^ 8) → (x y : ℕ) → y < most_nodes → bit (row_mask rows x) y ≡ disturbs_in rows x y
unfolding row_mask disturbs_in
bit_row rows small x y h = bit_low_first rows small row_bytes (row_bytes * x) y h

-- what is common with a union is common with one of the two
and_or_last : (r a b : ℕ) → bit_and (r % 2) (bit_or (a % 2) (b % 2)) ≡ bit_or (bit_and (r % 2) (a % 2)) (bit_and (r % 2) (b % 2))
and_or_last r a b = cases (last_cases r) (last_cases a) (last_cases b)
  where
    cases :
        (r % 2 ≡ 0) ⊎ (r % 2 ≡ 1)
        → (a % 2 ≡ 0) ⊎ (a % 2 ≡ 1)
        → (b % 2 ≡ 0) ⊎ (b % 2 ≡ 1)
        → bit_and (r % 2) (bit_or (a % 2) (b % 2)) ≡ bit_or (bit_and (r % 2) (a % 2)) (bit_and (r % 2) (b % 2))
    cases (inl p) q s = rw p
    cases (inr p) (inl q) (inl s) = rw (p, q, s)
    cases (inr p) (inl q) (inr s) = rw (p, q, s)
    cases (inr p) (inr q) (inl s) = rw (p, q, s)
    cases (inr p) (inr q) (inr s) = rw (p, q, s)

-- a number by its half and its last bit
halves : (m n : ℕ) → m / 2 ≡ n / 2 → m % 2 ≡ n % 2 → m ≡ n
halves m n p q = omega arith

pub and_or : (r a b : ℕ) → bit_and r (bit_or a b) ≡ bit_or (bit_and r a) (bit_and r b)
and_or =
    bin_ind (λ (r : ℕ). (a b : ℕ) → bit_and r (bit_or a b) ≡ bit_or (bit_and r a) (bit_and r b)) (λ a b. refl)
    (λ r rest a b.
    halves (bit_and r (bit_or a b)) (bit_or (bit_and r a) (bit_and r b))
    (and_shr r (bit_or a b) 1
    ∙ ap (bit_and (r / 2)) (or_shr a b 1)
    ∙ rest (a / 2) (b / 2)
    ∙ sym (or_shr (bit_and r a) (bit_and r b) 1 ∙ ap₂ bit_or (and_shr r a 1) (and_shr r b 1)))
    (and_mod r (bit_or a b) 1
    ∙ ap (bit_and (r % 2)) (or_mod a b 1)
    ∙ and_or_last r a b
    ∙ sym (or_mod (bit_and r a) (bit_and r b) 1 ∙ ap₂ bit_or (and_mod r a 1) (and_mod r b 1))))

-- a union is empty if both are
or_none : (a b : ℕ) → eqb (bit_or a b) 0 ≡ (eqb a 0 && eqb b 0)
or_none zero b = refl
or_none (suc a) b =
    ne_eqb (bit_or (suc a) b) 0 (λ (e : bit_or (suc a) b ≡ 0). omega (arith, or_add_and (suc a) b, and_le_r (suc a) b))
    ∙ sym (ap (λ (t : Bool). t && eqb b 0) (eqb-suc-zero a))

not_and : (p q : Bool) → not (p && q) ≡ (not p || not q)
not_and true q = refl
not_and false q = refl

pub meets_or : (r a b : ℕ) → meets r (bit_or a b) ≡ (meets r a || meets r b)
meets_or r a b =
    ap (λ (n : ℕ). not (eqb n 0)) (and_or r a b)
    ∙ ap not (or_none (bit_and r a) (bit_and r b))
    ∙ not_and (eqb (bit_and r a) 0) (eqb (bit_and r b) 0)

-- what is common with one node is that node, if it is in the set
and_only : (r x : ℕ) → bit_and r (only x) ≡ (r / 2 ^ x % 2) * 2 ^ x
and_only r x =
    ap₂ bit_and (sym (split r x)) (omega arith)
    ∙ and_block x (r / 2 ^ x) 1 (r % 2 ^ x) 0 (mod-lt r (pow_pos x)) (pow_pos x)
    ∙ ap₂ (λ (m n : ℕ). m * 2 ^ x + n) (and_mask (r / 2 ^ x) 1) (and_zero_r (r % 2 ^ x))
    ∙ add-zero ((r / 2 ^ x % 2) * 2 ^ x)

pub meets_only : (r x : ℕ) → meets r (only x) ≡ bit r x
unfolding bit
meets_only r x = ap (λ (n : ℕ). not (eqb n 0)) (and_only r x) ∙ cases (last_cases (r / 2 ^ x))
  where
    cases : (r / 2 ^ x % 2 ≡ 0) ⊎ (r / 2 ^ x % 2 ≡ 1) → not (eqb ((r / 2 ^ x % 2) * 2 ^ x) 0) ≡ eqb (r / 2 ^ x % 2) 1
    cases (inl e) = rw (e, zero-mul)
    cases (inr e) = rw (e, one-mul, ne_eqb (2 ^ x) 0 (λ (z : 2 ^ x ≡ 0). omega (arith, pow_pos x)))

-- sets that have the same nodes are the same
same_last : (a b : ℕ) → bit a 0 ≡ bit b 0 → a % 2 ≡ b % 2
unfolding one
same_last a b e = last_one a ∙ ap one (sym (bit_zero a) ∙ e ∙ bit_zero b) ∙ sym (last_one b)

same_halves : (a b : ℕ) → ((y : ℕ) → bit a y ≡ bit b y) → (y : ℕ) → bit (a / 2) y ≡ bit (b / 2) y
same_halves a b same y = sym (bit_suc a y) ∙ same (suc y) ∙ bit_suc b y

no_bits : (b : ℕ) → ((y : ℕ) → bit 0 y ≡ bit b y) → 0 ≡ b
no_bits =
    bin_ind (λ (b : ℕ). ((y : ℕ) → bit 0 y ≡ bit b y) → 0 ≡ b) (λ same. refl)
    (λ b rest same. halves 0 b (rest (same_halves 0 b same)) (same_last 0 b (same 0)))

pub same_bits : (a b : ℕ) → ((y : ℕ) → bit a y ≡ bit b y) → a ≡ b
same_bits =
    bin_ind (λ (a : ℕ). (b : ℕ) → ((y : ℕ) → bit a y ≡ bit b y) → a ≡ b) no_bits
    (λ a rest b same. halves a b (rest (b / 2) (same_halves a b same)) (same_last a b (same 0)))
