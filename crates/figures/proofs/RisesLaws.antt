-- Lines side by side: the rises shifted by a bit, the carry of a sum that lifts each line and ends with it, and what a line says after the
-- last columns. Leans on the trade's Interference. Assumes nothing.
use Rattle.std.proofs.Common.{◌≡◌, ℕ, zero, suc, ◌+◌, ◌-◌, ◌*◌, ◌/◌, ◌%◌, ◌^◌, ◌<◌, ◌≤◌, max, Bool, true, false, cond, not, ◌&&◌, ◌||◌, eqb, ◌⊎◌, sym, refl, ap, ◌∙◌, ap₂, inl, inr, ⊎_elim, pow-suc, arith, ne_eqb, eqb-true}
use mathlib.Core.Bool.{or-true, and-false}
use lib.Bits.{bit_or, bit_and, bit_xor, or_lt}
use borrow.Author.Tests.{eqb-false}
use Rattle.trade.specs.Bytes.{bit}
use Rattle.trade.specs.Interference.{Matrix, one, worst}
use Rattle.trade.proofs.First.{lt_or_ge, bool_cases, not_both}
use Rattle.trade.proofs.Sums.{largest_below}
use Rattle.trade.proofs.Interference.{worst_past, worst_row}
use Rattle.nodes.proofs.MaskLaws.{bit_zero, bit_suc, last_cases, bit_or_lem, bit_and_lem, bit_xor_lem, bit_below}
use Rattle.figures.specs.Rises.{lane_at, rise_at, before, Says, Low, Unmarked, over, Shifts, Ends}
use Rattle.figures.specs.declared.rises.Rises.{Rises}

pub one_le : (marked : Bool) → one marked ≤ 1
unfolding one
one_le true = omega arith
one_le false = omega arith

-- no choice counts more than it has columns
pub worst_at_most : (marks : Matrix) (rows i j k : ℕ) → worst marks rows i j k ≤ k
unfolding worst
worst_at_most marks rows i j zero = omega arith
worst_at_most marks rows i j (suc k) =
    largest_below (λ (c : ℕ). one (marks c j) + worst marks rows c (suc j) k) i (rows - i) (suc k)
    (λ c l h. omega (arith, one_le (marks c j), worst_at_most marks rows c (suc j) k))

-- one of two bits, and not both
abbrev differ : Bool → Bool → Bool
differ a b = cond a (not b) b

-- SHIFTED BY A BIT: one bit of a rise, and what is carried past it
carry_up : (d c : Bool) → one (differ d c) + 2 * one (c && differ d false) ≡ one d + one c
unfolding one
carry_up true true = refl
carry_up true false = refl
carry_up false true = refl
carry_up false false = refl

carry_down : (d c : Bool) → one (differ d c) + one c ≡ one d + 2 * one (c && differ d true)
unfolding one
carry_down true true = refl
carry_down true false = refl
carry_down false true = refl
carry_down false false = refl

-- the rise of six bits, and the same with a bit carried in, up or down
pub six : Bool → Bool → Bool → Bool → Bool → Bool → ℕ
six a b c d e f = one a + 2 * one b + 4 * one c + 8 * one d + 16 * one e + 32 * one f

abbrev next : Bool → Bool → Bool → Bool
next v d c = c && differ d v

-- what is carried past each bit
abbrev second : Bool → Bool → Bool → Bool
second v i a = next v a i

abbrev third : Bool → Bool → Bool → Bool → Bool
third v i a b = next v b (second v i a)

abbrev fourth : Bool → Bool → Bool → Bool → Bool → Bool
fourth v i a b c = next v c (third v i a b)

abbrev fifth : Bool → Bool → Bool → Bool → Bool → Bool → Bool
fifth v i a b c d = next v d (fourth v i a b c)

abbrev sixth : Bool → Bool → Bool → Bool → Bool → Bool → Bool → Bool
sixth v i a b c d e = next v e (fifth v i a b c d)

after_six : Bool → Bool → Bool → Bool → Bool → Bool → Bool → Bool → ℕ
after_six v i a b c d e f =
    six (differ a i) (differ b (second v i a)) (differ c (third v i a b)) (differ d (fourth v i a b c)) (differ e (fifth v i a b c d))
    (differ f (sixth v i a b c d e))

six_up : (i a b c d e f : Bool) → (after_six false i a b c d e f + 64 * one (next false f (sixth false i a b c d e)) ≡ six a b c d e f + one i)
unfolding six after_six
six_up i a b c d e f =
    omega (
      arith,
      carry_up a i,
      carry_up b (second false i a),
      carry_up c (third false i a b),
      carry_up d (fourth false i a b c),
      carry_up e (fifth false i a b c d),
      carry_up f (sixth false i a b c d e),
    )

six_down : (i a b c d e f : Bool) → (after_six true i a b c d e f + one i ≡ six a b c d e f + 64 * one (next true f (sixth true i a b c d e)))
unfolding six after_six
six_down i a b c d e f =
    omega (
      arith,
      carry_down a i,
      carry_down b (second true i a),
      carry_down c (third true i a b),
      carry_down d (fourth true i a b c),
      carry_down e (fifth true i a b c d),
      carry_down f (sixth true i a b c d e),
    )

six_small : (a b c d e f : Bool) → six a b c d e f < 64
unfolding six
six_small a b c d e f = omega (arith, one_le a, one_le b, one_le c, one_le d, one_le e, one_le f)

-- the lines whose rises are so shifted
abbrev pub shifted_line : Rises → ℕ → ℕ → Rises
shifted_line line up down =
    let first : ℕ = bit_or up down in
    let second : ℕ = bit_and first (bit_xor line.ones down) in
    let third : ℕ = bit_and second (bit_xor line.twos down) in
    let fourth : ℕ = bit_and third (bit_xor line.fours down) in
    let fifth : ℕ = bit_and fourth (bit_xor line.eights down) in
    let sixth : ℕ = bit_and fifth (bit_xor line.sixteens down) in
    record {
      ones = bit_xor line.ones first;
      twos = bit_xor line.twos second;
      fours = bit_xor line.fours third;
      eights = bit_xor line.eights fourth;
      sixteens = bit_xor line.sixteens fifth;
      thirties = bit_xor line.thirties sixth;
    }

-- what is made of the six bits at a place
abbrev pub bits_at : (Bool → Bool → Bool → Bool → Bool → Bool → ℕ) → Rises → ℕ → ℕ
bits_at f line b = f (bit line.ones b) (bit line.twos b) (bit line.fours b) (bit line.eights b) (bit line.sixteens b) (bit line.thirties b)

-- and a fact about any six bits, at a place
module _ (P : Bool → Bool → Bool → Bool → Bool → Bool → Type 0) (all : (a b c d e f : Bool) → P a b c d e f) where
  all_at : (line : Rises) (b : ℕ) → P (bit line.ones b) (bit line.twos b) (bit line.fours b) (bit line.eights b) (bit line.sixteens b) (bit line.thirties b)
  all_at line b = all _ _ _ _ _ _

pub rise_six : (line : Rises) (b : ℕ) → rise_at line b ≡ bits_at six line b
unfolding rise_at six
rise_six line b = refl

pub rise_small : (line : Rises) (b : ℕ) → rise_at line b < 64
rise_small line b = rw (rise_six line b) (six_small _ _ _ _ _ _)

module _ (line : Rises) (up down b : ℕ) where
  shifted_at : rise_at (shifted_line line up down) b ≡ bits_at (after_six (bit down b) (bit up b || bit down b)) line b
  unfolding rise_at six after_six
  shifted_at = simp (bit_xor_lem, bit_and_lem, bit_or_lem)

  shifted_more : bit up b ≡ true → bit down b ≡ false → rise_at (shifted_line line up down) b ≡ (rise_at line b + 1) % 64
  unfolding one
  shifted_more u d =
      omega (arith, rw (u, d) at shifted_at, rise_six line b, rise_small (shifted_line line up down) b, all_at _ (six_up true) line b)

  shifted_less : bit down b ≡ true → (rise_at (shifted_line line up down) b + 1) % 64 ≡ rise_at line b
  unfolding one
  shifted_less d =
      omega (arith, rw (d, or-true (bit up b)) at shifted_at, rise_six line b, rise_small line b, all_at _ (six_down true) line b)

  shifted_same : bit up b ≡ false → bit down b ≡ false → rise_at (shifted_line line up down) b ≡ rise_at line b
  unfolding one
  shifted_same u d =
      omega (
        arith,
        rw (u, d) at shifted_at,
        rise_six line b,
        rise_small (shifted_line line up down) b,
        rise_small line b,
        all_at _ (six_up false) line b,
      )

pub line_shifts : (line : Rises) (up down : ℕ) → Shifts line up down (shifted_line line up down)
line_shifts line up down = record { more = shifted_more line up down; less = shifted_less line up down; same = shifted_same line up down }

-- THE CARRY OF A SUM into place b, where one is carried into place 0 or not
most : Bool → Bool → Bool → Bool
most a b c = cond a (b || c) (b && c)

carry_from : Bool → ℕ → ℕ → ℕ → Bool
carry_from c x m zero = c
carry_from c x m (suc b) = carry_from (most (bit x 0) (bit m 0) c) (x / 2) (m / 2) b

-- the sum of two numbers, by their last bits and the rest
last_sum :
    (x m : ℕ) (c : Bool)
    → (bit (x + m + one c) 0 ≡ differ (differ (bit x 0) (bit m 0)) c) × ((x + m + one c) / 2 ≡ x / 2 + m / 2 + one (most (bit x 0) (bit m 0) c))
unfolding one most
last_sum x m c = cases c (last_cases x) (last_cases m)
  where
    given :
        (c : Bool) (x₀ m₀ s : ℕ)
        → x % 2 ≡ x₀
        → m % 2 ≡ m₀
        → (x + m + one c) % 2 ≡ s
        → eqb s 1 ≡ differ (differ (eqb x₀ 1) (eqb m₀ 1)) c
        → (x + m + one c) / 2 ≡ x / 2 + m / 2 + one (most (eqb x₀ 1) (eqb m₀ 1) c)
        → (bit (x + m + one c) 0 ≡ differ (differ (bit x 0) (bit m 0)) c) × ((x + m + one c) / 2 ≡ x / 2 + m / 2 + one (most (bit x 0) (bit m 0) c))
    given c x₀ m₀ s ex em es bit_is half = rw (bit_zero (x + m + one c), bit_zero x, bit_zero m, ex, em, es) (bit_is, half)

    cases :
        (c : Bool)
        → (x % 2 ≡ 0) ⊎ (x % 2 ≡ 1)
        → (m % 2 ≡ 0) ⊎ (m % 2 ≡ 1)
        → (bit (x + m + one c) 0 ≡ differ (differ (bit x 0) (bit m 0)) c) × ((x + m + one c) / 2 ≡ x / 2 + m / 2 + one (most (bit x 0) (bit m 0) c))
    cases false (inl ex) (inl em) = given false 0 0 0 ex em (omega arith) refl (omega arith)
    cases false (inl ex) (inr em) = given false 0 1 1 ex em (omega arith) refl (omega arith)
    cases false (inr ex) (inl em) = given false 1 0 1 ex em (omega arith) refl (omega arith)
    cases false (inr ex) (inr em) = given false 1 1 0 ex em (omega arith) refl (omega arith)
    cases true (inl ex) (inl em) = given true 0 0 1 ex em (omega arith) refl (omega arith)
    cases true (inl ex) (inr em) = given true 0 1 0 ex em (omega arith) refl (omega arith)
    cases true (inr ex) (inl em) = given true 1 0 0 ex em (omega arith) refl (omega arith)
    cases true (inr ex) (inr em) = given true 1 1 1 ex em (omega arith) refl (omega arith)

-- a bit of the sum is that of the numbers and of the carry
sum_bit : (b x m : ℕ) (c : Bool) → bit (x + m + one c) b ≡ differ (differ (bit x b) (bit m b)) (carry_from c x m b)
unfolding carry_from
sum_bit zero x m c = (last_sum x m c).0
sum_bit (suc b) x m c =
    rw (bit_suc (x + m + one c) b, (last_sum x m c).1, bit_suc x b, bit_suc m b) (sum_bit b (x / 2) (m / 2) (most (bit x 0) (bit m 0) c))

carry_next : (b x m : ℕ) (c : Bool) → carry_from c x m (suc b) ≡ most (bit x b) (bit m b) (carry_from c x m b)
unfolding carry_from
carry_next zero x m c = refl
carry_next (suc b) x m c = rw (bit_suc x b, bit_suc m b) (carry_next b (x / 2) (m / 2) (most (bit x 0) (bit m 0) c))

-- where all that the one has the other has too, the carry starts at each place of the one, and goes on through those of the other
pub carry : ℕ → ℕ → ℕ → Bool
carry through marks b = carry_from false through marks b

module _ (through marks : ℕ) (among : (b : ℕ) → bit marks b ≡ true → bit through b ≡ true) where
  pub carry_on : (b : ℕ) → carry through marks (suc b) ≡ (bit marks b || (bit through b && carry through marks b))
  unfolding carry most
  carry_on b = carry_next b through marks false ∙ cases (bool_cases (bit through b)) (bool_cases (bit marks b))
    where
      cases :
          (bit through b ≡ true) ⊎ (bit through b ≡ false)
          → (bit marks b ≡ true) ⊎ (bit marks b ≡ false)
          → most (bit through b) (bit marks b) (carry_from false through marks b) ≡ (bit marks b || (bit through b && carry_from false through marks b))
      cases (inl t) m = rw t refl
      cases (inr t) (inl m) = absurd (not_both (among b m) t)
      cases (inr t) (inr m) = rw (t, m) refl

  sum_carry : (b : ℕ) → bit (through + marks) b ≡ differ (differ (bit through b) (bit marks b)) (carry through marks b)
  unfolding carry one
  sum_carry b = ap (λ (n : ℕ). bit n b) (omega arith) ∙ sum_bit b through marks false

-- a lane begins behind those before it
pub lane_later : (n k lanes : ℕ) → k ≤ lanes → lane_at n k ≤ lane_at n lanes
unfolding lane_at
lane_later n k lanes h = let e : k + (lanes - k) ≡ lanes = omega arith in rw e at (on (lanes - k))
  where
    on : (d : ℕ) → lane_at n k ≤ lane_at n (k + d)
    on zero = let e : k + 0 ≡ k = omega arith in rw e (omega arith)
    on (suc d) = let e : k + suc d ≡ suc (k + d) = omega arith in rw e (omega (arith, on d))

-- MARKS WORKED IN. The carry goes through the marks and the places where a line is level
module _
    (line after : Rises)
    (through marks up down : ℕ)
    (free : (b : ℕ) → b < 64 → bit through b ≡ (bit marks b || eqb (rise_at line b) 0))
    (among : (b : ℕ) → bit marks b ≡ true → bit through b ≡ true)
    (ups : (b : ℕ) → b < 64 → bit up b ≡ (bit marks b && not (carry through marks b)))
    (downs : (b : ℕ) → b < 64 → bit down b ≡ (carry through marks b && not (bit through b)))
    (sh : Shifts line up down after)
  where
    abbrev lifts : ℕ → Bool
    lifts = carry through marks

    -- where there is a rise and no mark the carry ends, and one is taken from the rise
    rise_some : (b : ℕ) → 0 < rise_at line b → eqb (rise_at line b) 0 ≡ false
    rise_some b h = ne_eqb (rise_at line b) 0 (λ (e : rise_at line b ≡ 0). omega arith)

    through_not : (b : ℕ) → b < 64 → bit marks b ≡ false → 0 < rise_at line b → bit through b ≡ false
    through_not b h m r = free b h ∙ rw (m, rise_some b r) refl

    ends_here : (b : ℕ) → b < 64 → bit marks b ≡ false → 0 < rise_at line b → lifts (suc b) ≡ false
    ends_here b h m r = carry_on through marks among b ∙ rw (m, through_not b h m r) refl

    taken_here : (b : ℕ) → b < 64 → bit marks b ≡ false → 0 < rise_at line b → rise_at after b + one (lifts b) ≡ rise_at line b
    unfolding one
    taken_here b h m r =
        ⊎_elim
        (λ (c : lifts b ≡ true).
        rw c (omega (arith, rise_small line b, rise_small after b, sh.less b (downs b h ∙ rw (c, through_not b h m r) refl))))
        (λ (c : lifts b ≡ false). rw c (omega (arith, sh.same b (ups b h ∙ rw m refl) (downs b h ∙ rw c refl))))
        (bool_cases (lifts b))

    -- ONE LANE, into whose first place nothing is carried
    module _
        (s n : ℕ)
        (W : ℕ → ℕ)
        (inside : s + n < 64)
        (start : lifts s ≡ false)
        (grows : (b : ℕ) → before W b ≤ W b)
        (low : before W n < 63)
        (rises : (b : ℕ) → b < n → rise_at line (s + b) + before W b ≡ W b)
      where
        abbrev marked : ℕ → Bool
        marked b = bit marks (s + b)

        lifts_on : (b : ℕ) → b < n → lifts (s + suc b) ≡ (marked b || ((marked b || eqb (rise_at line (s + b)) 0) && lifts (s + b)))
        lifts_on b h =
            let e : s + suc b ≡ suc (s + b) = omega arith in rw e (carry_on through marks among (s + b) ∙ rw (free (s + b) (omega arith)) refl)

        -- the line is lifted where the carry goes
        over_lifts : (b : ℕ) → b < n → over W marked b ≡ W b + one (lifts (s + suc b))
        unfolding over one before
        over_lifts zero h =
            let e : s + 0 ≡ s = omega arith in
            rw (lifts_on 0 h, ap lifts e ∙ start) (cases (bool_cases (marked 0)) (bool_cases (eqb (rise_at line (s + 0)) 0)))
          where
            cases :
                (marked 0 ≡ true) ⊎ (marked 0 ≡ false)
                → (eqb (rise_at line (s + 0)) 0 ≡ true) ⊎ (eqb (rise_at line (s + 0)) 0 ≡ false)
                → one (marked 0) + W 0 ≡ W 0 + one (marked 0 || ((marked 0 || eqb (rise_at line (s + 0)) 0) && false))
            cases (inl m) t = rw m (omega arith)
            cases (inr m) (inl t) = rw (m, t) (omega arith)
            cases (inr m) (inr t) = rw (m, t) (omega arith)
        over_lifts (suc b) h =
            rw (lifts_on (suc b) h, over_lifts b (omega arith)) (cases (bool_cases (marked (suc b))) (bool_cases (eqb (rise_at line (s + suc b)) 0)))
          where
            cases :
                (marked (suc b) ≡ true) ⊎ (marked (suc b) ≡ false)
                → (eqb (rise_at line (s + suc b)) 0 ≡ true) ⊎ (eqb (rise_at line (s + suc b)) 0 ≡ false)
                → max (one (marked (suc b)) + W (suc b)) (W b + one (lifts (s + suc b)))
                ≡ W (suc b) + one (marked (suc b) || ((marked (suc b) || eqb (rise_at line (s + suc b)) 0) && lifts (s + suc b)))
            cases (inl m) t = rw m (omega (arith, grows (suc b), one_le (lifts (s + suc b))))
            cases (inr m) (inl t) =
                rw (m, t) (omega (arith, rises (suc b) h, eqb-true (rise_at line (s + suc b)) 0 t, one_le (lifts (s + suc b))))
            cases (inr m) (inr t) =
                rw (m, t)
                (⊎_elim
                (λ (p : 0 < rise_at line (s + suc b)). omega (arith, rises (suc b) h, one_le (lifts (s + suc b))))
                (λ (p : rise_at line (s + suc b) ≤ 0). absurd (eqb-false (rise_at line (s + suc b)) 0 t (omega arith)))
                (lt_or_ge 0 (rise_at line (s + suc b))))

        before_lifts : (b : ℕ) → b ≤ n → before (over W marked) b ≡ before W b + one (lifts (s + b))
        unfolding before one
        before_lifts zero h = let e : s + 0 ≡ s = omega arith in rw (ap lifts e ∙ start) refl
        before_lifts (suc b) h = over_lifts b (omega arith)

        said_less : (d b : ℕ) → suc (b + d) ≡ n → W b ≤ before W n
        unfolding before
        said_less zero b e = let at : n ≡ suc b = omega arith in rw at (omega arith)
        said_less (suc d) b e = omega (arith, grows (suc b), said_less d (suc b) (omega arith))

        -- a rise is one more where the line is lifted and the place before is not, and one less where only that is
        lane_rises : (b : ℕ) → b < n → rise_at after (s + b) + before (over W marked) b ≡ over W marked b
        unfolding one
        lane_rises b h = cases (said_less (n - suc b) b (omega arith)) (bool_cases (marked b)) (bool_cases (lifts (s + b))) (lt_or_ge 0 (rise_at line (s + b)))
          where
            says : (x y : Bool) → lifts (s + suc b) ≡ x → lifts (s + b) ≡ y → (over W marked b ≡ W b + one x) × (before (over W marked) b ≡ before W b + one y)
            says x y ex ey = (over_lifts b h ∙ rw ex refl, before_lifts b (omega arith) ∙ rw ey refl)

            cases :
                W b ≤ before W n
                → (marked b ≡ true) ⊎ (marked b ≡ false)
                → (lifts (s + b) ≡ true) ⊎ (lifts (s + b) ≡ false)
                → (0 < rise_at line (s + b)) ⊎ (rise_at line (s + b) ≤ 0)
                → rise_at after (s + b) + before (over W marked) b ≡ over W marked b
            cases less (inl m) (inl c) t =
                let n = says true true (lifts_on b h ∙ rw m refl) c in
                omega (
                  arith,
                  n.0,
                  n.1,
                  rises b h,
                  sh.same (s + b) (ups (s + b) (omega arith) ∙ rw (m, c) refl) (downs (s + b) (omega arith) ∙ rw (c, among (s + b) m) refl),
                )
            cases less (inl m) (inr c) t =
                let n = says true false (lifts_on b h ∙ rw m refl) c in
                omega (
                  arith,
                  n.0,
                  n.1,
                  rises b h,
                  low,
                  less,
                  sh.more (s + b) (ups (s + b) (omega arith) ∙ rw (m, c) refl) (downs (s + b) (omega arith) ∙ rw c refl),
                )
            cases less (inr m) c (inl t) =
                let e : s + suc b ≡ suc (s + b) = omega arith in
                let n = says false (lifts (s + b)) (ap lifts e ∙ ends_here (s + b) (omega arith) m t) refl in
                omega (arith, n.0, n.1, rises b h, taken_here (s + b) (omega arith) m t)
            cases less (inr m) c (inr t) =
                let none : rise_at line (s + b) ≡ 0 = omega arith in
                let level : eqb (rise_at line (s + b)) 0 ≡ true = rw none refl in
                let n = says (lifts (s + b)) (lifts (s + b)) (lifts_on b h ∙ rw (m, level) refl) refl in
                omega (
                  arith,
                  n.0,
                  n.1,
                  rises b h,
                  sh.same (s + b) (ups (s + b) (omega arith) ∙ rw m refl) (downs (s + b) (omega arith) ∙ rw (free (s + b) (omega arith), m, level) (and-false (lifts (s + b)))),
                )

        -- what is lifted at the last place is taken at the end, where the carry ends
        module _ (closes : rise_at line (s + n) + before W n ≡ 63) (unmarked : bit marks (s + n) ≡ false) where
          lane_closes : rise_at after (s + n) + before (over W marked) n ≡ 63
          lane_closes = omega (arith, closes, low, before_lifts n (omega arith), taken_here (s + n) inside unmarked (omega arith))

          lane_ends : lifts (suc (s + n)) ≡ false
          lane_ends = ends_here (s + n) inside unmarked (omega arith)

    over_grows : (W : ℕ → ℕ) (marked : ℕ → Bool) (b : ℕ) → before (over W marked) b ≤ over W marked b
    unfolding before over
    over_grows W marked zero = omega arith
    over_grows W marked (suc b) = omega arith

    -- ALL LANES: nothing is carried from one into the next
    module _ (n lanes : ℕ) (W : ℕ → ℕ → ℕ) (fit : lane_at n lanes ≤ 64) (low : Low n lanes W) (unmarked : Unmarked n lanes marks) (s : Says n lanes line W) where
      lane_inside : (k : ℕ) → k < lanes → lane_at n k + n < 64
      unfolding lane_at
      lane_inside k h = omega (arith, lane_later n (suc k) lanes h, fit)

      lane_starts : (k : ℕ) → k ≤ lanes → lifts (lane_at n k) ≡ false
      unfolding lane_at carry carry_from
      lane_starts zero h = refl
      lane_starts (suc k) h =
          let e : lane_at n k + suc n ≡ suc (lane_at n k + n) = omega arith in
          rw e
          (lane_ends (lane_at n k) n (W k) (lane_inside k (omega arith)) (lane_starts k (omega arith)) (s.grows k)
          (low k (omega arith)) (λ b l. s.rises k b (omega arith) l) (s.closes k (omega arith)) (unmarked k (omega arith)))

      pub worked_says : Says n lanes after (λ k. over (W k) (λ b. bit marks (lane_at n k + b)))
      worked_says =
          record {
            grows = λ k b. over_grows (W k) (λ b. bit marks (lane_at n k + b)) b;
            rises =
                λ k b h l.
                lane_rises (lane_at n k) n (W k) (lane_inside k h) (lane_starts k (omega arith)) (s.grows k) (low k h) (λ b l. s.rises k b h l) b l;
            closes =
                λ k h.
                lane_closes (lane_at n k) n (W k) (lane_inside k h) (lane_starts k (omega arith)) (s.grows k) (low k h)
                (λ b l. s.rises k b h l) (s.closes k h) (unmarked k h);
          }

-- IN WORDS OF 64 BITS
-- all places less some are the others
others : (k n b : ℕ) → n < 2 ^ k → b < k → bit (2 ^ k - 1 - n) b ≡ not (bit n b)
others zero n b f h = absurd (omega arith)
others (suc k) n zero f h = cases (last_cases n)
  where
    cases : (n % 2 ≡ 0) ⊎ (n % 2 ≡ 1) → bit (2 ^ suc k - 1 - n) 0 ≡ not (bit n 0)
    cases (inl e) =
        let o : (2 ^ suc k - 1 - n) % 2 ≡ 1 = omega (arith, pow-suc 2 k) in
        rw (bit_zero (2 ^ suc k - 1 - n), bit_zero n, e, o) refl
    cases (inr e) =
        let o : (2 ^ suc k - 1 - n) % 2 ≡ 0 = omega (arith, pow-suc 2 k) in
        rw (bit_zero (2 ^ suc k - 1 - n), bit_zero n, e, o) refl
others (suc k) n (suc b) f h =
    let e : (2 ^ suc k - 1 - n) / 2 ≡ 2 ^ k - 1 - n / 2 = omega (arith, pow-suc 2 k) in
    rw (bit_suc (2 ^ suc k - 1 - n) b, e, bit_suc n b) (others k (n / 2) b (omega (arith, pow-suc 2 k)) (omega arith))

-- a bit read as a number
digit : (n b : ℕ) → one (bit n b) ≡ (n / 2 ^ b) % 2
unfolding bit one
digit n b = cases ((n / 2 ^ b) % 2) (omega arith)
  where
    cases : (d : ℕ) → d < 2 → one (eqb d 1) ≡ d
    cases zero h = refl
    cases (suc zero) h = refl
    cases (suc (suc d)) h = absurd (omega arith)

pub rise_digits :
    (line : Rises) (b : ℕ)
    → rise_at line b
    ≡ (line.ones / 2 ^ b) % 2
    + 2 * ((line.twos / 2 ^ b) % 2)
    + 4 * ((line.fours / 2 ^ b) % 2)
    + 8 * ((line.eights / 2 ^ b) % 2)
    + 16 * ((line.sixteens / 2 ^ b) % 2)
    + 32 * ((line.thirties / 2 ^ b) % 2)
unfolding rise_at
rise_digits line b =
    rw (digit line.ones b, digit line.twos b, digit line.fours b, digit line.eights b, digit line.sixteens b, digit line.thirties b) refl

-- a rise is nothing where none of its bits is set
six_none : (a b c d e f : Bool) → eqb (six a b c d e f) 0 ≡ not (a || b || c || d || e || f)
unfolding six one
six_none true b c d e f = ne_eqb (six true b c d e f) 0 (λ (z : six true b c d e f ≡ 0). omega (arith, z))
six_none false true c d e f = ne_eqb (six false true c d e f) 0 (λ (z : six false true c d e f ≡ 0). omega (arith, z))
six_none false false true d e f = ne_eqb (six false false true d e f) 0 (λ (z : six false false true d e f ≡ 0). omega (arith, z))
six_none false false false true e f = ne_eqb (six false false false true e f) 0 (λ (z : six false false false true e f ≡ 0). omega (arith, z))
six_none false false false false true f = ne_eqb (six false false false false true f) 0 (λ (z : six false false false false true f ≡ 0). omega (arith, z))
six_none false false false false false true = refl
six_none false false false false false false = refl

abbrev pub rising_in : Rises → ℕ
rising_in line = bit_or (bit_or (bit_or (bit_or (bit_or line.ones line.twos) line.fours) line.eights) line.sixteens) line.thirties

abbrev pub through_of : Rises → ℕ → ℕ
through_of line marks = bit_or marks (18446744073709551615 - rising_in line)

-- the words are of 64 bits
pub record Words (line : Rises) : Type 0 where
  pub ones : line.ones < 2 ^ 64
  pub twos : line.twos < 2 ^ 64
  pub fours : line.fours < 2 ^ 64
  pub eights : line.eights < 2 ^ 64
  pub sixteens : line.sixteens < 2 ^ 64
  pub thirties : line.thirties < 2 ^ 64

rising_fits : (line : Rises) → Words line → rising_in line < 2 ^ 64
rising_fits line w =
    or_lt 64 _ _ (or_lt 64 _ _ (or_lt 64 _ _ (or_lt 64 _ _ (or_lt 64 _ _ w.ones w.twos) w.fours) w.eights) w.sixteens) w.thirties

through_free : (line : Rises) → rising_in line < 2 ^ 64 → (marks b : ℕ) → b < 64 → bit (through_of line marks) b ≡ (bit marks b || eqb (rise_at line b) 0)
through_free line fits marks b h =
    bit_or_lem marks (18446744073709551615 - rising_in line) b
    ∙ ap (λ (x : Bool). bit marks b || x)
    (others 64 (rising_in line) b fits h ∙ simp bit_or_lem (sym (ap (λ (n : ℕ). eqb n 0) (rise_six line b) ∙ six_none _ _ _ _ _ _)))

through_among : (line : Rises) (marks b : ℕ) → bit marks b ≡ true → bit (through_of line marks) b ≡ true
through_among line marks b m = bit_or_lem marks (18446744073709551615 - rising_in line) b ∙ rw m refl

-- a number cut to 64 bits keeps them
pub low_bit : (n b : ℕ) → b < 64 → bit (n % 2 ^ 64) b ≡ bit n b
low_bit n b h = sym (bit_below (n / 2 ^ 64) (n % 2 ^ 64) 64 b h) ∙ ap (λ (m : ℕ). bit m b) (omega arith)

-- where all marks are let through, a sum is the carry at each of them and where nothing is let through
module _ (through marks : ℕ) (among : (b : ℕ) → bit marks b ≡ true → bit through b ≡ true) where
  abbrev sum : ℕ
  sum = (through + marks) % 2 ^ 64

  marked_sum : (m t c : Bool) → (m ≡ true → t ≡ true) → (m && differ m (differ (differ t m) c)) ≡ (m && not c)
  marked_sum true t true a = rw (a refl) refl
  marked_sum true t false a = rw (a refl) refl
  marked_sum false t c a = refl

  open_sum : (m t c : Bool) → (m ≡ true → t ≡ true) → (differ (differ t m) c && differ (differ (differ t m) c) t) ≡ (c && not t)
  open_sum true t true a = rw (a refl) refl
  open_sum true t false a = rw (a refl) refl
  open_sum false true true a = refl
  open_sum false true false a = refl
  open_sum false false true a = refl
  open_sum false false false a = refl

  ups_are : (b : ℕ) → b < 64 → bit (bit_and marks (bit_xor marks sum)) b ≡ (bit marks b && not (carry through marks b))
  ups_are b h =
      bit_and_lem marks (bit_xor marks sum) b
      ∙ rw (bit_xor_lem marks sum b, low_bit (through + marks) b h, sum_carry through marks among b) (marked_sum (bit marks b) (bit through b) (carry through marks b) (among b))

  downs_are : (b : ℕ) → b < 64 → bit (bit_and sum (bit_xor sum through)) b ≡ (carry through marks b && not (bit through b))
  downs_are b h =
      bit_and_lem sum (bit_xor sum through) b
      ∙ rw (bit_xor_lem sum through b, low_bit (through + marks) b h, sum_carry through marks among b) (open_sum (bit marks b) (bit through b) (carry through marks b) (among b))

-- THE MARKS, by the words of the code
pub column_says :
    (line after : Rises) (marks : ℕ)
    → Words line
    → Shifts line (bit_and marks (bit_xor marks ((through_of line marks + marks) % 2 ^ 64)))
    (bit_and ((through_of line marks + marks) % 2 ^ 64) (bit_xor ((through_of line marks + marks) % 2 ^ 64) (through_of line marks))) after
    → (n lanes : ℕ) (W : ℕ → ℕ → ℕ)
    → lane_at n lanes ≤ 64
    → Low n lanes W
    → Unmarked n lanes marks
    → Says n lanes line W
    → Says n lanes after (λ k. over (W k) (λ b. bit marks (lane_at n k + b)))
column_says line after marks w sh n lanes W fit low unmarked s =
    let through : ℕ = through_of line marks in
    let among : (b : ℕ) → bit marks b ≡ true → bit through b ≡ true = through_among line marks in
    worked_says line after through marks _ _ (through_free line (rising_fits line w) marks) among (ups_are through marks among)
    (downs_are through marks among) sh n lanes W fit low unmarked s

-- THE LINES after the columns from j on, k of them: of each place what a choice among the rows from there on reaches
abbrev pub reached_by : Matrix → ℕ → ℕ → ℕ → ℕ → ℕ
reached_by marks n j k b = worst marks n (n - suc b) j k

module _ (marks : Matrix) (n : ℕ) where
  -- one column more
  over_worst :
      (j k : ℕ) (line : ℕ → ℕ) (marked : ℕ → Bool)
      → ((b : ℕ) → b < n → line b ≡ worst marks n (n - suc b) (suc j) k)
      → ((b : ℕ) → b < n → marked b ≡ marks (n - suc b) j)
      → (b : ℕ)
      → b < n
      → over line marked b ≡ worst marks n (n - suc b) j (suc k)
  unfolding over
  over_worst j k line marked says same zero h =
      let i : ℕ = n - 1 in
      ap₂ (λ (x : Bool) (y : ℕ). one x + y) (same 0 h) (says 0 h)
      ∙ omega (arith, worst_row marks n i j k (omega arith), worst_past marks n (suc i) j (suc k) (omega arith))
  over_worst j k line marked says same (suc b) h =
      let i : ℕ = n - suc (suc b) in
      let e : suc i ≡ n - suc b = omega arith in
      ap₂ (λ (x y : ℕ). max x y) (ap₂ (λ (x : Bool) (y : ℕ). one x + y) (same (suc b) h) (says (suc b) h))
      (over_worst j k line marked says same b (omega arith) ∙ ap (λ (r : ℕ). worst marks n r j (suc k)) (sym e))
      ∙ sym (worst_row marks n i j k (omega arith))

  worst_down : (i j k : ℕ) → worst marks n (suc i) j k ≤ worst marks n i j k
  unfolding worst
  worst_down i j zero = omega arith
  worst_down i j (suc k) =
      ⊎_elim (λ (h : i < n). omega (arith, worst_row marks n i j k h))
      (λ (h : n ≤ i). omega (arith, worst_past marks n (suc i) j (suc k) (omega arith))) (lt_or_ge i n)

  reached_grows : (j k b : ℕ) → before (reached_by marks n j k) b ≤ reached_by marks n j k b
  unfolding before
  reached_grows j k zero = omega arith
  reached_grows j k (suc b) =
      ⊎_elim
      (λ (h : suc b < n).
      let i : ℕ = n - suc (suc b) in
      let e : n - suc b ≡ suc i = omega arith in
      rw e (worst_down i j k))
      (λ (h : n ≤ suc b).
      let e : n - suc b ≡ 0 = omega arith in
      let f : n - suc (suc b) ≡ 0 = omega arith in
      rw (e, f) (omega arith))
      (lt_or_ge (suc b) n)

  -- of the last place, what is reached at all
  reached_last : (j k : ℕ) → before (reached_by marks n j k) n ≡ worst marks n 0 j k
  unfolding before
  reached_last j k = cases n refl
    where
      cases : (m : ℕ) → n ≡ m → before (reached_by marks m j k) m ≡ worst marks m 0 j k
      cases zero e = sym (worst_past marks 0 0 j k (omega arith))
      cases (suc m) e = let none : suc m - suc m ≡ 0 = omega arith in rw none refl

-- all lanes: none yet, and one column more
module _ (n lanes : ℕ) (M : ℕ → Matrix) where
  abbrev pub reached_in : ℕ → ℕ → ℕ → ℕ → ℕ
  reached_in j k lane = reached_by (M lane) n j k

  pub lanes_none : (ends j : ℕ) → Ends n lanes ends → Says n lanes (record { ones = ends; twos = ends; fours = ends; eights = ends; sixteens = ends; thirties = ends }) (reached_in j 0)
  unfolding worst rise_at one before
  lanes_none ends j e =
      record {
        grows = λ k b. reached_grows (M k) n j 0 b;
        rises = λ k b h l. rw (e.clear k b h l, nothing b) refl;
        closes = λ k h. rw (e.set k h, nothing n) refl;
      }
    where
      nothing : (b : ℕ) → before (λ _. 0) b ≡ 0
      nothing zero = refl
      nothing (suc b) = refl

  pub lanes_more :
      (j k column : ℕ) (line : Rises)
      → ((lane b : ℕ) → lane < lanes → b < n → bit column (lane_at n lane + b) ≡ M lane (n - suc b) j)
      → Says n lanes line (λ lane. over (reached_in (suc j) k lane) (λ b. bit column (lane_at n lane + b)))
      → Says n lanes line (reached_in j (suc k))
  unfolding before
  lanes_more j k column line same s =
      record {
        grows = λ lane b. reached_grows (M lane) n j (suc k) b;
        rises = λ lane b h l. rw (← here lane b h l, ← behind lane b h (omega arith)) (s.rises lane b h l);
        closes = λ lane h. rw (← behind lane n h (omega arith)) (s.closes lane h);
      }
    where
      worked : ℕ → ℕ → ℕ
      worked lane = over (reached_in (suc j) k lane) (λ b. bit column (lane_at n lane + b))

      here : (lane b : ℕ) → lane < lanes → b < n → worked lane b ≡ reached_in j (suc k) lane b
      here lane b h l =
          over_worst (M lane) n j k (reached_in (suc j) k lane) (λ b. bit column (lane_at n lane + b)) (λ b l. refl) (λ b l. same lane b h l) b l

      behind : (lane b : ℕ) → lane < lanes → b ≤ n → before (worked lane) b ≡ before (reached_in j (suc k) lane) b
      behind lane zero h l = refl
      behind lane (suc b) h l = here lane b h (omega arith)

  pub lanes_low : (j k : ℕ) → k < 63 → Low n lanes (reached_in j k)
  lanes_low j k h lane l = omega (arith, reached_last (M lane) n j k, worst_at_most (M lane) n 0 j k)

  pub lanes_reached :
      (j k : ℕ) (line : Rises) → Says n lanes line (reached_in j k) → (lane : ℕ) → lane < lanes → rise_at line (lane_at n lane + n) + worst (M lane) n 0 j k ≡ 63
  lanes_reached j k line s lane l = omega (arith, s.closes lane l, reached_last (M lane) n j k)
