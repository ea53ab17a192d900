-- Lines of figures that lie side by side in words, kept by their rises: of each step of a plan l, counted from the plan's end, the
-- conflicts that a choice among the steps from there on reaches. A rise is a number of six bits. Leans on the trade's Interference.
use Rattle.std.specs.Prelude.{◌≡◌, ℕ, zero, suc, ◌+◌, ◌-◌, ◌*◌, ◌%◌, ◌<◌, ◌≤◌, max, Bool, true, false, List, slice_index}
use Rattle.trade.specs.Bytes.{bit}
use Rattle.trade.specs.Interference.{Matrix, one}
use Rattle.figures.specs.declared.rises.Rises.{Rises}

-- where lane k begins: a lane has n places and an end
unfoldable pub lane_at : ℕ → ℕ → ℕ
lane_at n zero = 0
lane_at n (suc k) = lane_at n k + suc n

-- the rise at place b
unfoldable pub rise_at : Rises → ℕ → ℕ
rise_at line b =
    one (bit line.ones b)
    + 2 * one (bit line.twos b)
    + 4 * one (bit line.fours b)
    + 8 * one (bit line.eights b)
    + 16 * one (bit line.sixteens b)
    + 32 * one (bit line.thirties b)

-- what is said of the place before b; nothing of the one before the first
unfoldable pub before : (ℕ → ℕ) → ℕ → ℕ
before W zero = 0
before W (suc b) = W b

-- the line of each lane k says W k of each place, which never falls: each rise is what it says more than of the place before, and at its end
-- what it says of the last place is missing from 63
pub record Says (n lanes : ℕ) (line : Rises) (W : ℕ → ℕ → ℕ) : Type 0 where
  pub grows : (k b : ℕ) → before (W k) b ≤ W k b
  pub rises : (k b : ℕ) → k < lanes → b < n → rise_at line (lane_at n k + b) + before (W k) b ≡ W k b
  pub closes : (k : ℕ) → k < lanes → rise_at line (lane_at n k + n) + before (W k) n ≡ 63

-- no line says so much that nothing would be left at its end
abbrev pub Low : ℕ → ℕ → (ℕ → ℕ → ℕ) → Type 0
Low n lanes W = (k : ℕ) → k < lanes → before (W k) n < 63

-- no mark at an end
abbrev pub Unmarked : ℕ → ℕ → ℕ → Type 0
Unmarked n lanes marks = (k : ℕ) → k < lanes → bit marks (lane_at n k + n) ≡ false

-- a column of marks worked in: of each place the line says what it said, with its mark counted, or as much as of the place before
unfoldable pub over : (ℕ → ℕ) → (ℕ → Bool) → ℕ → ℕ
over W marked zero = one (marked zero) + W zero
over W marked (suc b) = max (one (marked (suc b)) + W (suc b)) (over W marked b)

-- the rises, one more at some places and one less at others, by their six bits
pub record Shifts (line : Rises) (up down : ℕ) (after : Rises) : Type 0 where
  pub more : (b : ℕ) → bit up b ≡ true → bit down b ≡ false → rise_at after b ≡ (rise_at line b + 1) % 64
  pub less : (b : ℕ) → bit down b ≡ true → (rise_at after b + 1) % 64 ≡ rise_at line b
  pub same : (b : ℕ) → bit up b ≡ false → bit down b ≡ false → rise_at after b ≡ rise_at line b

-- the ends of the lanes, none of their places, and nothing beyond
pub record Ends (n lanes ends : ℕ) : Type 0 where
  pub set : (k : ℕ) → k < lanes → bit ends (lane_at n k + n) ≡ true
  pub clear : (k b : ℕ) → k < lanes → b < n → bit ends (lane_at n k + b) ≡ false
  pub beyond : (y : ℕ) → lane_at n lanes ≤ y → bit ends y ≡ false

-- words that hold the first so many columns of a matrix of n rows for each lane, its last row first, and nothing at the ends
pub record Marks (n lanes count : ℕ) (M : ℕ → Matrix) (words : List ℕ) : Type 0 where
  pub at : (k j b : ℕ) → k < lanes → j < count → b < n → bit (slice_index words j) (lane_at n k + b) ≡ M k (n - suc b) j
  pub ends : (j : ℕ) → j < count → Unmarked n lanes (slice_index words j)
