-- What the theorem about waiting assumes of a run and of the bounds, and what it says. Leans on Course, Window and Counting.
use Rattle.std.specs.Prelude.{ℕ, suc, ◌+◌, ◌*◌, ◌≤◌, ◌<◌, ◌≡◌, true, false}
use Rattle.trade.specs.First.{sum_to}
use Rattle.trade.specs.Interference.{Matrix}
use Rattle.trade.specs.Bound.{instances, Measure}
use Rattle.response.specs.Course.{Course, after}
use Rattle.response.specs.Window.{Blocks}
use Rattle.response.specs.Counting.{Apart}

-- the course of one flow: idle until its first release, set to 0 by a release, else one step on where it goes; it goes only where
-- it is unfinished
pub record Steady (c : Course) : Type 0 where
  pub idle : c.released 0 ≡ false → c.done 0 ≡ c.len
  pub anew : (t : ℕ) → c.released t ≡ true → c.done t ≡ 0
  pub steps : (t : ℕ) → c.released (suc t) ≡ false → c.done (suc t) ≡ after c t
  pub within : (t : ℕ) → c.goes t ≡ true → c.done t < c.len

-- a run of m flows: each is steady, its releases at least its period apart; and where an unfinished flow does not go, a flow above
-- it blocks it
pub record Running (m : ℕ) (flow : ℕ → Course) (period : ℕ → ℕ) (marks : ℕ → ℕ → Matrix) : Type 0 where
  pub steady : (l : ℕ) → l < m → Steady (flow l)
  pub apart : (l : ℕ) → l < m → Apart (flow l).released (period l)
  pub waits :
      (l t : ℕ)
      → l < m
      → (flow l).done t < (flow l).len
      → (flow l).goes t ≡ false
      → (h : ℕ) × (h < l) × Blocks (marks l h) (flow l) (flow h) t

-- R bounds each flow by a measure: it holds the flow's plan, and with it what the flows above may take in R slots; it exceeds neither
-- the carry-in that the flows below count for it nor its period
pub record Bounded (m : ℕ) (len period : ℕ → ℕ) (μ : Measure) (R : ℕ → ℕ) : Type 0 where
  pub plan : (l : ℕ) → l < m → 1 ≤ len l
  pub carried : (l : ℕ) → l < m → R l ≤ μ.carry l
  pub ends : (l : ℕ) → l < m → R l ≤ period l
  pub enough : (l : ℕ) → l < m → len l + sum_to (λ h. instances (R l) (μ.carry h) (period h) * μ.cost l h) l ≤ R l

-- each instance is finished R slots after its release
abbrev pub InTime : ℕ → (ℕ → Course) → (ℕ → ℕ) → Type 0
InTime m flow R = (l r : ℕ) → l < m → (flow l).released r ≡ true → (t : ℕ) → suc t ≡ r + R l → after (flow l) t ≡ (flow l).len

-- no release meets an unfinished instance
abbrev pub NeverMet : ℕ → (ℕ → Course) → Type 0
NeverMet m flow = (l t : ℕ) → l < m → (flow l).released (suc t) ≡ true → after (flow l) t ≡ (flow l).len
