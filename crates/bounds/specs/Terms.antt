-- What the bound of a flow reads of the k flows above it: a figure, a period and a carry-in for each, in three lists. Leans on the
-- trade's Bound.
use Rattle.std.specs.Prelude.{ℕ, suc, ◌+◌, ◌*◌, ◌≤◌, ◌<◌, ◌&&◌, List, leb, get_or}
use Rattle.trade.specs.Limits.{most_flows, most_period}
use Rattle.trade.specs.First.{first, sum_to}
use Rattle.trade.specs.Bound.{instances}

-- the slots that a flow of so many steps needs within R slots
unfoldable pub needed_in : ℕ → ℕ → List ℕ → List ℕ → List ℕ → ℕ → ℕ
needed_in len k figures periods carries R =
    len + sum_to (λ h. instances R (get_or carries h 0) (get_or periods h 0) * get_or figures h 0) k

-- those that it needs at the least: its own, and one instance of each flow above it
unfoldable pub least_in : ℕ → ℕ → List ℕ → ℕ
least_in len k figures = len + sum_to (λ h. get_or figures h 0) k

-- the smallest R from L to D that is at least what is needed within it; D + 1 where there is none
unfoldable pub smallest_in : (ℕ → ℕ) → ℕ → ℕ → ℕ
smallest_in needed len deadline = first (λ R. leb len R && leb R deadline && leb (needed R) R) (suc deadline)

-- the three lists hold what can be said of k flows, a figure in a byte
pub record Terms (k : ℕ) (figures periods carries : List ℕ) : Type 0 where
  pub above : k ≤ most_flows
  pub figure : (h : ℕ) → h < k → get_or figures h 0 ≤ 255
  pub period : (h : ℕ) → h < k → (1 ≤ get_or periods h 0) × (get_or periods h 0 ≤ most_period)
  pub carry : (h : ℕ) → h < k → (1 ≤ get_or carries h 0) × (get_or carries h 0 ≤ most_period)
