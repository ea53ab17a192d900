-- The figures of a table, line by line: a line read from where its figures stood, a line put in its place, and the figures of a table
-- before and after a flow comes in or goes. Leans on the trade's Kept.
use Rattle.std.specs.Prelude.{ℕ, ◌+◌, ◌-◌, ◌*◌, ◌≤◌, ◌<◌, ◌≡◌, cond, ◌&&◌, List, eqb, ltb, length, get_or}
use Rattle.trade.specs.Limits.{most_flows}
use Rattle.trade.specs.First.{list_to}
use Rattle.trade.specs.Bytes.{padded}
use Rattle.trade.specs.Facts.{Facts, facts_in}
use Rattle.trade.specs.Interference.{interference}
use Rattle.trade.specs.Exchange.{before_out}
use Rattle.trade.specs.Kept.{figures_room, figure_in, square}

-- a place below the cut as it is, any other so many places ahead and then back
unfoldable pub shifted : ℕ → ℕ → ℕ → ℕ → ℕ
shifted cut ahead back h = cond (ltb h cut) h (h + ahead - back)

-- the first so many figures of a line, read from their places, and zeros behind them
abbrev pub line_from : List ℕ → ℕ → ℕ → ℕ → ℕ → ℕ → List ℕ
line_from figures line count cut ahead back = padded most_flows (list_to (λ h. figure_in figures line (shifted cut ahead back h)) count)

-- the figures of flow l, if it is one of so many; zeros where it is none
abbrev pub line_of : ℕ → Facts → ℕ → List ℕ
line_of flows f l = padded most_flows (list_to (interference f l) (cond (ltb l flows) l 0))

-- a line put in its place, and all else as it was
pub record LinePut (l : ℕ) (line before after : List ℕ) : Type 0 where
  pub size : length after ≡ length before
  pub here : (h : ℕ) → h < most_flows → get_or after (most_flows * l + h) 0 ≡ get_or line h 0
  pub below : (k : ℕ) → k < most_flows * l → get_or after k 0 ≡ get_or before k 0
  pub past : (k : ℕ) → most_flows * l + most_flows ≤ k → get_or after k 0 ≡ get_or before k 0

-- zeros put in the lines from one on, and those above as they were
pub record Cleared (l : ℕ) (before after : List ℕ) : Type 0 where
  pub size : length after ≡ length before
  pub above : (k : ℕ) → k < most_flows * l → get_or after k 0 ≡ get_or before k 0
  pub past : (k : ℕ) → most_flows * l ≤ k → get_or after k 0 ≡ 0

-- where a flow stood before another came in at a place
unfoldable pub before_in : ℕ → ℕ → ℕ
before_in place i = cond (ltb i place) i (i - 1)

-- the figures of a table, before a flow came in at a place, are those of the flows that were there
pub record OldFigures (flows place : ℕ) (rows records steps old : List ℕ) : Type 0 where
  pub within : place < flows
  pub size : length old ≡ figures_room
  pub figures :
      (l h : ℕ)
      → l < flows
      → h < l
      → (l ≡ place → ⊥)
      → (h ≡ place → ⊥)
      → figure_in old (before_in place l) (before_in place h) ≡ interference (facts_in 0 0 rows records steps) l h

-- the figure of the flow at a place and another: what one above it costs it, or it one below
unfoldable pub pair_in : Facts → ℕ → ℕ → ℕ
pair_in f place i = cond (ltb i place) (interference f place i) (cond (eqb i place) 0 (interference f i place))

-- with each of so many flows
abbrev pub pairs_of : ℕ → Facts → ℕ → List ℕ
pairs_of flows f place = padded most_flows (list_to (pair_in f place) flows)

-- the figure of l and h where a flow has come in at a place: a newcomer's from its pairs, any other from where it stood
unfoldable pub figure_with : ℕ → List ℕ → List ℕ → ℕ → ℕ → ℕ
figure_with place pairs old l h =
    cond (eqb l place) (get_or pairs h 0) (cond (eqb h place) (get_or pairs l 0) (figure_in old (before_in place l) (before_in place h)))

-- those of a table into which a flow has come at a place, of so many with it, every other zero
unfoldable pub with_figures : ℕ → ℕ → List ℕ → List ℕ → List ℕ
with_figures flows place pairs old = square (λ l h. cond (ltb l flows && ltb h l) (figure_with place pairs old l h) 0)

-- line l of it
abbrev pub in_line : ℕ → ℕ → List ℕ → List ℕ → ℕ → List ℕ
in_line flows place pairs old l = padded most_flows (list_to (figure_with place pairs old l) (cond (ltb l flows) l 0))

-- line l where the flow at a place has gone, of so many flows that are left: its figures taken from where they stood
abbrev pub out_line : ℕ → ℕ → List ℕ → ℕ → List ℕ
out_line flows place old l = padded most_flows (list_to (λ h. figure_in old (before_out place l) (before_out place h)) (cond (ltb l flows) l 0))

-- those of a table from which the flow at a place has gone, of so many that are left: taken from where they stood, every other zero
unfoldable pub without_figures : ℕ → ℕ → List ℕ → List ℕ
without_figures flows place old = square (λ l h. cond (ltb l flows && ltb h l) (figure_in old (before_out place l) (before_out place h)) 0)
