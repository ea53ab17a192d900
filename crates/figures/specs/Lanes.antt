-- Plans laid side by side into words: a lane for each. Leans on Rises and on the pairs' Columns.
use Rattle.std.specs.Prelude.{◌≡◌, ℕ, ◌+◌, ◌-◌, ◌*◌, ◌<◌, ◌≤◌, Bool, false, ◌&&◌, ◌||◌, List, length, nat_lt, slice_index}
use Rattle.trade.specs.Limits.{most_steps, most_id}
use Rattle.trade.specs.Bytes.{bit}
use Rattle.trade.specs.Facts.{step_in}
use Rattle.plans.specs.Plan.{steps_in}
use Rattle.pairs.specs.Columns.{marked_at}
use Rattle.sections.specs.Formed.{plan_start, plan_at}
use Rattle.figures.specs.Rises.{lane_at, rise_at, Unmarked, Ends}
use Rattle.figures.specs.declared.rises.Rises.{Rises}
use Rattle.figures.specs.declared.lanes.Group.{Group}

-- step j of a plan h, if it has one, conflicts with step b from the end, by columns
abbrev pub laid_mark : List ℕ → List ℕ → ℕ → ℕ → Bool
laid_mark columns h j b = nat_lt j (steps_in h) && marked_at columns (step_in h j) b

-- a plan laid into n places from one on
pub record LaidAt (columns : List ℕ) (n : ℕ) (h : List ℕ) (at : ℕ) (before after : List ℕ) : Type 0 where
  pub size : length after ≡ length before
  pub marks : (j b : ℕ) → b < n → bit (slice_index after j) (at + b) ≡ (bit (slice_index before j) (at + b) || laid_mark columns h j b)
  pub below : (j y : ℕ) → y < at → bit (slice_index after j) y ≡ bit (slice_index before j) y
  pub past : (j y : ℕ) → at + n ≤ y → bit (slice_index after j) y ≡ bit (slice_index before j) y

-- so many plans laid into their lanes, and nothing beyond
pub record Laid (columns : List ℕ) (n : ℕ) (plans : ℕ → List ℕ) (lanes : ℕ) (words : List ℕ) : Type 0 where
  pub size : length words ≡ most_steps
  pub marks : (k j b : ℕ) → k < lanes → b < n → bit (slice_index words j) (lane_at n k + b) ≡ laid_mark columns (plans k) j b
  pub ends : (j : ℕ) → Unmarked n lanes (slice_index words j)
  pub beyond : (j y : ℕ) → lane_at n lanes ≤ y → bit (slice_index words j) y ≡ false

-- the flows from one on, some and at most up to l, laid into words that were blank
pub record GroupedTo (columns : List ℕ) (n : ℕ) (records steps : List ℕ) (first l : ℕ) (group : Group) (words : List ℕ) : Type 0 where
  pub from : first ≤ group.next
  pub most : group.next ≤ l
  pub room : lane_at n (group.next - first) ≤ 64
  pub start : group.start ≡ plan_start records group.next
  pub steps_most : group.start ≤ most_id * group.next
  pub laid : Laid columns n (λ k. plan_at records steps (first + k)) (group.next - first) words
  pub closed : Ends n (group.next - first) group.ends
  pub long : (k : ℕ) → k < group.next - first → steps_in (plan_at records steps (first + k)) ≤ group.longest
  pub short : group.longest ≤ most_steps

pub record Grouped (columns : List ℕ) (n : ℕ) (records steps : List ℕ) (first l : ℕ) (group : Group) (words : List ℕ) : Type 0 where
  pub some : first < group.next
  pub all : GroupedTo columns n records steps first l group words

-- the figures of some flows read at the ends of the lanes; the others stay
pub record ReadOut (line : Rises) (n first until : ℕ) (before after : List ℕ) : Type 0 where
  pub size : length after ≡ length before
  pub read : (h : ℕ) → first ≤ h → h < until → rise_at line (lane_at n (h - first) + n) + slice_index after h ≡ 63
  pub below : (h : ℕ) → h < first → slice_index after h ≡ slice_index before h
  pub past : (h : ℕ) → until ≤ h → slice_index after h ≡ slice_index before h
