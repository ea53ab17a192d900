-- What the window lemma assumes: a flow that is unfinished through a window, the flows that may keep it waiting there, and for
-- each of these a potential that pays for the slots charged to it. Leans on Course.
use Rattle.std.specs.Prelude.{ℕ, suc, ◌+◌, ◌≤◌, ◌<◌, ◌≡◌, true, false}
use Rattle.trade.specs.Interference.{Matrix, one}
use Rattle.response.specs.Course.{Course, after}

-- a potential at step i of a flow with so many rows and step j of a flow with so many columns: it never rises as the first goes
-- on, it pays for each conflict as the second goes on, it starts at no more than its top, and it ends at 0
pub record Potential (marks : Matrix) (rows columns top : ℕ) (F : ℕ → ℕ → ℕ) : Type 0 where
  pub falls : (i j : ℕ) → F (suc i) j ≤ F i j
  pub pays : (i j : ℕ) → i < rows → j < columns → one (marks i j) + F i (suc j) ≤ F i j
  pub starts : (i : ℕ) → F i 0 ≤ top
  pub ends : (i j : ℕ) → columns ≤ j → F i j ≡ 0

-- flow h keeps flow l waiting in slot t: h goes, and its step is marked against the step of l
pub record Blocks (marks : Matrix) (l h : Course) (t : ℕ) : Type 0 where
  pub goes : h.goes t ≡ true
  pub unfinished : h.done t < h.len
  pub marked : marks (l.done t) (h.done t) ≡ true

-- the w slots from r on: l is unfinished in each of them and never goes back; each of the count others goes on from slot to slot,
-- unless it is released; and in a slot in which l does not go, one of them blocks it
pub record Window (l : Course) (count : ℕ) (others : ℕ → Course) (marks : ℕ → Matrix) (r w : ℕ) : Type 0 where
  pub unfinished : (t : ℕ) → r ≤ t → t < r + w → l.done t < l.len
  pub onward : (t : ℕ) → r ≤ t → suc t < r + w → l.done t ≤ l.done (suc t)
  pub others_onward :
      (h : ℕ)
      → h < count
      → (t : ℕ)
      → r ≤ t
      → suc t < r + w
      → (others h).released (suc t) ≡ false
      → after (others h) t ≤ (others h).done (suc t)
  pub blocked : (t : ℕ) → r ≤ t → t < r + w → l.goes t ≡ false → (h : ℕ) × (h < count) × Blocks (marks h) l (others h) t
