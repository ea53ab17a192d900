-- A run under a rule of waiting, flow by flow, and what is promised of it in the words of the trade's Slot: for any rule, and for
-- whatever is due in each slot. Leans on Course and Window.
use Rattle.std.specs.Prelude.{ℕ, suc, ◌+◌, ◌*◌, ◌≤◌, ◌<◌, ◌≡◌, true, false, ◌||◌}
use Rattle.trade.specs.Facts.{Facts}
use Rattle.trade.specs.Interference.{Matrix}
use Rattle.trade.specs.Bound.{Measure}
use Rattle.trade.specs.Slot.{State, Releases, done_now, Waits, granted_by, among, run_by}
use Rattle.response.specs.Course.{Course}
use Rattle.response.specs.Window.{Potential}

-- the course of flow l
unfoldable pub course_of : Waits → Facts → (ℕ → Releases) → ℕ → Course
course_of waits f releases l =
    record {
      len = f.len l;
      done = λ t. done_now (releases t) (run_by waits f releases t) l;
      goes = λ t. among (granted_by waits f (releases t) (run_by waits f releases t)) l;
      released = λ t. (releases t).due l;
    }

-- a measure covers a rule of waiting: in any slot an unfinished flow that is not granted is blocked by a granted flow above it, the
-- steps of the two marked against each other; and what an instance costs is the top of a potential for these marks
pub record Covers (waits : Waits) (f : Facts) (μ : Measure) : Type 0 where
  pub marks : ℕ → ℕ → Matrix
  pub blocked :
      (r : Releases) (s : State) (l : ℕ)
      → l < f.flows
      → done_now r s l < f.len l
      → among (granted_by waits f r s) l ≡ false
      → (h : ℕ) × (h < l) × (among (granted_by waits f r s) h ≡ true) × (marks l h (done_now r s l) (done_now r s h) ≡ true)
  pub potential : ℕ → ℕ → ℕ → ℕ → ℕ
  pub pays : (l h : ℕ) → l < f.flows → h < l → Potential (marks l h) (f.len l) (f.len h) (μ.cost l h) (potential l h)

-- the releases of flow l come in order: it has begun once it was released, and the number of its latest instance changes only at a
-- release, and there rises unless the release is the first
pub record InOrder (releases : ℕ → Releases) (l : ℕ) : Type 0 where
  pub begins : (t : ℕ) → (releases (suc t)).begun l ≡ ((releases t).begun l || (releases t).due l)
  pub stays : (t : ℕ) → (releases (suc t)).due l ≡ false → (releases (suc t)).instance l ≡ (releases t).instance l
  pub rises :
      (t : ℕ)
      → (releases (suc t)).due l ≡ true
      → (releases (suc t)).begun l ≡ true
      → (releases t).instance l < (releases (suc t)).instance l

-- instance v of flow l is released at its first release + v × P
abbrev pub release_at : Facts → (ℕ → ℕ) → ℕ → ℕ → ℕ
release_at f firsts l v = firsts l + v * f.period l

-- step k of instance v of flow l is granted in slot t
pub record RunGranted (waits : Waits) (f : Facts) (releases : ℕ → Releases) (l v k t : ℕ) : Type 0 where
  pub goes : among (granted_by waits f (releases t) (run_by waits f releases t)) l ≡ true
  pub step : done_now (releases t) (run_by waits f releases t) l ≡ k
  pub instance : (releases t).instance l ≡ v

-- the steps of the instance of flow l that is released in slot r are granted within R slots: each in a slot of its own, in order
pub record RunKept (waits : Waits) (f : Facts) (releases : ℕ → Releases) (l r R : ℕ) : Type 0 where
  pub slot : ℕ → ℕ
  pub granted : (k : ℕ) → k < f.len l → RunGranted waits f releases l ((releases r).instance l) k (slot k)
  pub released : (k : ℕ) → k < f.len l → r ≤ slot k
  pub within : (k : ℕ) → k < f.len l → slot k < r + R
  pub ordered : (k n : ℕ) → k < n → n < f.len l → slot k < slot n

-- a grant of flow l in slot t is due: its instance is released, and the earlier steps of that instance were granted since its
-- release
pub record RunDue (waits : Waits) (f : Facts) (releases : ℕ → Releases) (l t : ℕ) : Type 0 where
  pub release : ℕ
  pub released : (releases release).due l ≡ true
  pub past : release ≤ t
  pub next :
      (k : ℕ)
      → k < done_now (releases t) (run_by waits f releases t) l
      → (u : ℕ) × (release ≤ u) × (u < t) × RunGranted waits f releases l ((releases t).instance l) k u
