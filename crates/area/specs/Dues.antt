-- What is due in a slot of a run. Leans on Refusals, on the slot's States, and on the trade's Slot.
use Rattle.std.specs.Prelude.{ℕ, ◌≤◌, ◌<◌, ◌≡◌, List, length}
use Rattle.trade.specs.Limits.{most_flows}
use Rattle.trade.specs.Facts.{Facts}
use Rattle.trade.specs.Slot.{Releases, periodic, releases_of, done_now}
use Rattle.trade.specs.Refusals.{tested}
use Rattle.trade.specs.declared.clock.Slot.{Slot}
use Rattle.trade.specs.declared.state.Run.{Run}
use Rattle.slot.specs.States.{place_of, state_of, slot_in}
use Rattle.area.specs.Refusals.{run_answer}
use Rattle.area.specs.declared.due.Due.{Due}

-- what is due in the slot of a run, by the first release of each flow
abbrev pub due_by : Facts → List Slot → Run → Releases
due_by f firsts run = periodic f (slot_in firsts) run.slot.0

-- the first releases of the flows of a book: their phases; slot 0 at other places
pub record FirstReleases (f : Facts) (r : List Slot) : Type 0 where
  pub size : length r ≡ most_flows
  pub phases : (i : ℕ) → i < f.flows → slot_in r i ≡ f.phase i
  pub others : (i : ℕ) → f.flows ≤ i → slot_in r i ≡ 0

-- a run after the releases of its slot: each flow's steps done are those after them, and other places stay
pub record AfterReleases (f : Facts) (run r : Run) : Type 0 where
  pub slot : r.slot.0 ≡ run.slot.0
  pub size : length r.flows ≡ length run.flows
  pub places : (i : ℕ) → i < f.flows → place_of r.flows i ≡ done_now (releases_of f (state_of run)) (state_of run) i
  pub others : (i : ℕ) → f.flows ≤ i → place_of r.flows i ≡ place_of run.flows i

-- what `due_in` owes: what codes 10, 12 and 11 say, the run after the releases, and the first releases
pub record IsDue (f : Facts) (run : Run) (r : Due) : Type 0 where
  pub answer : tested r.test ≡ run_answer f (releases_of f (state_of run)) (state_of run)
  pub after : AfterReleases f run r.run
  pub firsts : FirstReleases f r.firsts
