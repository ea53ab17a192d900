-- A run about to start. Leans on the slot's States.
use Rattle.std.specs.Prelude.{ℕ, ◌≤◌, ◌<◌, ◌≡◌, List}
use Rattle.trade.specs.Layout.{field}
use Rattle.trade.specs.declared.state.Run.{Run}
use Rattle.slot.specs.States.{place_of}

-- a run about to run slot 0: the place of each flow is its L, and any other place is 0
pub record Idle (flows : ℕ) (records : List ℕ) (r : Run) : Type 0 where
  pub slot : r.slot.0 ≡ 0
  pub places : (i : ℕ) → i < flows → place_of r.flows i ≡ field records i 4
  pub others : (i : ℕ) → flows ≤ i → place_of r.flows i ≡ 0
