-- What is read from a run area. Leans on the slot's States, and on the trade's Area.
use Rattle.std.specs.Prelude.{ℕ, ◌<◌, ◌≡◌, List, length}
use Rattle.trade.specs.Limits.{most_flows}
use Rattle.trade.specs.Area.{state_in}
use Rattle.trade.specs.declared.state.Run.{Run}
use Rattle.slot.specs.States.{place_of}

-- a run that is read from an area: its slot, and the byte of each place
pub record HeldIn (area : List ℕ) (r : Run) : Type 0 where
  pub slot : r.slot.0 ≡ (state_in area).slot
  pub size : length r.flows ≡ most_flows
  pub places : (i : ℕ) → i < most_flows → place_of r.flows i ≡ (state_in area).done i
