-- The run area: the slot to run next in 4 bytes, then a byte for each flow place, the steps done by its latest instance.
-- Leans on Bytes and Slot.
use Rattle.std.specs.Prelude.{ℕ, ◌+◌, cond, List, ◌++◌, ltb}
use Rattle.trade.specs.Limits.{most_flows, slot_bytes}
use Rattle.trade.specs.First.{list_to}
use Rattle.trade.specs.Bytes.{byte, long, four_bytes}
use Rattle.trade.specs.Slot.{State}

-- the run that an area holds
unfoldable pub state_in : List ℕ → State
state_in area = record { slot = long area 0; done = λ i. byte area (slot_bytes + i) }

-- the area that holds a run of so many flows: unused places are 0
unfoldable pub area_of : ℕ → State → List ℕ
area_of flows s = four_bytes s.slot ++ list_to (λ i. cond (ltb i flows) (s.done i) 0) most_flows
