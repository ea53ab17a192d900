-- A run in memory as a state, and a grant as bytes. Leans on the trade's Slot and Area.
use Rattle.std.specs.Prelude.{ℕ, false, List, [], ◌∷◌, ◌++◌, get_or}
use Rattle.trade.specs.Bytes.{two_bytes, four_bytes}
use Rattle.trade.specs.Slot.{State, Releases}
use Rattle.trade.specs.declared.clock.Slot.{Slot}
use Rattle.trade.specs.Run.{idle_of}
use Rattle.trade.specs.declared.state.Grant.{Grant}
use Rattle.trade.specs.declared.state.Progress.{Progress}
use Rattle.trade.specs.declared.state.Run.{Run}

-- the steps done by the flow at a place; 0 past the last place
unfoldable pub place_of : List Progress → ℕ → ℕ
place_of places i = (get_or places i (idle_of 0)).done.0

-- a run as a state
unfoldable pub state_of : Run → State
state_of r = record { slot = r.slot.0; done = place_of r.flows }

-- the slots that a list holds; 0 past its end
unfoldable pub slot_in : List Slot → ℕ → ℕ
slot_in slots i = (get_or slots i (record { 0 = 0 })).0

-- releases that have been made: none is due any more
abbrev pub once_made : Releases → Releases
once_made r = record { due = λ i. false; instance = r.instance; begun = r.begun }

-- nothing is due, whatever was before
abbrev pub none_due : Releases
none_due = record { due = λ i. false; instance = λ i. 0; begun = λ i. false }

-- a grant in its nine bytes: id (2), instance (4), step (1), sender, receiver
unfoldable pub bytes_of : Grant → List ℕ
bytes_of g =
    two_bytes g.id
    ++ four_bytes g.instance.0
    ++ (g.step.0 ∷ g.transmission.sender.0 ∷ g.transmission.receiver.0 ∷ [])
