-- What is told of a flow, by the parts that the code has of it. Leans on the trade's Why, and on the slot's Choice.
use Rattle.std.specs.Prelude.{ℕ, ◌≤◌, ◌≡◌, Bool, true, false, cond, Result, Ok, Err, List, leb, length}
use Rattle.trade.specs.Limits.{most_flows}
use Rattle.trade.specs.Bytes.{bit}
use Rattle.trade.specs.Facts.{Facts}
use Rattle.trade.specs.Answers.{refused, is_done}
use Rattle.trade.specs.Refusals.{answer_of}
use Rattle.trade.specs.Slot.{Releases, releases_of}
use Rattle.trade.specs.Area.{state_in}
use Rattle.trade.specs.Why.{why}
use Rattle.trade.specs.declared.node.Transmission.{Transmission}
use Rattle.trade.specs.declared.refusal.Refusal.{Refusal}
use Rattle.trade.specs.declared.told.Told.{Told}
use Rattle.trade.specs.declared.told.Told.TheVariants.{Refused}
use Rattle.nodes.specs.Network.{Within}
use Rattle.slot.specs.Choice.{sent_at}
use Rattle.slot.specs.declared.choice.Choice.{Choice}
use Rattle.run.specs.Calls.{slot_answer}

-- what is asked about: a step in the network, and above the place only steps in it that are sent
pub record Blockers (rows : List ℕ) (choice : Choice) (step : Transmission) (place : ℕ) : Type 0 where
  pub places : place ≤ most_flows
  pub sent : length choice.sent ≡ most_flows
  pub asked : Within rows step
  pub sends : (h : ℕ) → bit choice.places h ≡ true → Within rows (sent_at choice.sent h)

-- the releases have been made, and the first of every flow has come or has not
abbrev pub begun_by : Bool → Releases
begun_by begun = record { due = λ i. false; instance = λ i. 0; begun = λ i. begun }

-- codes 10, 12 and 11 on the run that an area holds, then 15; then what is told of the flow at a place
unfoldable pub told_in : Facts → List ℕ → ℕ → Told
told_in f area place =
    cond (is_done (slot_answer f area))
    (cond (leb f.flows place) (Refused (refused 15 0)) (why f (releases_of f (state_in area)) (state_in area) place))
    (Refused (slot_answer f area))

-- what is told, or that the call is refused
abbrev pub told_of : Result Told Refusal → Told
told_of (Ok told) = told
told_of (Err refusal) = Refused (answer_of refusal)

abbrev pub ToldIn : Facts → List ℕ → ℕ → Result Told Refusal → Type 0
ToldIn f area place r = told_of r ≡ told_in f area place
