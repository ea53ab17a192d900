-- One flow's turn in a slot that has its releases, and the flows that go. Leans on States, on the grant set of nodes and the view of
-- plans.
use Rattle.std.specs.Prelude.{ℕ, ◌<◌, ◌≡◌, Bool, true, false, cond, not, ◌&&◌, Option, Some, None, List, ltb, length, get_or}
use Rattle.trade.specs.Limits.{most_flows}
use Rattle.trade.specs.Bytes.{bit}
use Rattle.trade.specs.Facts.{Facts}
use Rattle.trade.specs.Slot.{State, granted, among, next_step}
use Rattle.trade.specs.declared.node.Transmission.{Transmission}
use Rattle.nodes.specs.Network.{Within}
use Rattle.nodes.specs.Grants.{clashes_with, Grown}
use Rattle.nodes.specs.declared.grants.GrantSet.{GrantSet}
use Rattle.plans.specs.Plan.{no_step, plan_step}
use Rattle.slot.specs.States.{none_due}
use Rattle.slot.specs.declared.choice.Turn.{Turn}
use Rattle.slot.specs.declared.choice.Choice.{Choice}

-- the next step of a flow, read through the view of its plan
unfoldable pub next_of : List ℕ → Turn → Transmission
next_of steps turn = plan_step steps turn.start turn.len turn.done.0

-- it goes: it is unfinished, and its next step clashes with no grant already made
unfoldable pub goes_now : List ℕ → List ℕ → Turn → GrantSet → Bool
goes_now rows steps turn set = ltb turn.done.0 turn.len && not (clashes_with rows set (next_of steps turn))

-- what a turn asks: while the flow is unfinished, its next step stays in the network
abbrev pub Turning : List ℕ → List ℕ → Turn → Type 0
Turning rows steps turn = turn.done.0 < turn.len → Within rows (next_of steps turn)

-- what a turn does: a flow that goes sends its next step and adds it to the set; another sends nothing and leaves the set as it was
pub record Turned (rows steps : List ℕ) (turn : Turn) (set : GrantSet) (r : Option Transmission) (left : GrantSet) : Type 0 where
  pub sends : r ≡ cond (goes_now rows steps turn set) (Some (next_of steps turn)) None
  pub waits : goes_now rows steps turn set ≡ false → left ≡ set
  pub more : goes_now rows steps turn set ≡ true → Grown rows set (next_of steps turn) left

-- what is sent from a place; nothing past the last place
unfoldable pub sent_at : List Transmission → ℕ → Transmission
sent_at sent i = get_or sent i no_step

-- what `chosen` owes: a flow's place is in the set exactly if the flow is granted, and then its next step is what it sends
pub record Chooses (f : Facts) (s : State) (r : Choice) : Type 0 where
  pub goes : (i : ℕ) → bit r.places i ≡ among (granted f none_due s) i
  pub size : length r.sent ≡ most_flows
  pub sends : (i : ℕ) → sent_at r.sent i ≡ cond (among (granted f none_due s) i) (next_step f none_due s i) no_step
