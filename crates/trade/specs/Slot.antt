-- One slot: releases, then the choice in record order. What is due in the slot and the rule of waiting are parameters: the periodic
-- releases from the phases on and the greedy rule, today. Leans on Facts, Conflict and Bytes.
use Rattle.std.specs.Prelude.{ℕ, zero, suc, ◌+◌, ◌-◌, ◌/◌, ◌%◌, Bool, false, cond, not, ◌&&◌, ◌||◌, List, [], ◌∷◌, ◌++◌, map, eqb, leb, ltb}
use Rattle.trade.specs.Bytes.{two_bytes, four_bytes}
use Rattle.trade.specs.Facts.{Facts, step_of}
use Rattle.trade.specs.Conflict.{conflicts_with}
use Rattle.trade.specs.Interference.{one}
use Rattle.trade.specs.declared.node.Transmission.{Transmission}

-- a run: the slot to run next, and the steps done by each flow's latest instance
pub record State : Type 0 where
  pub slot : ℕ
  pub done : ℕ → ℕ

-- a run starts at slot 0 with every flow idle: its steps done are its L
unfoldable pub at_start : Facts → State
at_start f = record { slot = 0; done = f.len }

-- what is due in a slot: of each flow, whether an instance is released in it, which instance is the latest, and whether one was
-- released before it
pub record Releases : Type 0 where
  pub due : ℕ → Bool
  pub instance : ℕ → ℕ
  pub begun : ℕ → Bool

-- instance v of flow i is released at its first release + v × P
unfoldable pub released : Facts → (ℕ → ℕ) → ℕ → ℕ → Bool
released f firsts slot i = leb (firsts i) slot && eqb ((slot - firsts i) % f.period i) 0

unfoldable pub instance_at : Facts → (ℕ → ℕ) → ℕ → ℕ → ℕ
instance_at f firsts slot i = (slot - firsts i) / f.period i

-- the periodic releases in a slot, by the first release of each flow
abbrev pub periodic : Facts → (ℕ → ℕ) → ℕ → Releases
periodic f firsts slot =
    record {
      due = released f firsts slot;
      instance = instance_at f firsts slot;
      begun = λ i. ltb (firsts i) slot;
    }

-- those of a run from a book: the first releases are the phases
abbrev pub releases_of : Facts → State → Releases
releases_of f s = periodic f f.phase s.slot

-- the steps done by flow i after the slot's releases: a release sets them to 0, and may go in that very slot
unfoldable pub done_now : Releases → State → ℕ → ℕ
done_now r s i = cond (r.due i) 0 (s.done i)

-- flow i is unfinished
unfoldable pub unfinished : Facts → Releases → State → ℕ → Bool
unfinished f r s i = ltb (done_now r s i) (f.len i)

-- the next step of flow i
unfoldable pub next_step : Facts → Releases → State → ℕ → Transmission
next_step f r s i = step_of f i (done_now r s i)

-- whether a flow waits in a slot, given which of the flows above it go
abbrev pub Rule : Type 0
Rule = List ℕ → ℕ → Bool

-- the flows that go, of the first k: unfinished flows are taken in record order, and one goes unless the rule has it wait
unfoldable pub going : Rule → (ℕ → Bool) → ℕ → List ℕ
going waits work zero = []
going waits work (suc k) =
    let above : List ℕ = going waits work k in
    cond (work k && not (waits above k)) (above ++ (k ∷ [])) above

-- a rule of waiting: that, for any facts, whatever is due in the slot and however far the flows are
abbrev pub Waits : Type 0
Waits = Facts → Releases → State → Rule

-- the greedy rule: a flow waits if its next step conflicts with a grant already made
unfoldable pub greedy : Waits
greedy f r s above i = conflicts_with f.disturbs (map (next_step f r s) above) (next_step f r s i)

-- the flows granted in a slot, in record order
unfoldable pub granted_by : Waits → Facts → Releases → State → List ℕ
granted_by waits f r s = going (waits f r s) (unfinished f r s) f.flows

-- those of the greedy rule; the contracts of a slot's code name this and the next state by it
abbrev pub granted : Facts → Releases → State → List ℕ
granted = granted_by greedy

-- a flow is among these
unfoldable pub among : List ℕ → ℕ → Bool
among [] i = false
among (h ∷ hs) i = eqb h i || among hs i

-- granted flows advance by one step, the slot by one
unfoldable pub next_state_by : Waits → Facts → Releases → State → State
next_state_by waits f r s =
    let goes : List ℕ = granted_by waits f r s in
    record { slot = suc s.slot; done = λ i. done_now r s i + one (among goes i) }

abbrev pub next_state : Facts → Releases → State → State
next_state = next_state_by greedy

-- the run from its start, over any number of slots, with what is due in each; the theorem about waiting speaks of it
unfoldable pub run_by : Waits → Facts → (ℕ → Releases) → ℕ → State
run_by waits f releases zero = at_start f
run_by waits f releases (suc k) = next_state_by waits f (releases k) (run_by waits f releases k)

-- a grant in its nine bytes: id (2), instance (4), step from 0 (1), sender, receiver
unfoldable pub grant_of : Facts → Releases → State → ℕ → List ℕ
grant_of f r s i =
    two_bytes (f.id i)
    ++ four_bytes (r.instance i)
    ++ (done_now r s i ∷ (next_step f r s i).sender.0 ∷ (next_step f r s i).receiver.0 ∷ [])

-- the grants of these flows, one after the other
unfoldable pub grants_of : (ℕ → List ℕ) → List ℕ → List ℕ
grants_of grant [] = []
grants_of grant (i ∷ is) = grant i ++ grants_of grant is
