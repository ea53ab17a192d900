-- The grants of the flows that go, and the run as it goes on. Leans on States, Release and Choice, and on the trade's Slot.
use Rattle.std.specs.Prelude.{ℕ, suc, ◌+◌, ◌*◌, ◌≤◌, ◌<◌, ◌≡◌, true, false, List, length, get_or}
use Rattle.trade.specs.Limits.{most_flows, most_steps, record_bytes, grant_bytes, last_slot}
use Rattle.trade.specs.Bytes.{bit, over}
use Rattle.trade.specs.Layout.{field}
use Rattle.trade.specs.Facts.{flow_in}
use Rattle.trade.specs.Interference.{one}
use Rattle.trade.specs.Run.{idle_of}
use Rattle.trade.specs.Slot.{going, grants_of}
use Rattle.trade.specs.declared.clock.Slot.{Slot}
use Rattle.trade.specs.declared.clock.Step.{Step}
use Rattle.trade.specs.declared.flow.Flow.{Flow}
use Rattle.trade.specs.declared.node.Transmission.{Transmission}
use Rattle.trade.specs.declared.state.Grant.{Grant}
use Rattle.trade.specs.declared.state.Run.{Run}
use Rattle.slot.specs.States.{place_of, bytes_of}
use Rattle.slot.specs.Release.{instance_by}
use Rattle.slot.specs.Choice.{sent_at}
use Rattle.slot.specs.declared.choice.Choice.{Choice}
use Rattle.slot.specs.declared.granting.Outcome.{Outcome}

-- the grant of a flow's next step
unfoldable pub grant_by : Flow → Slot → Slot → Step → Transmission → Grant
grant_by flow first slot done step =
    record {
      id = flow.id;
      instance = record { 0 = instance_by first.0 flow.period slot.0 };
      step = done;
      transmission = step;
    }

-- the grant of the flow at a place, in its nine bytes
unfoldable pub grant_for : List ℕ → List Slot → Run → Choice → ℕ → List ℕ
grant_for records firsts run choice i =
    bytes_of (grant_by (flow_in records i) (get_or firsts i (record { 0 = 0 })) run.slot (get_or run.flows i (idle_of 0)).done (sent_at choice.sent i))

-- the places below k that are in a set, in record order: of the flows in the set none waits
unfoldable pub places_in : ℕ → ℕ → List ℕ
places_in set k = going (λ above i. false) (bit set) k

-- what granting asks: the flows that go have their records, with a period, and are unfinished; the slot is one of the clock; and there
-- is room for the grants of all flows
pub record Granting (records : List ℕ) (run : Run) (choice : Choice) (room : ℕ) : Type 0 where
  pub places : choice.places < 4294967296
  pub recorded : (i : ℕ) → bit choice.places i ≡ true → record_bytes * i + record_bytes ≤ length records
  pub period : (i : ℕ) → bit choice.places i ≡ true → 0 < field records i 2
  pub unfinished : (i : ℕ) → bit choice.places i ≡ true → place_of run.flows i < most_steps
  pub sent : length choice.sent ≡ most_flows
  pub size : length run.flows ≡ most_flows
  pub slot : run.slot.0 ≤ last_slot
  pub grants : grant_bytes * length (places_in choice.places most_flows) ≤ room

-- what it does: the grants of these flows, in the buffer and in number; each of them one step on; and the slot is the next
pub record Grants (records : List ℕ) (firsts : List Slot) (run : Run) (choice : Choice) (lent : List ℕ) (r : Outcome) (left : List ℕ) : Type 0 where
  pub slot : r.run.slot.0 ≡ suc run.slot.0
  pub size : length r.run.flows ≡ length run.flows
  pub places : (i : ℕ) → place_of r.run.flows i ≡ place_of run.flows i + one (bit choice.places i)
  pub count : r.count ≡ length (places_in choice.places most_flows)
  pub grants : left ≡ over (grants_of (grant_for records firsts run choice) (places_in choice.places most_flows)) lent
