-- What a book or a table says, as functions of indices. The rules read nothing else. Leans on Layout, First and Bytes.
use Rattle.std.specs.Prelude.{ℕ, ◌+◌, ◌*◌, ◌/◌, ◌%◌, Bool, List}
use Rattle.trade.specs.Limits.{row_bytes, step_bytes}
use Rattle.trade.specs.First.{sum_to}
use Rattle.trade.specs.Bytes.{byte, bit}
use Rattle.trade.specs.Layout.{Sections, sections, sections_of, field}
use Rattle.trade.specs.declared.flow.Flow.{Flow}
use Rattle.trade.specs.declared.node.Transmission.{Transmission}

-- n and m; whether node x disturbs node y; each flow's id, phase, period P, deadline D and plan length L; and the steps of all
-- plans in flow order, counted from 0
pub record Facts : Type 0 where
  pub nodes : ℕ
  pub flows : ℕ
  pub disturbs : ℕ → ℕ → Bool
  pub id : ℕ → ℕ
  pub phase : ℕ → ℕ
  pub period : ℕ → ℕ
  pub deadline : ℕ → ℕ
  pub len : ℕ → ℕ
  pub step : ℕ → Transmission

-- in row x, node y is bit y mod 8 of byte y div 8; set means that x disturbs y
unfoldable pub disturbs_in : List ℕ → ℕ → ℕ → Bool
disturbs_in rows x y = bit (byte rows (row_bytes * x + y / 8)) (y % 8)

-- a step is a sender and a receiver, a byte each
unfoldable pub step_in : List ℕ → ℕ → Transmission
step_in steps k =
    record {
      sender = record { 0 = byte steps (step_bytes * k) };
      receiver = record { 0 = byte steps (step_bytes * k + 1) };
    }

unfoldable pub facts_of : Sections → Facts
facts_of s =
    record {
      nodes = s.nodes;
      flows = s.flows;
      disturbs = disturbs_in s.rows;
      id = λ i. field s.records i 0;
      phase = λ i. field s.records i 1;
      period = λ i. field s.records i 2;
      deadline = λ i. field s.records i 3;
      len = λ i. field s.records i 4;
      step = step_in s.steps;
    }

-- what counts and sections say, for code that has them apart
abbrev pub facts_in : ℕ → ℕ → List ℕ → List ℕ → List ℕ → Facts
facts_in n m rows records steps = facts_of (sections n m rows records steps)

-- record i as a flow, for code that reads a record at once
unfoldable pub flow_in : List ℕ → ℕ → Flow
flow_in records i =
    record {
      id = field records i 0;
      phase = field records i 1;
      period = field records i 2;
      deadline = field records i 3;
      len = field records i 4;
    }

-- what a slice says
unfoldable pub said : List ℕ → Facts
said slice = facts_of (sections_of slice)

-- where plan i starts among the steps of all plans: the plans stand in flow order with no gap
unfoldable pub first_step : Facts → ℕ → ℕ
first_step f i = sum_to f.len i

-- the sum of all L
unfoldable pub all_steps : Facts → ℕ
all_steps f = first_step f f.flows

-- step j of plan i
unfoldable pub step_of : Facts → ℕ → ℕ → Transmission
step_of f i j = f.step (first_step f i + j)
