-- The numbers that bound the planner, each by its one name. The contract of `all_limits` ties each to the associated constant that
-- stands beside what it limits in the code. Leans on nothing.
use Rattle.std.specs.Prelude.{ℕ, ◌+◌, List, [], ◌∷◌}
use Rattle.trade.specs.declared.limits.Limits.{Limits}

-- nodes 1 to 64, numbered from 0
abbrev pub most_nodes : ℕ
most_nodes = 64

-- flows 0 to 32
abbrev pub most_flows : ℕ
most_flows = 32

-- plan length 1 to 32 steps
abbrev pub most_steps : ℕ
most_steps = 32

-- flow id 1 to 65,535
abbrev pub most_id : ℕ
most_id = 65535

-- phase 0 to 60,000
abbrev pub most_phase : ℕ
most_phase = 60000

-- period 1 to 60,000 slots; a deadline is 1 to the period
abbrev pub most_period : ℕ
most_period = 60000

-- slots run from 0 to 3,999,999,999
abbrev pub last_slot : ℕ
last_slot = 3999999999

-- the slot that is past the clock's end: 4,000,000,000
abbrev pub end_of_clock : ℕ
end_of_clock = last_slot + 1

-- a row has 8 bytes, a record 10, a step 2, the trailer 10
abbrev pub row_bytes : ℕ
row_bytes = 8

abbrev pub record_bytes : ℕ
record_bytes = 10

abbrev pub step_bytes : ℕ
step_bytes = 2

abbrev pub trailer_bytes : ℕ
trailer_bytes = 10

-- a book ends with the two bytes 46 42 ("FB")
abbrev pub mark : List ℕ
mark = 0x46 ∷ 0x42 ∷ []

-- the run area: the slot in 4 bytes, then a byte for each flow place, 36 in all
abbrev pub slot_bytes : ℕ
slot_bytes = 4

abbrev pub area_bytes : ℕ
area_bytes = slot_bytes + most_flows

-- a grant has 9 bytes
abbrev pub grant_bytes : ℕ
grant_bytes = 9

-- the answer to C is code × 65,536 plus the number
abbrev pub packing : ℕ
packing = 65536

-- the figures, all together, for the contract of `all_limits`
abbrev pub limits_of : Limits
limits_of =
    record {
      nodes = most_nodes;
      flows = most_flows;
      steps = most_steps;
      id = most_id;
      phase = most_phase;
      period = most_period;
      last_slot = last_slot;
      row_bytes = row_bytes;
      record_bytes = record_bytes;
      step_bytes = step_bytes;
      trailer_bytes = trailer_bytes;
      slot_bytes = slot_bytes;
      area_bytes = area_bytes;
      grant_bytes = grant_bytes;
      packing = packing;
      mark = mark;
    }
