-- Codes 1 to 8, 14, 15 and 13: when each is given, and with which number. Code 9 stands with the bound, 10 to 12 behind the slot, 17 with
-- the figures. Leans on Layout, Facts, Table and Answers.
use Rattle.std.specs.Prelude.{ℕ, ◌+◌, ◌-◌, ◌*◌, ◌%◌, Bool, not, ◌&&◌, ◌||◌, List, eqb, leb, ltb, length}
use Rattle.trade.specs.Limits.{most_nodes, most_flows, most_steps, most_id, most_phase, most_period, row_bytes, record_bytes, trailer_bytes, mark}
use Rattle.trade.specs.First.{some}
use Rattle.trade.specs.Bytes.{byte}
use Rattle.trade.specs.Layout.{trailer, rows_distance, records_distance, steps_distance, node_count, flow_count, sections_of}
use Rattle.trade.specs.Table.{steps_distance_of}
use Rattle.trade.specs.Facts.{Facts, first_step, all_steps}
use Rattle.trade.specs.Answers.{given, given_first}
use Rattle.trade.specs.declared.answer.Answer.{Answer}
use Rattle.trade.specs.declared.node.Transmission.{Transmission}

-- a number outside a range
unfoldable pub outside : ℕ → ℕ → ℕ → Bool
outside low high v = ltb v low || ltb high v

-- 1: slice under 10 bytes
unfoldable pub code1 : List ℕ → Answer
code1 slice = given 1 (ltb (length slice) trailer_bytes) 0

-- 2: the final two bytes are not 46 42
unfoldable pub code2 : List ℕ → Answer
code2 slice = given 2 (not (eqb (byte (trailer slice) 8) (byte mark 0) && eqb (byte (trailer slice) 9) (byte mark 1))) 0

-- 3: n is 0 or above 64, or m above 32
unfoldable pub code3 : Facts → Answer
code3 f = given 3 (outside 1 most_nodes f.nodes || outside 0 most_flows f.flows) 0

-- 4: rows minus records distance is not 8n; records minus steps distance is not 10m; steps distance under 10 or odd; rows distance
-- exceeds the slice
unfoldable pub code4 : List ℕ → Answer
code4 slice =
    given 4
    (not (eqb (rows_distance slice) (records_distance slice + row_bytes * node_count slice))
    || not (eqb (records_distance slice) (steps_distance slice + record_bytes * flow_count slice))
    || ltb (steps_distance slice) trailer_bytes
    || eqb (steps_distance slice % 2) 1
    || ltb (length slice) (rows_distance slice))
    0

-- 5: a row has its own bit or a bit at or above n; the first such row
unfoldable pub bad_row : Facts → ℕ → Bool
bad_row f x = some (λ y. f.disturbs x y && (eqb y x || leb f.nodes y)) (8 * row_bytes)

unfoldable pub code5 : Facts → Answer
code5 f = given_first 5 (bad_row f) f.nodes

-- 6: id 0 or that of an earlier record, or a field outside its range; the first such record
unfoldable pub bad_record : Facts → ℕ → Bool
bad_record f i =
    outside 1 most_id (f.id i)
    || some (λ j. eqb (f.id j) (f.id i)) i
    || outside 0 most_phase (f.phase i)
    || outside 1 most_period (f.period i)
    || outside 1 (f.period i) (f.deadline i)
    || outside 1 most_steps (f.len i)

unfoldable pub code6 : Facts → Answer
code6 f = given_first 6 (bad_record f) f.flows

-- 7: steps distance disagrees with the sum of L
unfoldable pub code7 : List ℕ → Answer
code7 slice = given 7 (not (eqb (steps_distance slice) (steps_distance_of (sections_of slice)))) 0

-- 8: sender or receiver at or above n, or equal; or a step, not first of its plan, that neither repeats the step before nor starts
-- at its receiver; the first such step, counted over all plans
unfoldable pub first_of_plan : Facts → ℕ → Bool
first_of_plan f k = some (λ i. eqb (first_step f i) k) f.flows

unfoldable pub repeats : Transmission → Transmission → Bool
repeats t before = eqb t.sender.0 before.sender.0 && eqb t.receiver.0 before.receiver.0

unfoldable pub goes_on : Transmission → Transmission → Bool
goes_on t before = eqb t.sender.0 before.receiver.0

unfoldable pub bad_step : Facts → ℕ → Bool
bad_step f k =
    let t : Transmission = f.step k in
    let before : Transmission = f.step (k - 1) in
    leb f.nodes t.sender.0
    || leb f.nodes t.receiver.0
    || eqb t.sender.0 t.receiver.0
    || not (first_of_plan f k) && not (repeats t before || goes_on t before)

unfoldable pub code8 : Facts → Answer
code8 f = given_first 8 (bad_step f) (all_steps f)

-- 14: adding when m is 32
unfoldable pub code14 : Facts → Answer
code14 f = given 14 (eqb f.flows most_flows) 0

-- 15: place above m on adding, or at or above m on removing
unfoldable pub code15_adding : Facts → ℕ → Answer
code15_adding f place = given 15 (ltb f.flows place) 0

unfoldable pub code15_removing : Facts → ℕ → Answer
code15_removing f place = given 15 (leb f.flows place) 0

-- 13: lent memory too short: a buffer under what the call needs of it
unfoldable pub code13 : ℕ → List ℕ → Answer
code13 needed memory = given 13 (ltb (length memory) needed) 0
