-- Lines of our own, in one table: each shuts out a near miss of a definition that the worked cases leave open. Leans on Cases and all
-- below it.
use Rattle.std.specs.Prelude.{ℕ, suc, ◌-◌, ◌*◌, ◌^◌, ◌≡◌, Bool, true, false, List, [], ◌∷◌, ◌++◌, map, length, take, drop, set, replicate}
use Rattle.trade.specs.Limits.{most_flows, most_steps, most_period, row_bytes, step_bytes, grant_bytes}
use Rattle.trade.specs.First.{list_to}
use Rattle.trade.specs.Bytes.{Bytes, four_bytes}
use Rattle.trade.specs.Layout.{Sections, sections, sections_of}
use Rattle.trade.specs.Facts.{disturbs_in, facts_of, facts_in, flow_in, said}
use Rattle.trade.specs.Table.{book_of, table_of, empty_table}
use Rattle.trade.specs.Answers.{done, refused}
use Rattle.trade.specs.Conflict.{conflict, conflicts_with}
use Rattle.trade.specs.Bound.{instances, by_deadline}
use Rattle.trade.specs.Slot.{Releases, periodic, releases_of, grants_of}
use Rattle.trade.specs.Area.{state_in}
use Rattle.trade.specs.Codes.{code3, code6}
use Rattle.trade.specs.SlotCodes.{code10}
use Rattle.trade.specs.Kept.{Tabled, kept_by_deadline}
use Rattle.trade.specs.Calls.{Adding, read_of, check_of, check_by, check_kept_of, check_kept_by, write_of, add_of, add_by, remove_of, start_of, start_by, advance_of, record_of}
use Rattle.trade.specs.Why.{answer_of, ask_of}
use Rattle.trade.specs.Cases.{book_a, book_b, table_a, deadline_at, deadline_of9, lent, slot_of, sends, one_disturbs, none_disturbs, checks}
use Rattle.trade.specs.declared.answer.Answer.{Answer}
use Rattle.trade.specs.declared.flow.Flow.{Flow}
use Rattle.trade.specs.declared.told.Told.{Told}
use Rattle.trade.specs.declared.told.Told.TheVariants.{Refused, NotReleased, Finished, Granted, WaitingOn}

-- where the low byte of flow 7's deadline stands in book A
abbrev pub deadline_of7 : ℕ
deadline_of7 = 55

-- book A with another period of flow 7, and its deadline the same number
unfoldable pub period_of7 : ℕ → List ℕ
period_of7 period = set (set book_a (deadline_of7 - 2) period) deadline_of7 period

-- book A with faults: at each named byte, one that the code named with it refuses
unfoldable pub no_mark : List ℕ → List ℕ
no_mark book = set book 89 0x43

unfoldable pub no_nodes : List ℕ → List ℕ
no_nodes book = set book 86 0

unfoldable pub bad_distance : List ℕ → List ℕ
bad_distance book = set book 81 0x5b

unfoldable pub own_bit : List ℕ → List ℕ
own_bit book = set book 16 0x0e

unfoldable pub no_id : List ℕ → List ℕ
no_id book = set book 59 0

unfoldable pub longer_plan : List ℕ → List ℕ
longer_plan book = set book 67 4

unfoldable pub jump : List ℕ → List ℕ
jump book = set book 72 4

unfoldable pub too_tight : List ℕ → List ℕ
too_tight book = deadline_at deadline_of9 4 book

-- book A behind a byte, with the low bytes of its three distances
unfoldable pub distances : ℕ → ℕ → ℕ → List ℕ
distances rows records steps = 0xee ∷ set (set (set book_a 81 rows) 83 records) 85 steps

-- book A with another step 2, behind 1-2
unfoldable pub step_two : ℕ → ℕ → List ℕ
step_two sender receiver = set (set book_a 72 sender) 73 receiver

-- the trailer of a book of six nodes and one flow of three steps
unfoldable pub trailer_of_three : List ℕ
trailer_of_three = 0x00 ∷ 0x4a ∷ 0x00 ∷ 0x1a ∷ 0x00 ∷ 0x10 ∷ 0x06 ∷ 0x01 ∷ 0x46 ∷ 0x42 ∷ []

-- a flow with an id, phase, period, deadline and plan length; and with phase 0, period and deadline alike
abbrev pub flow_with : ℕ → ℕ → ℕ → ℕ → ℕ → Flow
flow_with id phase period deadline len = record { id = id; phase = phase; period = period; deadline = deadline; len = len }

abbrev pub flow_of : ℕ → ℕ → ℕ → Flow
flow_of id period len = flow_with id 0 period period len

-- what code 3 says of two counts, and code 6 of one record
unfoldable pub counted : ℕ → ℕ → Answer
counted n m = code3 (facts_in n m [] [] [])

unfoldable pub recorded : Flow → Answer
recorded flow = code6 (facts_in 2 1 [] (record_of flow) [])

-- what start answers to a book and an area, advance to an area and a buffer with book A
unfoldable pub starts : List ℕ → ℕ → Answer
starts book room = (start_of (record { book = book; area = lent room })).answer

unfoldable pub advances : List ℕ → ℕ → Answer
advances area room = (advance_of (record { book = book_a; area = area; grants = lent room })).answer

-- an area: a slot, the bytes of book A's two flows, and the byte of the first unused place
unfoldable pub area_with : ℕ → ℕ → ℕ → ℕ → List ℕ
area_with slot one two three = four_bytes slot ++ (one ∷ two ∷ three ∷ replicate 29 0)

-- what code 10 says of an area for the first flow of book A alone: the second place is unused, though a record stands there
unfoldable pub of_one : Sections
of_one = record { nodes = table_a.nodes; flows = 1; rows = table_a.rows; records = table_a.records; steps = table_a.steps }

unfoldable pub formed_of_one : List ℕ → Answer
formed_of_one area = code10 (facts_of of_one) (releases_of (facts_of of_one) (state_in area)) (state_in area)

-- a table of flows 1, 2 and so on, which each send 0-1 once in a period
unfoldable pub alike : ℕ → ℕ → ℕ → Sections
alike nodes flows period =
    table_of
    (record {
      nodes = nodes;
      flows = flows;
      rows = replicate (row_bytes * nodes) 0;
      records = grants_of (λ i. record_of (flow_of (suc i) period 1)) (list_to (λ i. i) flows);
      steps = grants_of (λ i. 0 ∷ 1 ∷ []) (list_to (λ i. i) flows);
    })

-- a book of three flows over one link: P 6, 10 and 20, D 1, 5 and 20, L 1, 4 and 1
unfoldable pub book_of3 : List ℕ
book_of3 =
    book_of
    (sections 2 3 (replicate 16 0) (record_of (flow_with 1 0 6 1 1) ++ record_of (flow_with 2 0 10 5 4) ++ record_of (flow_with 3 0 20 20 1))
    (0 ∷ 1 ∷ 0 ∷ 1 ∷ 0 ∷ 1 ∷ 0 ∷ 1 ∷ 0 ∷ 1 ∷ 0 ∷ 1 ∷ []))

-- a book of more flows than nodes, the last of which sends 2-1; and a table that is full
unfoldable pub book_of4 : List ℕ
book_of4 = set (book_of (alike 3 4 10)) 70 2

unfoldable pub full_table : Sections
full_table = alike 2 most_flows most_period

-- sections with these figures; with one figure alone, of flow 1 and flow 0; and book A's table, whose figure is 2
abbrev pub with_figures : Sections → List ℕ → Tabled
with_figures t figures = record { sections = t; figures = figures }

unfoldable pub one_figure : ℕ → List ℕ
one_figure figure = replicate 32 0 ++ (figure ∷ replicate 991 0)

unfoldable pub kept_a : Tabled
kept_a = with_figures table_a (one_figure 2)

-- a newcomer behind the flows of book A, with D of flow 9 at 6
unfoldable pub behind_a : Adding
behind_a =
    record {
      table = with_figures (sections_of (deadline_at deadline_of9 6 book_a)) (one_figure 2);
      place = 2;
      flow = flow_of 1 50 1;
      plan = 0 ∷ 1 ∷ [];
    }

-- the full table with all its figures, 1 each, and 1 at every other place too
unfoldable pub full_kept : Tabled
full_kept = with_figures full_table (replicate 1024 1)

-- what check answers to a table
unfoldable pub checks_kept : Tabled → Answer
checks_kept table = (check_kept_of table).answer

-- whether A to B and C to D conflict, and whether 0 to 6 does with one of them, where nobody disturbs
unfoldable pub meets : ℕ → ℕ → ℕ → ℕ → Bool
meets a b c d = conflict none_disturbs (sends a b) (sends c d)

unfoldable pub blocked : ℕ → ℕ → ℕ → ℕ → Bool
blocked a b c d = conflicts_with none_disturbs (sends a b ∷ sends c d ∷ []) (sends 0 6)

-- whether 0 to 1 and 2 to 3 conflict where only one node disturbs, and only one other
unfoldable pub disturbed : ℕ → ℕ → Bool
disturbed a b = conflict (one_disturbs a b) (sends 0 1) (sends 2 3)

-- what is due in a slot of book B, and whether flow 3 is
unfoldable pub releases_at : ℕ → Releases
releases_at slot = periodic (said book_b) (said book_b).phase slot

unfoldable pub due : ℕ → Bool
due slot = (releases_at slot).due 2

-- what the calls on a table answer
unfoldable pub adds : Tabled → ℕ → Flow → List ℕ → Answer
adds table place flow plan = (add_of (record { table = table; place = place; flow = flow; plan = plan ++ replicate (step_bytes * most_steps - length plan) 0 })).answer

unfoldable pub removes : Tabled → ℕ → Answer
removes table place = (remove_of (record { table = table; place = place })).answer

unfoldable pub writes : Sections → ℕ → Answer
writes table room = (write_of (record { table = table; buffer = lent room })).answer

-- a table with other steps
unfoldable pub with_steps : Sections → List ℕ → Sections
with_steps t steps = record { nodes = t.nodes; flows = t.flows; rows = t.rows; records = t.records; steps = steps }

-- five flows of one step, 0-1, 1-2, 2-3, 2-3 and 1-2, of nodes that disturb nobody; and its area before slot 0
unfoldable pub book_of5 : List ℕ
book_of5 = book_of (with_steps (alike 4 5 10) (0 ∷ 1 ∷ 1 ∷ 2 ∷ 2 ∷ 3 ∷ 2 ∷ 3 ∷ 1 ∷ 2 ∷ []))

unfoldable pub area_of5 : List ℕ
area_of5 = replicate 4 0 ++ (replicate 5 1 ++ replicate 27 0)

-- what is told of a place, and of the first few
unfoldable pub told : List ℕ → List ℕ → ℕ → Told
told book area place = ask_of (record { book = book; area = area; place = place })

unfoldable pub told_of : ℕ → List ℕ → List ℕ → List Told
told_of count book area = map (told book area) (list_to (λ i. i) count)

pub record Pins : Type 0 where
  -- THE BOOK. 255 is a byte; in row 1, node 17 is bit 1 of byte 2; a record's five fields; a table has room for 64 rows of 8 bytes, 32
  -- records of 10, and 32 plans of 32 steps of 2
  pub byte_255 : Bytes (0xff ∷ [])
  pub bit_17 : disturbs_in (replicate 10 0 ++ (0x02 ∷ [])) 1 17 ≡ true
  pub fields : flow_in (sections_of book_b).records 0 ∷ flow_in (sections_of book_b).records 2 ∷ [] ≡ flow_with 1 0 20 5 5 ∷ flow_with 3 5 20 7 5 ∷ []
  pub rooms : length empty_table.rows ∷ length empty_table.records ∷ length empty_table.steps ∷ [] ≡ 512 ∷ 320 ∷ 2048 ∷ []
  -- EACH CLAUSE OF A CODE BY ITSELF. 1: ten bytes pass it; 2: either byte of the mark; 3: both ends of both counts
  pub ten_bytes : checks (drop 80 book_a) ≡ refused 4 0
  pub mark_first : checks (set book_a 88 0x45) ≡ refused 2 0
  pub mark_second : checks (set book_a 89 0x41) ≡ refused 2 0
  pub counts :
      counted 1 0 ∷ counted 64 32 ∷ counted 0 0 ∷ counted 65 0 ∷ counted 1 33 ∷ []
      ≡ done 0 ∷ done 0 ∷ refused 3 0 ∷ refused 3 0 ∷ refused 3 0 ∷ []
  -- 4: the rows too far and too near, the records too far and too near, the steps under 10 and odd, the rows past the slice
  pub framed : checks (distances 0x5a 0x2a 0x16) ≡ done 0
  pub not_framed :
      checks (distances 0x5b 0x2a 0x16)
      ∷ checks (distances 0x59 0x2a 0x16)
      ∷ checks (distances 0x5b 0x2b 0x16)
      ∷ checks (distances 0x59 0x29 0x16)
      ∷ checks (distances 0x4c 0x1c 0x08)
      ∷ checks (distances 0x59 0x29 0x15)
      ∷ checks (distances 0x5c 0x2c 0x18)
      ∷ []
      ≡ replicate 7 (refused 4 0)
  -- 5: bit n in row 5, the last bit in row 0. 6: the ends of each range, and past them. 7: a plan one step shorter
  pub bit_at_n : checks (set book_a 40 0x50) ≡ refused 5 5
  pub last_bit : checks (set book_a 7 0x80) ≡ refused 5 0
  pub in_range : recorded (flow_with 1 0 1 1 1) ∷ recorded (flow_with 65535 60000 60000 60000 32) ∷ [] ≡ replicate 2 (done 0)
  pub out_of_range :
      recorded (flow_with 0 0 1 1 1)
      ∷ recorded (flow_with 1 60001 1 1 1)
      ∷ recorded (flow_with 1 0 60001 1 1)
      ∷ recorded (flow_with 1 0 2 0 1)
      ∷ recorded (flow_with 1 0 2 3 1)
      ∷ recorded (flow_with 1 0 1 1 0)
      ∷ recorded (flow_with 1 0 1 1 33)
      ∷ []
      ≡ replicate 7 (refused 6 0)
  pub shorter_plan : checks (set book_a 67 2) ≡ refused 7 0
  -- 8: sender at n, receiver at n, both the same; a step that has only its sender, or only its receiver, from the step before
  pub sender_at_n : checks (set book_a 74 6) ≡ refused 8 3
  pub receiver_at_n : checks (set book_a 79 6) ≡ refused 8 5
  pub to_itself : checks (set book_a 75 5) ≡ refused 8 3
  pub sender_alone : checks (step_two 1 0) ≡ refused 8 2
  pub receiver_alone : checks (step_two 0 2) ≡ refused 8 2
  -- 10: a place above its L; an unused one that is not 0; a flow that was not released before the slot and is not idle: of an area in which
  -- flow 9 has one step left, slot 0 is refused, slot 1 is not
  pub above_len : advances (area_with 1 4 3 0) 18 ≡ refused 10 0
  pub unused_place : formed_of_one (area_with 1 3 3 0) ≡ refused 10 1
  pub used_place : formed_of_one (area_with 1 3 0 0) ≡ done 0
  pub not_begun : advances (area_with 0 3 2 0) 18 ≡ refused 10 1
  pub begun : advances (area_with 1 3 2 0) 18 ≡ done 1
  pub last_place : advances (set (area_with 1 3 3 0) 35 1) 18 ≡ refused 10 31
  -- 10, 12: the slot past the end of the clock, the end, and the last slot
  pub past_the_end : advances (area_with 4000000001 3 3 0) 18 ≡ refused 10 0
  pub at_the_end : advances (area_with 4000000000 3 3 0) 18 ≡ refused 12 0
  pub last_slot : advances (area_with 3999999999 3 3 0) 18 ≡ done 0
  -- TWO FAULTS EACH: the code that is tested first is given, with its number. In a book
  pub order_1_2 : checks (drop 81 (no_mark book_a)) ≡ refused 1 0
  pub order_2_3 : checks (no_mark (no_nodes book_a)) ≡ refused 2 0
  pub order_3_4 : checks (no_nodes (bad_distance book_a)) ≡ refused 3 0
  pub order_4_5 : checks (bad_distance (own_bit book_a)) ≡ refused 4 0
  pub order_5_6 : checks (own_bit (no_id book_a)) ≡ refused 5 2
  pub order_6_7 : checks (no_id (longer_plan book_a)) ≡ refused 6 1
  pub order_7_8 : checks (longer_plan (jump book_a)) ≡ refused 7 0
  pub order_8_9 : checks (jump (too_tight book_a)) ≡ refused 8 2
  pub order_9_13 : starts (too_tight book_a) 35 ≡ refused 9 1
  pub order_13 : starts book_a 35 ≡ refused 13 0
  -- in a table, whose sections are those of a faulty book
  pub order_table_3_5 : writes (sections_of (set (own_bit book_a) 86 65)) 0 ≡ refused 3 0
  pub order_table_5_6 : writes (sections_of (own_bit (no_id book_a))) 0 ≡ refused 5 2
  pub order_table_6_8 : writes (sections_of (no_id (jump book_a))) 0 ≡ refused 6 1
  pub order_8_13 : writes (sections_of (jump book_a)) 89 ≡ refused 8 2
  -- in a run
  pub order_8_short : (advance_of (record { book = jump book_a; area = []; grants = [] })).answer ≡ refused 8 2
  pub order_short_area : advances (take 35 (area_with 4000000001 9 9 9)) 18 ≡ refused 13 0
  pub order_13_10 : advances (area_with 4000000001 9 9 9) 17 ≡ refused 13 0
  pub order_10_slot : advances (area_with 4000000001 9 9 9) 18 ≡ refused 10 0
  pub order_10_12 : advances (area_with 4000000000 3 3 1) 18 ≡ refused 10 2
  pub order_12_11 : advances (area_with 4000000000 1 1 0) 18 ≡ refused 12 0
  -- on adding and removing
  pub order_8_14 : adds (with_figures (with_steps full_table (set full_table.steps 3 0)) []) 33 (flow_of 1 10 1) [] ≡ refused 8 1
  pub order_14_15 : adds full_kept 33 (flow_of 1 10 1) [] ≡ refused 14 0
  pub order_15_6 : adds kept_a 3 (flow_of 0 10 1) [] ≡ refused 15 0
  pub order_6_8 : adds kept_a 2 (flow_of 7 10 1) [] ≡ refused 6 2
  pub order_later_id : adds kept_a 0 (flow_of 9 10 1) (0 ∷ 1 ∷ []) ≡ refused 6 2
  pub order_8_9_adding : adds kept_a 0 (flow_of 1 10 11) [] ≡ refused 8 0
  pub order_8_adding : adds kept_a 1 (flow_of 1 1 1) (2 ∷ 2 ∷ []) ≡ refused 8 3
  pub order_9_adding : adds kept_a 0 (flow_of 1 6 6) (0 ∷ 1 ∷ 0 ∷ 1 ∷ 0 ∷ 1 ∷ 0 ∷ 1 ∷ 0 ∷ 1 ∷ 0 ∷ 1 ∷ []) ≡ refused 9 1
  pub order_6_15 : removes (with_figures (sections_of (no_id book_a)) []) 2 ≡ refused 6 1
  -- 17, with the first l that has a wrong figure: of the full table those of flows 3 and 5, of book A one that is too small and one that is too
  -- large; a figure at h = l, or of an unused l, is not asked for
  pub wrong_figure : removes (with_figures table_a (one_figure 1)) 0 ∷ removes (with_figures table_a (one_figure 3)) 0 ∷ [] ≡ refused 17 1 ∷ refused 17 1 ∷ []
  pub wrong_line_lem : adds (with_figures full_table (set (set (replicate 1024 1) 98 0) 160 2)) 33 (flow_of 1 10 1) [] ≡ refused 17 3
  pub not_asked_for : removes (with_figures table_a (set (set (one_figure 2) 33 9) 64 9)) 2 ≡ refused 15 0
  pub order_8_17 : removes (with_figures (sections_of (jump book_a)) (one_figure 1)) 2 ≡ refused 8 2
  pub order_17_14 : adds (with_figures full_table (replicate 1024 0)) 33 (flow_of 1 10 1) [] ≡ refused 17 1
  pub order_17_15 : removes (with_figures table_a (one_figure 1)) 2 ≡ refused 17 1
  -- a table is checked by its figures as they stand: with 3 in place of 2 flow 9 of book A has the bound 6, with 1 the bound 4, with 30 none
  pub kept_right : check_kept_of kept_a ≡ record { answer = done 0; bounds = 3 ∷ 5 ∷ replicate 30 0 }
  pub kept_larger : check_kept_of (with_figures table_a (one_figure 3)) ≡ record { answer = done 0; bounds = 3 ∷ 6 ∷ replicate 30 0 }
  pub kept_smaller : check_kept_of (with_figures table_a (one_figure 1)) ≡ record { answer = done 0; bounds = 3 ∷ 4 ∷ replicate 30 0 }
  pub kept_refused : check_kept_of (with_figures table_a (one_figure 30)) ≡ record { answer = refused 9 1; bounds = replicate most_flows 0 }
  pub kept_order : checks_kept (with_figures (sections_of (jump book_a)) (one_figure 30)) ∷ checks_kept (with_figures (sections_of (no_id (jump book_a))) []) ∷ [] ≡ refused 8 2 ∷ refused 6 1 ∷ []
  -- WHAT A CALL LEAVES, done and refused: behind what it writes, lent memory stays as it was
  pub read_done : read_of book_a ≡ record { answer = done 0; table = kept_a }
  pub read_refused : read_of (no_id book_a) ≡ record { answer = refused 6 1; table = with_figures empty_table (replicate 1024 0) }
  pub write_done : write_of (record { table = table_a; buffer = lent 92 }) ≡ record { answer = done 90; buffer = book_a ++ lent 2 }
  pub write_refused : write_of (record { table = table_a; buffer = lent 89 }) ≡ record { answer = refused 13 0; buffer = lent 89 }
  pub add_refused :
      add_of (record { table = kept_a; place = 3; flow = flow_of 1 10 1; plan = [] }) ≡ record { answer = refused 15 0; table = kept_a }
  pub remove_refused : remove_of (record { table = kept_a; place = 2 }) ≡ record { answer = refused 15 0; table = kept_a }
  pub start_done : start_of (record { book = book_a; area = lent 38 }) ≡ record { answer = done 0; area = area_with 0 3 3 0 ++ lent 2 }
  pub start_refused : start_of (record { book = too_tight book_a; area = lent 38 }) ≡ record { answer = refused 9 1; area = lent 38 }
  pub advance_done :
      advance_of (record { book = book_a; area = area_with 2 2 2 0 ++ lent 2; grants = lent 20 })
      ≡ record { answer = done 1; area = area_with 3 3 2 0 ++ lent 2; grants = 0 ∷ 7 ∷ 0 ∷ 0 ∷ 0 ∷ 0 ∷ 2 ∷ 2 ∷ 3 ∷ lent 11 }
  pub advance_refused :
      advance_of (record { book = book_a; area = area_with 60 3 2 0; grants = lent 20 })
      ≡ record { answer = refused 11 1; area = area_with 60 3 2 0; grants = lent 20 }
  -- WHAT THE CALLS DO. A flow comes in with its record and the L steps of its plan, between flows 7 and 9
  pub added :
      book_of (add_of (record { table = kept_a; place = 1; flow = flow_with 1 2 60 50 1; plan = 0 ∷ 1 ∷ replicate 62 9 })).table.sections
      ≡ take 58 book_a
      ++ (0 ∷ 1 ∷ 0 ∷ 2 ∷ 0 ∷ 60 ∷ 0 ∷ 50 ∷ 0 ∷ 1 ∷ [])
      ++ take 10 (drop 58 book_a)
      ++ take 6 (drop 68 book_a)
      ++ (0 ∷ 1 ∷ [])
      ++ take 6 (drop 74 book_a)
      ++ (0x00 ∷ 0x66 ∷ 0x00 ∷ 0x36 ∷ 0x00 ∷ 0x18 ∷ 0x06 ∷ 0x03 ∷ 0x46 ∷ 0x42 ∷ [])
  -- a flow goes with its record and its steps, and no other: book A without flow 7, and without flow 9
  pub removed_first : book_of (remove_of (record { table = kept_a; place = 0 })).table.sections ≡ take 48 book_a ++ take 10 (drop 58 book_a) ++ take 6 (drop 74 book_a) ++ trailer_of_three
  pub removed_last : book_of (remove_of (record { table = kept_a; place = 1 })).table.sections ≡ take 58 book_a ++ take 6 (drop 68 book_a) ++ trailer_of_three
  -- the figures go with the flows. A flow that sends 4-3 once comes in between flows 7 and 9 of book A: flow 7 costs it 1, and it costs flow 9
  -- 1; taken out again, the figures are those of before, and whatever stood at other places is zero
  pub added_figures :
      take 128 (add_of (record { table = kept_a; place = 1; flow = flow_with 1 2 60 50 1; plan = 4 ∷ 3 ∷ replicate 62 9 })).table.figures
      ≡ replicate 32 0 ++ (1 ∷ replicate 31 0) ++ (2 ∷ 1 ∷ replicate 62 0)
  pub figures_again :
      (remove_of
      (record {
        table = (add_of (record { table = with_figures table_a (set (set (one_figure 2) 33 9) 64 9); place = 1; flow = flow_with 1 2 60 50 1; plan = 4 ∷ 3 ∷ replicate 62 9 })).table;
        place = 1;
      })
      ).table.figures
      ≡ one_figure 2
  pub removed_figures : (remove_of (record { table = with_figures table_a (set (set (one_figure 2) 33 9) 64 9); place = 1 })).table.figures ≡ replicate 1024 0
  -- two transmissions that share a node, in each of the six ways, conflict; a third waits for either of two
  pub shared_node :
      meets 0 0 2 3 ∷ meets 0 1 2 2 ∷ meets 0 1 0 3 ∷ meets 0 1 2 0 ∷ meets 0 1 1 3 ∷ meets 0 1 2 1 ∷ []
      ≡ replicate 6 true
  pub either_grant : blocked 0 1 2 3 ∷ blocked 2 3 0 1 ∷ blocked 2 3 4 5 ∷ [] ≡ true ∷ true ∷ false ∷ []
  -- 0-1 and 2-3 conflict if a sender disturbs the other's receiver, or a receiver the other's sender, each of the four ways alone; two
  -- senders may disturb each other, and so may two receivers
  pub each_way : disturbed 2 1 ∷ disturbed 0 3 ∷ disturbed 3 0 ∷ disturbed 1 2 ∷ [] ≡ replicate 4 true
  pub like_to_like : disturbed 0 2 ∷ disturbed 2 0 ∷ disturbed 1 3 ∷ disturbed 3 1 ∷ [] ≡ replicate 4 false
  -- P and D of flow 7 set to 7: bounds 3 and 5, where ceil((R + R_h) / P_h) would give 7; set to 6: 3 and 7, where ceil(R / P_h) would give 5
  pub carry_no_longer : (check_of (period_of7 7)).bounds ≡ 3 ∷ 5 ∷ replicate 30 0
  pub carry_no_shorter : (check_of (period_of7 6)).bounds ≡ 3 ∷ 7 ∷ replicate 30 0
  -- each flow above is carried in up to its own bound: with that of the flow just above for all, or the largest, the last would have more
  pub own_carry : (check_of book_of3).bounds ≡ 1 ∷ 5 ∷ 6 ∷ replicate 29 0
  -- BY THE DEADLINE COUNT flow 9 of book A has the bound 7, and with D of flow 7 at 7; at 6 it has the bound 5. With 1 in place of 2 for its
  -- figure it has the bound 5. With its D at 6 it keeps a newcomer out that comes in by the fair count,
  -- and a run from being started. Each flow above is carried in up to its own deadline
  pub deadline_count : check_by by_deadline book_a ≡ record { answer = done 0; bounds = 3 ∷ 7 ∷ replicate 30 0 }
  pub deadline_no_shorter : (check_by by_deadline (deadline_at deadline_of7 7 book_a)).bounds ≡ 3 ∷ 7 ∷ replicate 30 0
  pub deadline_no_longer : (check_by by_deadline (deadline_at deadline_of7 6 book_a)).bounds ≡ 3 ∷ 5 ∷ replicate 30 0
  pub deadline_kept : (check_kept_by kept_by_deadline (with_figures table_a (one_figure 1))).bounds ≡ 3 ∷ 5 ∷ replicate 30 0
  pub deadline_starting :
      (start_by by_deadline (record { book = deadline_at deadline_of9 6 book_a; area = lent 36 })).answer
      ∷ (start_of (record { book = deadline_at deadline_of9 6 book_a; area = lent 36 })).answer
      ∷ []
      ≡ refused 9 1 ∷ done 0 ∷ []
  pub own_deadline : (check_by by_deadline book_of3).bounds ≡ 1 ∷ 5 ∷ 6 ∷ replicate 29 0
  pub deadline_adding : (add_by by_deadline behind_a).answer ∷ (add_of behind_a).answer ∷ [] ≡ refused 9 1 ∷ done 0 ∷ []
  -- of a flow above with P 10 that is carried in for 5 slots, one instance counts in 6 slots, and two in 7
  pub one_instance : instances 6 5 10 ≡ 1
  pub two_instances : instances 7 5 10 ≡ 2
  -- flow 3 of book B is released in slots 5 and 25, and not in slots 0, 4, 6, 12 and 20; its latest instance is 0 in slot 24 and 1 in slot
  -- 25, and it has begun from slot 6 on
  pub releases :
      due 0 ∷ due 4 ∷ due 5 ∷ due 6 ∷ due 12 ∷ due 20 ∷ due 25 ∷ []
      ≡ false ∷ false ∷ true ∷ false ∷ false ∷ false ∷ true ∷ []
  pub latest : (releases_at 24).instance 2 ∷ (releases_at 25).instance 2 ∷ [] ≡ 0 ∷ 1 ∷ []
  pub begins : (releases_at 5).begun 2 ∷ (releases_at 6).begun 2 ∷ [] ≡ false ∷ true ∷ []
  -- flow 7 of book A goes again in slot 10, its second instance, with its number
  pub later_slot : take grant_bytes (slot_of book_a 10).grants ≡ 0 ∷ 7 ∷ 0 ∷ 0 ∷ 0 ∷ 1 ∷ 0 ∷ 0 ∷ 1 ∷ []
  -- four flows of three nodes: each has its bound, its place and its slot; D of flow 4 set to 3: code 9, flow 3; released while it is
  -- unfinished: code 11, flow 3
  pub four_bounds : check_of book_of4 ≡ record { answer = done 0; bounds = 1 ∷ 2 ∷ 3 ∷ 4 ∷ replicate 28 0 }
  pub four_tight : checks (set book_of4 61 3) ≡ refused 9 3
  pub four_slot :
      slot_of book_of4 3
      ≡ record {
        answer = done 1;
        area = 0 ∷ 0 ∷ 0 ∷ 4 ∷ 1 ∷ 1 ∷ 1 ∷ 1 ∷ replicate 28 0;
        grants = 0 ∷ 4 ∷ 0 ∷ 0 ∷ 0 ∷ 0 ∷ 0 ∷ 2 ∷ 1 ∷ lent 27;
      }
  pub four_late : (advance_of (record { book = book_of4; area = 0 ∷ 0 ∷ 0 ∷ 10 ∷ 1 ∷ 1 ∷ 1 ∷ 0 ∷ replicate 28 0; grants = lent 36 })).answer ≡ refused 11 3
  -- WHY A FLOW IS SILENT. In slot 0 of book B flow 1 goes, since a first release may go in that very slot; flow 2 waits on it; flow 3 is not
  -- released, though its byte is its L. In slot 5 flow 1 is finished, flow 2 goes, and flow 3, whose first release this is, waits on it
  pub told_first : told_of 3 book_b (area_with 0 5 1 5) ≡ Granted ∷ WaitingOn 0 ∷ NotReleased ∷ []
  pub told_before : told_of 3 book_b (area_with 4 4 0 5) ≡ Granted ∷ WaitingOn 0 ∷ NotReleased ∷ []
  pub told_released : told_of 3 book_b (area_with 5 5 0 5) ≡ Finished ∷ Granted ∷ WaitingOn 1 ∷ []
  pub told_after : told_of 3 book_b (area_with 6 5 1 0) ≡ Finished ∷ Finished ∷ Granted ∷ []
  -- of five flows the first and the third go; the fourth conflicts with the second too, which itself waits, and the last with both that go
  pub told_waiting : told_of 5 book_of5 area_of5 ≡ Granted ∷ WaitingOn 0 ∷ Granted ∷ WaitingOn 2 ∷ WaitingOn 0 ∷ []
  -- refused in the order of advance, then 15: a place at m, and the largest that code can hand over
  pub told_order_8 : told (jump book_a) [] 9 ≡ Refused (refused 8 2)
  pub told_order_13 : told book_a (take 35 (area_with 4000000001 9 9 9)) 9 ≡ Refused (refused 13 0)
  pub told_order_10 : told book_a (area_with 4000000000 3 3 1) 9 ≡ Refused (refused 10 2)
  pub told_order_12 : told book_a (area_with 4000000000 1 1 0) 9 ≡ Refused (refused 12 0)
  pub told_order_11 : told book_a (area_with 60 3 2 0) 9 ≡ Refused (refused 11 1)
  pub told_at_m : told book_a (area_with 2 2 2 0) 1 ∷ told book_a (area_with 2 2 2 0) 2 ∷ [] ≡ WaitingOn 0 ∷ Refused (refused 15 0) ∷ []
  pub told_far : told book_a (area_with 2 2 2 0) (2 ^ 64 - 1) ≡ Refused (refused 15 0)
  -- each in one answer
  pub told_numbers :
      map answer_of (Refused (refused 11 1) ∷ NotReleased ∷ Finished ∷ Granted ∷ WaitingOn 0 ∷ WaitingOn 31 ∷ [])
      ≡ refused 11 1 ∷ done 0 ∷ done 256 ∷ done 512 ∷ done 768 ∷ done 799 ∷ []
