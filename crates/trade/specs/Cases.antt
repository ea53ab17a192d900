-- The worked cases of the rules, in their order and under their numbers, in one table. The books stand here as bytes. Three of the cases
-- are run and not proved: 8, 12 and 13, by the program `cases` and by the host's program of that name, on the proved code and on an
-- independent scheduler. Lines of our own are in Pins. Leans on Calls and all below it.
use Rattle.std.specs.Prelude.{ℕ, zero, suc, ◌*◌, ◌<◌, ◌≡◌, Bool, true, false, ◌&&◌, List, [], ◌∷◌, eqb, length, get_or, set, replicate}
use Rattle.trade.specs.Limits.{most_flows, area_bytes, grant_bytes, end_of_clock}
use Rattle.trade.specs.Layout.{Sections, flow_count, sections_of}
use Rattle.trade.specs.Facts.{Facts, said}
use Rattle.trade.specs.Table.{trailer_of, book_of, table_of}
use Rattle.trade.specs.Answers.{done, refused}
use Rattle.trade.specs.Conflict.{conflict}
use Rattle.trade.specs.Interference.{matrix, worst_path, interference}
use Rattle.trade.specs.Bound.{Measure, by_interference}
use Rattle.trade.specs.Calls.{check_by, check_of, start_of, advance_of, Advanced}
use Rattle.trade.specs.declared.answer.Answer.{Answer}
use Rattle.trade.specs.declared.node.Transmission.{Transmission}

-- BOOK A: six nodes; x disturbs y when they differ by 1. Flow 7: phase 0, P 10, D 10, plan 0-1, 1-2, 2-3. Flow 9: phase 0, P 12, D 12,
-- plan 5-4, 4-3, 3-2
unfoldable pub book_a : List ℕ
book_a =
    0x02 ∷ 0x00 ∷ 0x00 ∷ 0x00 ∷ 0x00 ∷ 0x00 ∷ 0x00 ∷ 0x00
    ∷ 0x05 ∷ 0x00 ∷ 0x00 ∷ 0x00 ∷ 0x00 ∷ 0x00 ∷ 0x00 ∷ 0x00
    ∷ 0x0a ∷ 0x00 ∷ 0x00 ∷ 0x00 ∷ 0x00 ∷ 0x00 ∷ 0x00 ∷ 0x00
    ∷ 0x14 ∷ 0x00 ∷ 0x00 ∷ 0x00 ∷ 0x00 ∷ 0x00 ∷ 0x00 ∷ 0x00
    ∷ 0x28 ∷ 0x00 ∷ 0x00 ∷ 0x00 ∷ 0x00 ∷ 0x00 ∷ 0x00 ∷ 0x00
    ∷ 0x10 ∷ 0x00 ∷ 0x00 ∷ 0x00 ∷ 0x00 ∷ 0x00 ∷ 0x00 ∷ 0x00
    ∷ 0x00 ∷ 0x07 ∷ 0x00 ∷ 0x00 ∷ 0x00 ∷ 0x0a ∷ 0x00 ∷ 0x0a ∷ 0x00 ∷ 0x03
    ∷ 0x00 ∷ 0x09 ∷ 0x00 ∷ 0x00 ∷ 0x00 ∷ 0x0c ∷ 0x00 ∷ 0x0c ∷ 0x00 ∷ 0x03
    ∷ 0x00 ∷ 0x01 ∷ 0x01 ∷ 0x02 ∷ 0x02 ∷ 0x03 ∷ 0x05 ∷ 0x04 ∷ 0x04 ∷ 0x03 ∷ 0x03 ∷ 0x02
    ∷ 0x00 ∷ 0x5a ∷ 0x00 ∷ 0x2a ∷ 0x00 ∷ 0x16 ∷ 0x06 ∷ 0x02 ∷ 0x46 ∷ 0x42
    ∷ []

-- BOOK B: five nodes, neighbours disturb. Flow 1: phase 0, P 20, D 5, plan 0-1 five times. Flow 2: phase 0, P 10, D 10, plan 1-2.
-- Flow 3: phase 5, P 20, D 7, plan 3-4 five times
unfoldable pub book_b : List ℕ
book_b =
    0x02 ∷ 0x00 ∷ 0x00 ∷ 0x00 ∷ 0x00 ∷ 0x00 ∷ 0x00 ∷ 0x00
    ∷ 0x05 ∷ 0x00 ∷ 0x00 ∷ 0x00 ∷ 0x00 ∷ 0x00 ∷ 0x00 ∷ 0x00
    ∷ 0x0a ∷ 0x00 ∷ 0x00 ∷ 0x00 ∷ 0x00 ∷ 0x00 ∷ 0x00 ∷ 0x00
    ∷ 0x14 ∷ 0x00 ∷ 0x00 ∷ 0x00 ∷ 0x00 ∷ 0x00 ∷ 0x00 ∷ 0x00
    ∷ 0x08 ∷ 0x00 ∷ 0x00 ∷ 0x00 ∷ 0x00 ∷ 0x00 ∷ 0x00 ∷ 0x00
    ∷ 0x00 ∷ 0x01 ∷ 0x00 ∷ 0x00 ∷ 0x00 ∷ 0x14 ∷ 0x00 ∷ 0x05 ∷ 0x00 ∷ 0x05
    ∷ 0x00 ∷ 0x02 ∷ 0x00 ∷ 0x00 ∷ 0x00 ∷ 0x0a ∷ 0x00 ∷ 0x0a ∷ 0x00 ∷ 0x01
    ∷ 0x00 ∷ 0x03 ∷ 0x00 ∷ 0x05 ∷ 0x00 ∷ 0x14 ∷ 0x00 ∷ 0x07 ∷ 0x00 ∷ 0x05
    ∷ 0x00 ∷ 0x01 ∷ 0x00 ∷ 0x01 ∷ 0x00 ∷ 0x01 ∷ 0x00 ∷ 0x01 ∷ 0x00 ∷ 0x01 ∷ 0x01 ∷ 0x02 ∷ 0x03 ∷ 0x04 ∷ 0x03 ∷ 0x04 ∷ 0x03 ∷ 0x04 ∷ 0x03 ∷ 0x04 ∷ 0x03 ∷ 0x04
    ∷ 0x00 ∷ 0x66 ∷ 0x00 ∷ 0x3e ∷ 0x00 ∷ 0x20 ∷ 0x05 ∷ 0x03 ∷ 0x46 ∷ 0x42
    ∷ []

-- one node, no flows
unfoldable pub book_of_none : List ℕ
book_of_none =
    0x00 ∷ 0x00 ∷ 0x00 ∷ 0x00 ∷ 0x00 ∷ 0x00 ∷ 0x00 ∷ 0x00
    ∷ 0x00 ∷ 0x12 ∷ 0x00 ∷ 0x0a ∷ 0x00 ∷ 0x0a ∷ 0x01 ∷ 0x00 ∷ 0x46 ∷ 0x42
    ∷ []

-- a book with the low byte of a deadline changed; where that byte stands for flow 9 of book A and flow 3 of book B
unfoldable pub deadline_at : ℕ → ℕ → List ℕ → List ℕ
deadline_at byte_at d book = set book byte_at d

abbrev pub deadline_of9 : ℕ
deadline_of9 = 65

abbrev pub deadline_of3 : ℕ
deadline_of3 = 67

-- memory lent full of 0xee
unfoldable pub lent : ℕ → List ℕ
lent count = replicate count 0xee

-- room for a book's grants
unfoldable pub grant_room : List ℕ → List ℕ
grant_room book = lent (grant_bytes * flow_count book)

-- the area after k slots of a book from start, and what the slot after those answers and leaves
unfoldable pub area_after : List ℕ → ℕ → List ℕ
area_after book zero = (start_of (record { book = book; area = lent area_bytes })).area
area_after book (suc k) = (advance_of (record { book = book; area = area_after book k; grants = grant_room book })).area

unfoldable pub slot_of : List ℕ → ℕ → Advanced
slot_of book k = advance_of (record { book = book; area = area_after book k; grants = grant_room book })

-- A to B
abbrev pub sends : ℕ → ℕ → Transmission
sends a b = record { sender = record { 0 = a }; receiver = record { 0 = b } }

-- a disturbance by one node of one other, and by none of any
unfoldable pub one_disturbs : ℕ → ℕ → ℕ → ℕ → Bool
one_disturbs a b x y = eqb a x && eqb b y

unfoldable pub none_disturbs : ℕ → ℕ → Bool
none_disturbs x y = false

-- the bare matrix of the slides: six steps of h; l's four rows have marks at columns 4, 5; 1 to 5; 1 to 4; 0
unfoldable pub bare_rows : List (List ℕ)
bare_rows = (0 ∷ 0 ∷ 0 ∷ 0 ∷ 1 ∷ 1 ∷ []) ∷ (0 ∷ 1 ∷ 1 ∷ 1 ∷ 1 ∷ 1 ∷ []) ∷ (0 ∷ 1 ∷ 1 ∷ 1 ∷ 1 ∷ 0 ∷ []) ∷ (1 ∷ 0 ∷ 0 ∷ 0 ∷ 0 ∷ 0 ∷ []) ∷ []

unfoldable pub bare : ℕ → ℕ → Bool
bare i j = eqb (get_or (get_or bare_rows i []) j 0) 1

-- the marks of three rows and three columns, row by row
unfoldable pub three_by_three : (ℕ → ℕ → Bool) → List Bool
three_by_three m = m 0 0 ∷ m 0 1 ∷ m 0 2 ∷ m 1 0 ∷ m 1 1 ∷ m 1 2 ∷ m 2 0 ∷ m 2 1 ∷ m 2 2 ∷ []

-- the formula of the slides counts ceil(R / P) instances of a flow above, as if none were carried in: a carry of 1 adds nothing
abbrev pub by_slides : Facts → Measure
by_slides f = by_interference f (λ h. 1)

-- what check answers to a book
unfoldable pub checks : List ℕ → Answer
checks book = (check_of book).answer

-- book A's table
unfoldable pub table_a : Sections
table_a = table_of (sections_of book_a)

pub record Cases : Type 0 where
  -- 1. the trailer of book A, which is 90 bytes long; it is written as it was read
  pub case1 : trailer_of (sections_of book_a) ≡ 0x00 ∷ 0x5a ∷ 0x00 ∷ 0x2a ∷ 0x00 ∷ 0x16 ∷ 0x06 ∷ 0x02 ∷ 0x46 ∷ 0x42 ∷ []
  pub case1_length : length book_a ≡ 90
  pub case1_written : book_of table_a ≡ book_a
  -- 2. I(9,7) = 2; the conflicts are 4-3 with 2-3, 3-2 with 1-2, 3-2 with 2-3
  pub case2 : interference (said book_a) 1 0 ≡ 2
  pub case2_conflicts : three_by_three (matrix (said book_a) 1 0) ≡ false ∷ false ∷ false ∷ false ∷ false ∷ true ∷ false ∷ true ∷ true ∷ []
  -- 3. bounds 3 and 5, zeros elsewhere
  pub case3 : check_of book_a ≡ record { answer = done 0; bounds = 3 ∷ 5 ∷ replicate 30 0 }
  -- 4. D of flow 9 set to 5: accepted; set to 4: code 9, flow 1, and all zeros
  pub case4_accepted : checks (deadline_at deadline_of9 5 book_a) ≡ done 0
  pub case4_refused : check_of (deadline_at deadline_of9 4 book_a) ≡ record { answer = refused 9 1; bounds = replicate most_flows 0 }
  -- 5. slot 2 grants flow 7 only (its step 2, 2-3); slot 3 grants flow 9, step 2 (3-2)
  pub case5_slot2 :
      slot_of book_a 2
      ≡ record {
        answer = done 1;
        area = 0 ∷ 0 ∷ 0 ∷ 3 ∷ 3 ∷ 2 ∷ replicate 30 0;
        grants = 0 ∷ 7 ∷ 0 ∷ 0 ∷ 0 ∷ 0 ∷ 2 ∷ 2 ∷ 3 ∷ lent grant_bytes;
      }
  pub case5_slot3 :
      slot_of book_a 3
      ≡ record {
        answer = done 1;
        area = 0 ∷ 0 ∷ 0 ∷ 4 ∷ 3 ∷ 3 ∷ replicate 30 0;
        grants = 0 ∷ 9 ∷ 0 ∷ 0 ∷ 0 ∷ 0 ∷ 2 ∷ 3 ∷ 2 ∷ lent grant_bytes;
      }
  -- 6. bounds 5, 6, 7
  pub case6 : check_of book_b ≡ record { answer = done 0; bounds = 5 ∷ 6 ∷ 7 ∷ replicate 29 0 }
  -- 7. D of flow 3 set to 6: code 9, flow 2. The formula of the slides would give 6, and so accept it
  pub case7 : checks (deadline_at deadline_of3 6 book_b) ≡ refused 9 2
  pub case7_slides : check_by by_slides (deadline_at deadline_of3 6 book_b) ≡ record { answer = done 0; bounds = 5 ∷ 6 ∷ 6 ∷ replicate 29 0 }
  -- 8. the run of book B, slots 5 to 11: run, as the listing of B in `cases`
  -- 9. the bare matrix: I = 5
  pub case9 : worst_path bare 4 6 ≡ 5
  -- 10. 0-1 and 2-3: free with no disturbance; in conflict if 2 disturbs 1; in conflict if only 1 disturbs 2
  pub case10_free : conflict none_disturbs (sends 0 1) (sends 2 3) ≡ false
  pub case10_conflict : conflict (one_disturbs 2 1) (sends 0 1) (sends 2 3) ≡ true
  pub case10_acknowledged : conflict (one_disturbs 1 2) (sends 0 1) (sends 2 3) ≡ true
  -- 11. one node, no flows: 18 bytes, accepted, every slot empty: started, each slot of the clock is done with no grant. And whatever
  -- area and buffer are lent, an advance that is done counts no grant and leaves the buffer as lent
  pub case11_length : length book_of_none ≡ 18
  pub case11_accepted : checks book_of_none ≡ done 0
  pub case11_started : (start_of (record { book = book_of_none; area = lent area_bytes })).answer ≡ done 0
  pub case11_slots : (k : ℕ) → k < end_of_clock → (slot_of book_of_none k).answer ≡ done 0
  pub case11_empty :
      (area grants : List ℕ)
      → let a : Advanced = advance_of (record { book = book_of_none; area = area; grants = grants }) in
      a.answer.code ≡ 0
      → (a.answer.number ≡ 0) × (a.grants ≡ grants)
  -- 12. n 64 and m 32 pass code 3, 65 and 33 do not; P 60,000 passes, 60,001 gives 6: run, as "n most", "m most" and "P most" in `cases`
  -- 13. slot 3,999,999,999 runs, and the next advance gives 12: run, as "last slot" and "past the last slot" in `cases`. Of both, Pins has
  -- lines of the definitions too
