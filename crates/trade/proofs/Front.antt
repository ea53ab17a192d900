-- Bytes before the book bear on nothing: in front of a slice that passes codes 1 to 4, any bytes leave every call's answer, and all
-- that it returns or leaves in lent memory, the same. Leans on Whole. Assumes nothing.
use Prim.Native.Nat.{ℕ, ◌+◌, ◌-◌, ◌*◌, ◌≤◌}
use mathlib.Core.Path.{◌≡◌, refl, ap}
use mathlib.Core.List.{List, ◌++◌}
use native.Mathlib.Omega.{arith}
use lib.ListN.{length, take, drop, length-append}
use lib.Seq.{drop-append-add}
use borrow.Author.Tests.{le-ltb}
use Rattle.trade.specs.Limits.{row_bytes, record_bytes, trailer_bytes, grant_bytes}
use Rattle.trade.specs.Bytes.{part}
use Rattle.trade.specs.Layout.{trailer, rows_distance, records_distance, steps_distance, node_count, flow_count, sections_of}
use Rattle.trade.specs.Facts.{Facts, facts_of, said}
use Rattle.trade.specs.Answers.{no_number}
use Rattle.trade.specs.Slot.{State, Releases, Waits}
use Rattle.trade.specs.Area.{state_in}
use Rattle.trade.specs.Codes.{code1, code2, code3, code4, code5, code6, code7, code8, code13}
use Rattle.trade.specs.Bound.{Measure, code9_by}
use Rattle.trade.specs.SlotCodes.{code10, code11}
use Rattle.trade.specs.Calls.{Starting, Advancing, book_rules, read_answer, read_of, check_rules_by, check_answer_by, check_by, start_answer_by, start_by, flows_granted_by, advance_answer_by, next_area_by, grants_in_by, advance_by}
use Rattle.trade.proofs.Answers.{Same, same_none, same_more, same_append, same_on, first_of_same}
use Rattle.trade.proofs.Whole.{Framed}

-- the same place, counted back from the end
drop_front : (front b : List ℕ) (d : ℕ) → d ≤ length b → drop (length (front ++ b) - d) (front ++ b) ≡ drop (length b - d) b
drop_front front b d h =
    let e : length (front ++ b) - d ≡ length front + (length b - d) = omega (arith, length-append front b) in
    rw e (drop-append-add front b (length b - d))

module _ (front b : List ℕ) (f : Framed b) where
  trailer_front : trailer (front ++ b) ≡ trailer b
  unfolding trailer
  trailer_front = drop_front front b trailer_bytes f.trailer

  part_front : (d k : ℕ) → d ≤ length b → part (length (front ++ b) - d) k (front ++ b) ≡ part (length b - d) k b
  unfolding part
  part_front d k h = ap (take k) (drop_front front b d h)

  pub sections_front : sections_of (front ++ b) ≡ sections_of b
  unfolding sections_of rows_distance records_distance steps_distance node_count flow_count
  sections_front =
      rw (
        trailer_front,
        part_front (rows_distance b) (row_bytes * node_count b) f.rows,
        part_front (records_distance b) (record_bytes * flow_count b) f.records,
        part_front (steps_distance b) (steps_distance b - trailer_bytes) f.steps,
      )

  pub said_front : said (front ++ b) ≡ said b
  unfolding said
  said_front = ap facts_of sections_front

  longer : length b ≤ length (front ++ b)
  longer = omega (arith, length-append front b)

  code1_front : code1 (front ++ b) ≡ code1 b
  unfolding code1
  code1_front = rw (le-ltb (length (front ++ b)) trailer_bytes (omega (arith, longer, f.trailer)), le-ltb (length b) trailer_bytes f.trailer)

  code2_front : code2 (front ++ b) ≡ code2 b
  unfolding code2
  code2_front = rw trailer_front

  code4_front : code4 (front ++ b) ≡ code4 b
  unfolding code4 rows_distance records_distance steps_distance node_count flow_count
  code4_front =
      rw (
        trailer_front,
        le-ltb (length (front ++ b)) (rows_distance b) (omega (arith, longer, f.rows)),
        le-ltb (length b) (rows_distance b) f.rows,
      )

  code7_front : code7 (front ++ b) ≡ code7 b
  unfolding code7 steps_distance
  code7_front = rw (trailer_front, sections_front)

  book_front : Same (front ++ b) b book_rules
  unfolding book_rules
  book_front =
      same_more code1_front
      (same_more code2_front
      (same_more (ap code3 said_front)
      (same_more code4_front
      (same_more (ap code5 said_front)
      (same_more (ap code6 said_front) (same_more code7_front (same_more (ap code8 said_front) same_none)))))))

  -- READ
  pub read_front : read_of (front ++ b) ≡ read_of b
  unfolding read_of read_answer
  read_front = rw (first_of_same no_number book_front refl, sections_front)

  -- CHECK and START, by any measure
  module _ (measured : Facts → Measure) where
    check_front : Same (front ++ b) b (check_rules_by measured)
    unfolding check_rules_by
    check_front = same_append book_front (same_more (ap (λ (f : Facts). code9_by f (measured f)) said_front) same_none)

    pub check_front_same : check_by measured (front ++ b) ≡ check_by measured b
    unfolding check_by check_answer_by
    check_front_same = rw (first_of_same no_number check_front refl, said_front)

    start_answer_lem :
        (area : List ℕ)
        → start_answer_by measured (record { book = front ++ b; area = area }) ≡ start_answer_by measured (record { book = b; area = area })
    unfolding start_answer_by
    start_answer_lem area =
        first_of_same no_number (same_append (same_on (λ (s : Starting). s.book) check_front) (same_more refl same_none)) refl

    pub start_front :
        (area : List ℕ)
        → start_by measured (record { book = front ++ b; area = area }) ≡ start_by measured (record { book = b; area = area })
    unfolding start_by
    start_front area = rw (start_answer_lem area, said_front)

  -- ADVANCE, by any rule of waiting and any releases
  module _ (waits : Waits) (releases : Facts → State → Releases) (area grants : List ℕ) where
    -- what an advance of either slice is handed
    whole : Advancing
    whole = record { book = front ++ b; area = area; grants = grants }

    bare : Advancing
    bare = record { book = b; area = area; grants = grants }

    granted_front : flows_granted_by waits releases whole ≡ flows_granted_by waits releases bare
    unfolding flows_granted_by whole bare
    granted_front = rw said_front

    advance_answer_lem : advance_answer_by waits releases whole ≡ advance_answer_by waits releases bare
    unfolding advance_answer_by whole bare
    advance_answer_lem =
        first_of_same (λ (a : Advancing). length (flows_granted_by waits releases a))
        (same_append (same_on (λ (a : Advancing). a.book) book_front)
        (same_more refl
        (same_more (ap (λ (f : Facts). code13 (grant_bytes * f.flows) grants) said_front)
        (same_more (ap (λ (f : Facts). code10 f (releases f (state_in area)) (state_in area)) said_front)
        (same_more refl (same_more (ap (λ (f : Facts). code11 f (releases f (state_in area)) (state_in area)) said_front) same_none))))))
        (ap length granted_front)

    pub advance_front :
        advance_by waits releases (record { book = front ++ b; area = area; grants = grants })
        ≡ advance_by waits releases (record { book = b; area = area; grants = grants })
    unfolding advance_by next_area_by grants_in_by whole bare
    advance_front = rw (advance_answer_lem, said_front, granted_front)
