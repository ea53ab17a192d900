-- The calls: one that is done has the number that goes with it, and passed its rules; and a table that passes is written. Leans on
-- Answers and Bytes. Assumes nothing.
use Prim.Native.Nat.{ℕ, ◌≤◌}
use mathlib.Core.Path.{◌≡◌, ap}
use mathlib.Core.List.{List}
use lib.Dec.{ltb}
use lib.ListN.{length, take}
use borrow.Author.Tests.{le-ltb}
use Rattle.trade.specs.Bytes.{over}
use Rattle.trade.specs.Layout.{Sections}
use Rattle.trade.specs.Facts.{Facts}
use Rattle.trade.specs.Table.{book_of}
use Rattle.trade.specs.Answers.{done, is_done, on, no_number}
use Rattle.trade.specs.Codes.{code13}
use Rattle.trade.specs.Slot.{State, Releases, Waits}
use Rattle.trade.specs.Calls.{Writing, Advancing, book_rules, table_rules, read_answer, write_answer, flows_granted_by, advance_answer_by, write_of}
use Rattle.trade.specs.declared.answer.Answer.{Answer}
use Rattle.trade.proofs.Answers.{Passed, passed_none, passed_more, passed_append, passed_first, passed_on, passed_look, passed_done, first_of_passed, first_of_done, given_false}
use Rattle.trade.proofs.Bytes.{take_over}

pub read_done : (b : List ℕ) → (read_answer b).code ≡ 0 → read_answer b ≡ done 0
unfolding read_answer
read_done b e = first_of_done book_rules no_number b e

pub write_done : (w : Writing) → (write_answer w).code ≡ 0 → write_answer w ≡ done (length (book_of w.table))
unfolding write_answer
write_done w e = first_of_done _ _ w e

pub advance_done :
    (waits : Waits) (releases : Facts → State → Releases) (a : Advancing)
    → (advance_answer_by waits releases a).code ≡ 0
    → advance_answer_by waits releases a ≡ done (length (flows_granted_by waits releases a))
unfolding advance_answer_by
advance_done waits releases a e = first_of_done _ _ a e

-- memory that is long enough passes code 13
pub code13_passes : (needed : ℕ) (memory : List ℕ) → needed ≤ length memory → (code13 needed memory).code ≡ 0
unfolding code13
code13_passes needed memory h =
    ap (λ (a : Answer). a.code) (given_false 13 (ltb (length memory) needed) 0 (le-ltb (length memory) needed h))

-- a table that was written passed its rules, and what was written is its book
pub written_passed : (w : Writing) → (write_answer w).code ≡ 0 → Passed w.table table_rules
unfolding write_answer
written_passed w e =
    passed_look (λ (x : Writing). x.table) table_rules (passed_first (on (λ (x : Writing). x.table) table_rules) _ (first_of_passed _ _ w e))

pub written_book : (w : Writing) → (write_answer w).code ≡ 0 → take (write_of w).answer.number (write_of w).buffer ≡ book_of w.table
unfolding write_of is_done
written_book w e = rw (write_done w e) (take_over (book_of w.table) w.buffer)

-- a table that passes is written into any buffer with room
pub written :
    (t : Sections) (buffer : List ℕ)
    → Passed t table_rules
    → length (book_of t) ≤ length buffer
    → write_of (record { table = t; buffer = buffer }) ≡ record { answer = done (length (book_of t)); buffer = over (book_of t) buffer }
unfolding write_of write_answer is_done
written t buffer p h = rw passes
  where
    w : Writing
    w = record { table = t; buffer = buffer }

    passes : write_answer w ≡ done (length (book_of t))
    passes =
        passed_done (λ (x : Writing). length (book_of x.table))
        (passed_append (passed_on (λ (x : Writing). x.table) p) (passed_more (code13_passes (length (book_of t)) buffer h) passed_none))
