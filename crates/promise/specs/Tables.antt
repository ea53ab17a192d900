-- One table, one book: the table that add gives is written as a book that is this table, and is run. Leans on Demands.
use Rattle.std.specs.Prelude.{ℕ, ◌≤◌, ◌≡◌, List, length, get_or, take}
use Rattle.trade.specs.Bytes.{over}
use Rattle.trade.specs.Facts.{facts_of}
use Rattle.trade.specs.Answers.{done}
use Rattle.trade.specs.Table.{book_of}
use Rattle.trade.specs.Kept.{Tabled}
use Rattle.trade.specs.Calls.{Got, Checked, Adding, Changed, Written, bounds_of}
use Rattle.promise.specs.Demands.{Program, Done, Ran, RunBy, Honoured}

-- the book that a buffer then holds: as many bytes as the answer says
abbrev pub book_in : Written → List ℕ
book_in w = take w.answer.number w.buffer

-- of a table, and what write gave for it:
pub record OneBook (p : Program) (table : Tabled) (w : Written) : Type 0 where
  -- it is written as a book,
  pub written : Done w.answer
  -- which check accepts, with the bounds of the table,
  pub accepted :
      (checked : Checked)
      → p.check (book_in w) checked
      → checked ≡ record { answer = done 0; bounds = bounds_of (facts_of table.sections) }
  -- as the check of the table does;
  pub checked : (checked : Checked) → p.check_table table checked → checked ≡ record { answer = done 0; bounds = bounds_of (facts_of table.sections) }
  -- and read gives back the table;
  pub read : (got : Got) → p.read (book_in w) got → got ≡ record { answer = done 0; table = table }
  -- written again, into any buffer with room, it is the same book
  pub again :
      (got : Got)
      → p.read (book_in w) got
      → (other : List ℕ)
      → length (book_in w) ≤ length other
      → (more : Written)
      → p.write (record { table = got.table.sections; buffer = other }) more
      → more ≡ record { answer = done (length (book_in w)); buffer = over (book_in w) other }
  -- RUN, it keeps what is owed of an accepted table, within the bounds of the table
  pub runs : (x : Ran) → x.book ≡ book_in w → RunBy p x → Honoured x (λ l. get_or (bounds_of (facts_of table.sections)) l 0)

-- FROM ADD, through write, to the run: where add is done, the table that it gave, written into any buffer with room, is one book
abbrev pub AddedRuns : Program → Type 0
AddedRuns p =
    (a : Adding) (changed : Changed)
    → p.add a changed
    → Done changed.answer
    → (buffer : List ℕ)
    → length (book_of changed.table.sections) ≤ length buffer
    → (w : Written)
    → p.write (record { table = changed.table.sections; buffer = buffer }) w
    → OneBook p changed.table w
