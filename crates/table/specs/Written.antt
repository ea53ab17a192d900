-- The trailer of a book, and the room that a table's book needs. Leans on the trade's table.
use Rattle.std.specs.Prelude.{ℕ, ◌*◌, ◌≤◌, ◌≡◌, List, [], ◌∷◌, ◌++◌, length}
use Rattle.trade.specs.Limits.{most_nodes, most_flows, most_steps, row_bytes, record_bytes, step_bytes, mark}
use Rattle.trade.specs.Bytes.{two_bytes}
use Rattle.trade.specs.Layout.{Sections}
use Rattle.trade.specs.Facts.{facts_of, all_steps}
use Rattle.trade.specs.Table.{rows_distance_of}
use Rattle.trade.specs.Calls.{write_of}
use Rattle.trade.specs.declared.answer.Answer.{Answer}

-- a trailer with these distances and counts
unfoldable pub trailer_with : ℕ → ℕ → ℕ → ℕ → ℕ → List ℕ
trailer_with rows records steps nodes flows = two_bytes rows ++ two_bytes records ++ two_bytes steps ++ (nodes ∷ flows ∷ []) ++ mark

-- a table whose used places are there, and a buffer of so many bytes that has room for its book
pub record Room (s : Sections) (steps_in_all room : ℕ) : Type 0 where
  pub nodes : s.nodes ≤ most_nodes
  pub flows : s.flows ≤ most_flows
  pub plans : steps_in_all ≤ most_flows * most_steps
  pub all : steps_in_all ≡ all_steps (facts_of s)
  pub rows : row_bytes * s.nodes ≤ length s.rows
  pub records : record_bytes * s.flows ≤ length s.records
  pub steps : step_bytes * steps_in_all ≤ length s.steps
  pub buffer : rows_distance_of s ≤ room

-- WRITE answers, and leaves in the lent buffer, what its definition says
pub record Writes (t : Sections) (before : List ℕ) (r : Answer) (after : List ℕ) : Type 0 where
  pub answer : r ≡ (write_of (record { table = t; buffer = before })).answer
  pub buffer : after ≡ (write_of (record { table = t; buffer = before })).buffer
