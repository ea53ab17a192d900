-- A table in memory, and the book that it is written as. Leans on Facts and Layout.
use Rattle.std.specs.Prelude.{ℕ, ◌+◌, ◌*◌, ◌≡◌, List, [], ◌∷◌, ◌++◌, length, take}
use Rattle.trade.specs.Limits.{row_bytes, record_bytes, step_bytes, trailer_bytes, most_nodes, most_flows, most_steps, mark}
use Rattle.trade.specs.Bytes.{two_bytes, padded}
use Rattle.trade.specs.Layout.{Sections}
use Rattle.trade.specs.Facts.{facts_of, all_steps}

-- steps distance = 2 × (sum of all L) + 10; records distance = that + 10 m; rows distance = that + 8 n
unfoldable pub steps_distance_of : Sections → ℕ
steps_distance_of s = step_bytes * all_steps (facts_of s) + trailer_bytes

unfoldable pub records_distance_of : Sections → ℕ
records_distance_of s = steps_distance_of s + record_bytes * s.flows

unfoldable pub rows_distance_of : Sections → ℕ
rows_distance_of s = records_distance_of s + row_bytes * s.nodes

unfoldable pub trailer_of : Sections → List ℕ
trailer_of s =
    two_bytes (rows_distance_of s)
    ++ two_bytes (records_distance_of s)
    ++ two_bytes (steps_distance_of s)
    ++ (s.nodes ∷ s.flows ∷ [])
    ++ mark

-- the used places of the three sections: n rows, m records, and the steps of all plans
unfoldable pub used : Sections → Sections
used s =
    record {
      nodes = s.nodes;
      flows = s.flows;
      rows = take (row_bytes * s.nodes) s.rows;
      records = take (record_bytes * s.flows) s.records;
      steps = take (step_bytes * all_steps (facts_of s)) s.steps;
    }

-- the book of a table: its used places, then the trailer
unfoldable pub book_of : Sections → List ℕ
book_of s = (used s).rows ++ (used s).records ++ (used s).steps ++ trailer_of s

-- a table in memory has room for 64 rows, 32 records and 32 plans of 32 steps
abbrev pub rows_room : ℕ
rows_room = row_bytes * most_nodes

abbrev pub records_room : ℕ
records_room = record_bytes * most_flows

abbrev pub steps_room : ℕ
steps_room = step_bytes * (most_flows * most_steps)

pub record InMemory (s : Sections) : Type 0 where
  pub rows : length s.rows ≡ rows_room
  pub records : length s.records ≡ records_room
  pub steps : length s.steps ≡ steps_room

-- the table of the same facts whose unused places are zero
unfoldable pub table_of : Sections → Sections
table_of s =
    record {
      nodes = s.nodes;
      flows = s.flows;
      rows = padded rows_room (used s).rows;
      records = padded records_room (used s).records;
      steps = padded steps_room (used s).steps;
    }

-- the table of zeros that a refused read returns
unfoldable pub empty_table : Sections
empty_table = table_of (record { nodes = 0; flows = 0; rows = []; records = []; steps = [] })
