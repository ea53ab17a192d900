-- The book, read from its end. Leans on Limits and Bytes.
use Rattle.std.specs.Prelude.{ℕ, ◌+◌, ◌-◌, ◌*◌, List, length, drop}
use Rattle.trade.specs.Limits.{row_bytes, record_bytes, trailer_bytes}
use Rattle.trade.specs.Bytes.{byte, word, part}

-- the counts and the three sections that a book and a table both have: rows, records and steps, each as bytes
pub record Sections : Type 0 where
  pub nodes : ℕ
  pub flows : ℕ
  pub rows : List ℕ
  pub records : List ℕ
  pub steps : List ℕ

-- counts and sections put together, for code that has them apart
abbrev pub sections : ℕ → ℕ → List ℕ → List ℕ → List ℕ → Sections
sections n m rows records steps = record { nodes = n; flows = m; rows = rows; records = records; steps = steps }

-- the trailer is the last 10 bytes of the slice
unfoldable pub trailer : List ℕ → List ℕ
trailer slice = drop (length slice - trailer_bytes) slice

-- in it, three two-byte distances back from the end of the slice, to the rows, the records and the steps;
unfoldable pub rows_distance : List ℕ → ℕ
rows_distance slice = word (trailer slice) 0

unfoldable pub records_distance : List ℕ → ℕ
records_distance slice = word (trailer slice) 2

unfoldable pub steps_distance : List ℕ → ℕ
steps_distance slice = word (trailer slice) 4

-- the node count and the flow count, a byte each; then the mark
unfoldable pub node_count : List ℕ → ℕ
node_count slice = byte (trailer slice) 6

unfoldable pub flow_count : List ℕ → ℕ
flow_count slice = byte (trailer slice) 7

-- the rows, 8 bytes a node; the records, 10 bytes a flow; the steps, up to the trailer
unfoldable pub sections_of : List ℕ → Sections
sections_of slice =
    record {
      nodes = node_count slice;
      flows = flow_count slice;
      rows = part (length slice - rows_distance slice) (row_bytes * node_count slice) slice;
      records = part (length slice - records_distance slice) (record_bytes * flow_count slice) slice;
      steps = part (length slice - steps_distance slice) (steps_distance slice - trailer_bytes) slice;
    }

-- field k of record i: id, phase, P, D, L, two bytes each
unfoldable pub field : List ℕ → ℕ → ℕ → ℕ
field records i k = word records (record_bytes * i + 2 * k)
