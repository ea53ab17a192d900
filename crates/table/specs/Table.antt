-- What a table in memory holds, what reading a book returns, and what the check of a table answers. Leans on the trade's calls.
use Rattle.std.specs.Prelude.{ℕ, ◌≡◌, List}
use Rattle.trade.specs.Bytes.{padded}
use Rattle.trade.specs.Layout.{Sections, sections}
use Rattle.trade.specs.Facts.{facts_in}
use Rattle.trade.specs.Table.{rows_room, records_room, steps_room}
use Rattle.trade.specs.Kept.{Tabled, figures_of}
use Rattle.trade.specs.Calls.{read_of, check_kept_of}
use Rattle.bounds.specs.declared.bounds.Checked.{Checked}
use Rattle.table.specs.declared.table.Table.{Table}
use Rattle.table.specs.declared.table.Got.{Got}

abbrev pub sections_in : Table → Sections
sections_in t = record { nodes = t.nodes; flows = t.flows; rows = t.rows; records = t.records; steps = t.steps }

-- with its figures
abbrev pub kept_in : Table → Tabled
kept_in t = record { sections = sections_in t; figures = t.figures }

-- the table of these counts and sections, zeros behind each, and the figures of its flows
abbrev pub table_with : ℕ → ℕ → List ℕ → List ℕ → List ℕ → Tabled
table_with n m rows records steps =
    record {
      sections = sections n m (padded rows_room rows) (padded records_room records) (padded steps_room steps);
      figures = figures_of (facts_in n m rows records steps);
    }

-- READ returns what its definition says
pub record Reads (book : List ℕ) (r : Got) : Type 0 where
  pub answer : r.answer ≡ (read_of book).answer
  pub table : kept_in r.table ≡ (read_of book).table

-- CHECK A TABLE answers what its definition says
pub record ChecksKept (t : Tabled) (r : Checked) : Type 0 where
  pub answer : r.answer ≡ (check_kept_of t).answer
  pub bounds : r.bounds ≡ (check_kept_of t).bounds
