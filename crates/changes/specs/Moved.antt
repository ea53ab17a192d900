-- The sections that a flow comes into or goes from. Leans on the trade's Exchange.
use Rattle.std.specs.Prelude.{ℕ, ◌*◌, ◌≤◌, ◌<◌, min, ◌≡◌, cond, List, length}
use Rattle.trade.specs.Limits.{most_nodes, most_flows, most_steps, record_bytes, step_bytes}
use Rattle.trade.specs.Layout.{Sections, field}
use Rattle.trade.specs.Table.{InMemory, used}
use Rattle.trade.specs.Kept.{Tabled, figures_room, RightFigures, kept_of}
use Rattle.trade.specs.Answers.{is_done, first_of, no_number}
use Rattle.trade.specs.Exchange.{Exchange, recut}
use Rattle.trade.specs.Calls.{new_rules}
use Rattle.trade.specs.declared.answer.Answer.{Answer}

-- one flow comes in at a place, with this record and these steps
abbrev pub coming : ℕ → List ℕ → List ℕ → Exchange
coming place flow plan = record { from = place; to = place; come = 1; records = flow; steps = plan }

-- a table in memory, its counts in range and no L above the most
pub record InRange (t : Sections) : Type 0 where
  pub memory : InMemory t
  pub nodes : t.nodes ≤ most_nodes
  pub flows : t.flows ≤ most_flows
  pub lens : (i : ℕ) → i < t.flows → field t.records i 4 ≤ most_steps

-- with right figures, and room at a place for a flow of this record, which has these steps, or as many as the most where its L is above that
pub record Coming (t : Tabled) (place : ℕ) (flow plan : List ℕ) : Type 0 where
  pub old : InRange t.sections
  pub size : length t.figures ≡ figures_room
  pub right : RightFigures (record { sections = used t.sections; figures = t.figures })
  pub room : t.sections.flows < most_flows
  pub within : place ≤ t.sections.flows
  pub recorded : length flow ≡ record_bytes
  pub planned : length plan ≡ step_bytes * min (field flow 0 4) most_steps

-- what the rules on the table with it answer, and the table after: with it, or as it was
pub record Comes (t : Tabled) (place : ℕ) (flow plan : List ℕ) (r : Answer) (after : Tabled) : Type 0 where
  pub answer : r ≡ first_of new_rules no_number (recut (used t.sections) (coming place flow plan))
  pub table : after ≡ cond (is_done r) (kept_of (recut (used t.sections) (coming place flow plan))) t

-- such a table with a flow at a place
pub record Leaving (t : Tabled) (place : ℕ) : Type 0 where
  pub old : InRange t.sections
  pub size : length t.figures ≡ figures_room
  pub right : RightFigures (record { sections = used t.sections; figures = t.figures })
  pub within : place < t.sections.flows
