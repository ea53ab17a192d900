-- The rules of a change on the new table, with its figures. Leans on the trade's calls and on the
-- square's Carried.
use Rattle.std.specs.Prelude.{ℕ, ◌*◌, ◌≤◌, ◌<◌, ◌≡◌, cond, List, length}
use Rattle.trade.specs.Limits.{most_nodes, most_flows, row_bytes, record_bytes, step_bytes}
use Rattle.trade.specs.Layout.{Sections}
use Rattle.trade.specs.Facts.{facts_of, all_steps}
use Rattle.trade.specs.Answers.{is_done, first_of, no_number}
use Rattle.trade.specs.Codes.{code6}
use Rattle.trade.specs.Kept.{figures_room, figures_of}
use Rattle.trade.specs.Calls.{new_rules}
use Rattle.trade.specs.declared.answer.Answer.{Answer}
use Rattle.square.specs.Carried.{OldFigures}

-- the sections of a new table: its rows and records are there, and its steps where code 6 passes
pub record New (t : Sections) : Type 0 where
  pub nodes : t.nodes ≤ most_nodes
  pub flows : t.flows ≤ most_flows
  pub rows : row_bytes * t.nodes ≤ length t.rows
  pub records : record_bytes * t.flows ≤ length t.records
  pub steps : (code6 (facts_of t)).code ≡ 0 → step_bytes * all_steps (facts_of t) ≤ length t.steps

-- the figures of before a flow came in at a place; where code 6 passes they are those of the flows that were there
pub record Carried (t : Sections) (place : ℕ) (figures : List ℕ) : Type 0 where
  pub size : length figures ≡ figures_room
  pub within : place < t.flows
  pub right : (code6 (facts_of t)).code ≡ 0 → OldFigures t.flows place t.rows t.records t.steps figures

-- what the rules on the new table answer, and the figures after it: those of the new table, or refused those of before
pub record NewFigures (t : Sections) (old : List ℕ) (r : Answer) (after : List ℕ) : Type 0 where
  pub answer : r ≡ first_of new_rules no_number t
  pub figures : after ≡ cond (is_done r) (figures_of (facts_of t)) old
