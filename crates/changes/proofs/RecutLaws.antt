-- The sections of a table that a flow comes into or goes from: the bytes in use before it, and zeros behind those after it. Leans on the
-- trade's Used and Exchange. Assumes nothing.
use Prim.Native.Nat.{ℕ, ◌*◌, ◌≤◌}
use mathlib.Core.Path.{◌≡◌, refl, sym, ◌∙◌, ap}
use mathlib.Core.List.{List}
use native.Mathlib.Omega.{arith}
use lib.ListN.{take}
use Rattle.trade.specs.Limits.{most_steps, step_bytes}
use Rattle.trade.specs.First.{sum_to}
use Rattle.trade.specs.Bytes.{padded}
use Rattle.trade.specs.Layout.{Sections, sections, field}
use Rattle.trade.specs.Facts.{facts_of, first_step, all_steps}
use Rattle.trade.specs.Table.{used, rows_room, records_room, steps_room, table_of}
use Rattle.trade.specs.Exchange.{spliced, Exchange, recut}
use Rattle.trade.proofs.Sums.{sum_most}
use Rattle.trade.proofs.Places.{same_first_step}
use Rattle.trade.proofs.Used.{same_sections, used_same, NoMore, no_more_table, Holds, Full, used_full}
use Rattle.trade.specs.Kept.{Tabled, KeptInMemory, RightFigures}
use Rattle.trade.specs.Calls.{old_rules}
use Rattle.trade.proofs.Answers.{Passed}
use Rattle.trade.proofs.Valid.{table_valid}
use Rattle.trade.proofs.Kept.{alike_right}
use Rattle.rules.proofs.RulesLaws.{passed_form, passed_figures}
use Rattle.changes.specs.Moved.{InRange}

-- THE SECTIONS of a table in memory, its counts in range and no L above the most, hold their used places
module _ (t : Sections) (r : InRange t) where
  abbrev lens : ℕ → ℕ
  lens i = field t.records i 4

  -- the steps before a place have room, and those of all plans
  pub steps_most : (i : ℕ) → i ≤ t.flows → sum_to lens i ≤ most_steps * i
  steps_most i h = sum_most lens most_steps i (λ j l. r.lens j (omega arith))

  holds : Holds t
  unfolding all_steps first_step facts_of
  holds =
      record {
        rows = omega (arith, r.memory.rows, r.nodes);
        records = omega (arith, r.memory.records, r.flows);
        steps = omega (arith, r.memory.steps, r.flows, steps_most t.flows (omega arith));
      }

  pub old_full : Full (used t)
  old_full = used_full t holds

  -- and the used places start each plan where the table does
  pub old_first : (i : ℕ) → i ≤ t.flows → sum_to lens i ≡ first_step (facts_of (used t)) i
  unfolding first_step facts_of
  old_first = same_first_step t (used t) (used_same t)

  -- so that the steps are cut by the sums of L that the code reads
  pub steps_cut :
      (x : Exchange) (first next all : ℕ)
      → x.from ≤ x.to
      → x.to ≤ t.flows
      → first ≡ sum_to lens x.from
      → next ≡ sum_to lens x.to
      → all ≡ sum_to lens t.flows
      → spliced (step_bytes * first) (step_bytes * next) x.steps (take (step_bytes * all) t.steps) ≡ (recut (used t) x).steps
  unfolding recut used all_steps first_step facts_of
  steps_cut x first next all order within e₁ e₂ e₃ =
      rw (e₁ ∙ old_first x.from (omega arith), e₂ ∙ old_first x.to within, e₃)

-- A TABLE with zeros behind its used places
pub cleared :
    (s new : Sections) (rows records steps : List ℕ) (a b c : ℕ)
    → s ≡ new
    → NoMore new
    → a ≡ rows_room
    → b ≡ records_room
    → c ≡ steps_room
    → rows ≡ padded a s.rows
    → records ≡ padded b s.records
    → steps ≡ padded c s.steps
    → sections s.nodes s.flows rows records steps ≡ table_of new
cleared s new rows records steps a b c e no_more ea eb ec er es et =
    let table : Sections → Sections =
    λ u. sections u.nodes u.flows (padded rows_room u.rows) (padded records_room u.records) (padded steps_room u.steps) in
    same_sections (sections s.nodes s.flows rows records steps) (table s) refl refl (er ∙ ap (λ (n : ℕ). padded n s.rows) ea)
    (es ∙ ap (λ (n : ℕ). padded n s.records) eb) (et ∙ ap (λ (n : ℕ). padded n s.steps) ec)
    ∙ ap table e
    ∙ sym (no_more_table new no_more)

-- a table in memory that has passed is in range, and its figures are right, read at its used places
pub passed_in_range : (t : Tabled) → KeptInMemory t → Passed t old_rules → InRange t.sections
unfolding facts_of
passed_in_range t m p =
    let v = table_valid t.sections (passed_form t p) in
    record { memory = m.sections; nodes = v.nodes.most; flows = v.flows; lens = λ i h. (v.records i h).len.most }

pub passed_right_used : (t : Tabled) → Passed t old_rules → RightFigures (record { sections = used t.sections; figures = t.figures })
passed_right_used t p = alike_right t.sections (used t.sections) t.figures (used_same t.sections) (passed_form t p) (passed_figures t p)
