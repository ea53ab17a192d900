-- The eight calls: for all that a call is handed, its answer, what it returns beside it, and what it leaves in lent memory, done or
-- refused. Leans on Codes and all below it.
use Rattle.std.specs.Prelude.{ℕ, suc, ◌*◌, cond, List, [], ◌∷◌, ◌++◌, length, take, replicate}
use Rattle.trade.specs.Limits.{most_flows, step_bytes, area_bytes, grant_bytes}
use Rattle.trade.specs.First.{list_to}
use Rattle.trade.specs.Bytes.{two_bytes, over, padded}
use Rattle.trade.specs.Layout.{Sections, sections_of}
use Rattle.trade.specs.Facts.{Facts, facts_of, said}
use Rattle.trade.specs.Table.{used, book_of}
use Rattle.trade.specs.Exchange.{Exchange, recut}
use Rattle.trade.specs.Answers.{is_done, first_of, on, no_number}
use Rattle.trade.specs.Bound.{Measure, measure, bound_by, code9_by}
use Rattle.trade.specs.Kept.{Tabled, kept_of, empty_kept, code17, kept_measure}
use Rattle.trade.specs.Slot.{State, at_start, Releases, releases_of, Waits, greedy, granted_by, next_state_by, grant_of, grants_of}
use Rattle.trade.specs.Area.{state_in, area_of}
use Rattle.trade.specs.Codes.{code1, code2, code3, code4, code5, code6, code7, code8, code13, code14, code15_adding, code15_removing}
use Rattle.trade.specs.SlotCodes.{code10, code11, code12}
use Rattle.trade.specs.declared.answer.Answer.{Answer}
use Rattle.trade.specs.declared.flow.Flow.{Flow}

-- the rules that a book has to pass, 1 to 8, and a table, 3, 5, 6 and 8
unfoldable pub book_rules : List (List ℕ → Answer)
book_rules =
    code1
    ∷ code2
    ∷ (λ b. code3 (said b))
    ∷ code4
    ∷ (λ b. code5 (said b))
    ∷ (λ b. code6 (said b))
    ∷ code7
    ∷ (λ b. code8 (said b))
    ∷ []

unfoldable pub table_rules : List (Sections → Answer)
table_rules = (λ t. code3 (facts_of t)) ∷ (λ t. code5 (facts_of t)) ∷ (λ t. code6 (facts_of t)) ∷ (λ t. code8 (facts_of t)) ∷ []

-- READ: 1 to 8. The table with its unused places zero and its figures right; refused, a table of zeros
pub record Got : Type 0 where
  pub answer : Answer
  pub table : Tabled

unfoldable pub read_answer : List ℕ → Answer
read_answer b = first_of book_rules no_number b

unfoldable pub read_of : List ℕ → Got
read_of b =
    record {
      answer = read_answer b;
      table = cond (is_done (read_answer b)) (kept_of (sections_of b)) empty_kept;
    }

-- CHECK a book: 1 to 8, 9. The m bounds, zeros elsewhere; refused, all zeros. How the book's facts are measured is a parameter
pub record Checked : Type 0 where
  pub answer : Answer
  pub bounds : List ℕ

unfoldable pub check_rules_by : (Facts → Measure) → List (List ℕ → Answer)
check_rules_by measured = book_rules ++ ((λ b. code9_by (said b) (measured (said b))) ∷ [])

unfoldable pub check_answer_by : (Facts → Measure) → List ℕ → Answer
check_answer_by measured b = first_of (check_rules_by measured) no_number b

unfoldable pub bounds_by : Facts → Measure → List ℕ
bounds_by f μ = padded most_flows (list_to (bound_by f μ) f.flows)

unfoldable pub check_by : (Facts → Measure) → List ℕ → Checked
check_by measured b =
    record {
      answer = check_answer_by measured b;
      bounds = cond (is_done (check_answer_by measured b)) (bounds_by (said b) (measured (said b))) (replicate most_flows 0);
    }

-- by the measure of interference and bounds; the rules and the bounds have names for the proofs of check and start in code
abbrev pub check_rules : List (List ℕ → Answer)
check_rules = check_rules_by measure

abbrev pub check_answer : List ℕ → Answer
check_answer = check_answer_by measure

abbrev pub bounds_of : Facts → List ℕ
bounds_of f = bounds_by f (measure f)

abbrev pub check_of : List ℕ → Checked
check_of = check_by measure

-- CHECK a table: 3, 5, 6, 8, then 9. Bounds as above. How the table is measured is a parameter
unfoldable pub kept_rules_by : (Tabled → Measure) → List (Tabled → Answer)
kept_rules_by measured = on (λ t. t.sections) table_rules ++ ((λ t. code9_by (facts_of t.sections) (measured t)) ∷ [])

unfoldable pub check_kept_by : (Tabled → Measure) → Tabled → Checked
check_kept_by measured t =
    record {
      answer = first_of (kept_rules_by measured) no_number t;
      bounds =
          cond (is_done (first_of (kept_rules_by measured) no_number t)) (bounds_by (facts_of t.sections) (measured t)) (replicate most_flows 0);
    }

-- by its figures as they stand
abbrev pub kept_rules : List (Tabled → Answer)
kept_rules = kept_rules_by kept_measure

abbrev pub check_kept_of : Tabled → Checked
check_kept_of = check_kept_by kept_measure

-- WRITE: 3, 5, 6, 8 on the table, then 13. The book at the front of the lent buffer, and nothing beyond it touched; refused, nothing
-- touched. The number is the book's length. The figures are not looked at: what is written is the table's sections
pub record Writing : Type 0 where
  pub table : Sections
  pub buffer : List ℕ

pub record Written : Type 0 where
  pub answer : Answer
  pub buffer : List ℕ

unfoldable pub write_answer : Writing → Answer
write_answer =
    first_of (on (λ w. w.table) table_rules ++ ((λ w. code13 (length (book_of w.table)) w.buffer) ∷ []))
    (λ w. length (book_of w.table))

unfoldable pub write_of : Writing → Written
write_of w =
    record {
      answer = write_answer w;
      buffer = cond (is_done (write_answer w)) (over (book_of w.table) w.buffer) w.buffer;
    }

-- ADD at a place: 3, 5, 6, 8 and 17 on the old table; 14; 15; 6 and 8 on the new one; 9 on the new one. Refused, the table as handed in.
-- The newcomer is a record, whose L counts, and the bytes of 32 step places, of which those past L are ignored
pub record Adding : Type 0 where
  pub table : Tabled
  pub place : ℕ
  pub flow : Flow
  pub plan : List ℕ

pub record Changed : Type 0 where
  pub answer : Answer
  pub table : Tabled

unfoldable pub record_of : Flow → List ℕ
record_of w = two_bytes w.id ++ two_bytes w.phase ++ two_bytes w.period ++ two_bytes w.deadline ++ two_bytes w.len

-- one flow comes in at a place, with its record and the L steps of its plan
abbrev pub entering : ℕ → Flow → List ℕ → Exchange
entering place w plan = record { from = place; to = place; come = 1; records = record_of w; steps = take (step_bytes * w.len) plan }

-- the old table's used places, with the newcomer put in at the place
unfoldable pub with_flow : Adding → Sections
with_flow a = recut (used a.table.sections) (entering a.place a.flow a.plan)

-- the rules on a table that is to be changed: those of a table, and its figures
unfoldable pub old_rules : List (Tabled → Answer)
old_rules = on (λ t. t.sections) table_rules ++ (code17 ∷ [])

-- the rules on where a flow comes in,
unfoldable pub enter_rules : List (Adding → Answer)
enter_rules = (λ a. code14 (facts_of a.table.sections)) ∷ (λ a. code15_adding (facts_of a.table.sections) a.place) ∷ []

-- and those on the new table; how it is measured is a parameter
unfoldable pub new_rules_by : (Facts → Measure) → List (Sections → Answer)
new_rules_by measured = (λ t. code6 (facts_of t)) ∷ (λ t. code8 (facts_of t)) ∷ (λ t. code9_by (facts_of t) (measured (facts_of t))) ∷ []

-- the old table's rules come first, then these two
unfoldable pub add_answer_by : (Facts → Measure) → Adding → Answer
add_answer_by measured = first_of (on (λ a. a.table) old_rules ++ (enter_rules ++ on with_flow (new_rules_by measured))) no_number

unfoldable pub add_by : (Facts → Measure) → Adding → Changed
add_by measured a =
    record {
      answer = add_answer_by measured a;
      table = cond (is_done (add_answer_by measured a)) (kept_of (with_flow a)) a.table;
    }

-- by the measure of interference and bounds
abbrev pub new_rules : List (Sections → Answer)
new_rules = new_rules_by measure

abbrev pub add_answer : Adding → Answer
add_answer = add_answer_by measure

abbrev pub add_of : Adding → Changed
add_of = add_by measure

-- REMOVE: 3, 5, 6, 8 and 17; 15. Refused, the table as handed in
pub record Removing : Type 0 where
  pub table : Tabled
  pub place : ℕ

-- the flow at a place goes
abbrev pub leaving : ℕ → Exchange
leaving place = record { from = place; to = suc place; come = 0; records = []; steps = [] }

-- the old table's used places without the flow at the place
unfoldable pub without_flow : Removing → Sections
without_flow r = recut (used r.table.sections) (leaving r.place)

-- the rule on which flow goes
unfoldable pub leave_rules : List (Removing → Answer)
leave_rules = (λ r. code15_removing (facts_of r.table.sections) r.place) ∷ []

unfoldable pub remove_answer : Removing → Answer
remove_answer = first_of (on (λ r. r.table) old_rules ++ leave_rules) no_number

unfoldable pub remove_of : Removing → Changed
remove_of r =
    record {
      answer = remove_answer r;
      table = cond (is_done (remove_answer r)) (kept_of (without_flow r)) r.table;
    }

-- START: 1 to 8, 9, 13. Slot 0, each flow's byte equal to its L, unused places 0; bytes past 36 untouched; refused, nothing touched
pub record Starting : Type 0 where
  pub book : List ℕ
  pub area : List ℕ

pub record Started : Type 0 where
  pub answer : Answer
  pub area : List ℕ

unfoldable pub start_area : Facts → List ℕ
start_area f = area_of f.flows (at_start f)

unfoldable pub start_answer_by : (Facts → Measure) → Starting → Answer
start_answer_by measured = first_of (on (λ s. s.book) (check_rules_by measured) ++ ((λ s. code13 area_bytes s.area) ∷ [])) no_number

unfoldable pub start_by : (Facts → Measure) → Starting → Started
start_by measured s =
    record {
      answer = start_answer_by measured s;
      area = cond (is_done (start_answer_by measured s)) (over (start_area (said s.book)) s.area) s.area;
    }

-- by the measure of interference and bounds
abbrev pub start_answer : Starting → Answer
start_answer = start_answer_by measure

abbrev pub start_of : Starting → Started
start_of = start_by measure

-- ADVANCE by one slot: 1 to 8, 13, 10, 12, 11. The number is the count of grants; each grant in its own nine bytes of the lent
-- buffer, later bytes as lent; refused, zero grants and both buffers unchanged
pub record Advancing : Type 0 where
  pub book : List ℕ
  pub area : List ℕ
  pub grants : List ℕ

pub record Advanced : Type 0 where
  pub answer : Answer
  pub area : List ℕ
  pub grants : List ℕ

-- the rule of waiting, and how what is due is known from the book and the run that the area holds, are parameters
module _ (waits : Waits) (releases : Facts → State → Releases) where
  -- what is due in the slot
  abbrev due_in : Advancing → Releases
  due_in a = releases (said a.book) (state_in a.area)

  -- the flows granted in it
  unfoldable pub flows_granted_by : Advancing → List ℕ
  flows_granted_by a = granted_by waits (said a.book) (due_in a) (state_in a.area)

  unfoldable pub advance_answer_by : Advancing → Answer
  advance_answer_by =
      first_of
      (on (λ a. a.book) book_rules
      ++ ((λ a. code13 area_bytes a.area)
      ∷ (λ a. code13 (grant_bytes * (said a.book).flows) a.grants)
      ∷ (λ a. code10 (said a.book) (due_in a) (state_in a.area))
      ∷ (λ a. code12 (state_in a.area))
      ∷ (λ a. code11 (said a.book) (due_in a) (state_in a.area))
      ∷ []))
      (λ a. length (flows_granted_by a))

  unfoldable pub next_area_by : Advancing → List ℕ
  next_area_by a = area_of (said a.book).flows (next_state_by waits (said a.book) (due_in a) (state_in a.area))

  unfoldable pub grants_in_by : Advancing → List ℕ
  grants_in_by a = grants_of (grant_of (said a.book) (due_in a) (state_in a.area)) (flows_granted_by a)

  unfoldable pub advance_by : Advancing → Advanced
  advance_by a =
      record {
        answer = advance_answer_by a;
        area = cond (is_done (advance_answer_by a)) (over (next_area_by a) a.area) a.area;
        grants = cond (is_done (advance_answer_by a)) (over (grants_in_by a) a.grants) a.grants;
      }

-- by the greedy rule, the first releases being the phases
abbrev pub flows_granted : Advancing → List ℕ
flows_granted = flows_granted_by greedy releases_of

abbrev pub advance_answer : Advancing → Answer
advance_answer = advance_answer_by greedy releases_of

abbrev pub next_area : Advancing → List ℕ
next_area = next_area_by greedy releases_of

abbrev pub grants_in : Advancing → List ℕ
grants_in = grants_in_by greedy releases_of

abbrev pub advance_of : Advancing → Advanced
advance_of = advance_by greedy releases_of
