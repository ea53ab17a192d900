-- What a program must do: the customer's three demands, as predicates over any eight calls. Leans on Calls and all below it.
use Rattle.std.specs.Prelude.{ℕ, zero, suc, ◌+◌, ◌-◌, ◌*◌, ◌≤◌, ◌<◌, ◌≡◌, ◌↔◌, false, List, [], ◌∷◌, ◌++◌, length, get_or, take, drop, replicate}
use Rattle.trade.specs.Limits.{most_flows, end_of_clock, area_bytes, grant_bytes}
use Rattle.trade.specs.Bytes.{Bytes, byte, word, long, over}
use Rattle.trade.specs.Layout.{Sections, rows_distance, sections_of}
use Rattle.trade.specs.Facts.{Facts, facts_of, said, step_of}
use Rattle.trade.specs.Table.{InMemory, book_of}
use Rattle.trade.specs.Kept.{Tabled, figures_of, kept_of, empty_kept, RightFigures}
use Rattle.trade.specs.Answers.{done, refused, first_of, on, no_number}
use Rattle.trade.specs.Codes.{code6, code8}
use Rattle.trade.specs.Conflict.{conflict}
use Rattle.trade.specs.Bound.{Measure, measure, Admissible}
use Rattle.trade.specs.Slot.{releases_of, Waits, greedy}
use Rattle.trade.specs.Calls.{Got, Checked, Writing, Written, Adding, Removing, Changed, Starting, Started, Advancing, Advanced, table_rules, kept_rules, old_rules, enter_rules, read_answer, check_answer, write_answer, add_answer, remove_answer, start_answer, advance_answer, with_flow, without_flow, start_area, flows_granted, grants_in, next_area, read_of, check_by, check_kept_of, write_of, add_of, remove_of, start_by, advance_by}
use Rattle.trade.specs.declared.answer.Answer.{Answer}
use Rattle.trade.specs.declared.clock.Slot.{Slot}
use Rattle.trade.specs.declared.clock.Instance.{Instance}
use Rattle.trade.specs.declared.clock.Step.{Step}
use Rattle.trade.specs.declared.state.Grant.{Grant}

-- a program: of each of the eight calls, what it may give for all that it is handed. A call that gave nothing at all would keep
-- every demand below; that each of ours ends with a result is what the check of the code shows, and that its contract can be met is shown
-- by `Answers`
pub record Program : Type 1 where
  pub read : List ℕ → Got → Type 0
  pub check : List ℕ → Checked → Type 0
  pub check_table : Tabled → Checked → Type 0
  pub write : Writing → Written → Type 0
  pub add : Adding → Changed → Type 0
  pub remove : Removing → Changed → Type 0
  pub start : Starting → Started → Type 0
  pub advance : Advancing → Advanced → Type 0

-- a program that gives something for whatever it is handed
pub record Answers (p : Program) : Type 0 where
  pub read : (b : List ℕ) → (given : Got) × p.read b given
  pub check : (b : List ℕ) → (given : Checked) × p.check b given
  pub check_table : (t : Tabled) → (given : Checked) × p.check_table t given
  pub write : (w : Writing) → (given : Written) × p.write w given
  pub add : (a : Adding) → (given : Changed) × p.add a given
  pub remove : (r : Removing) → (given : Changed) × p.remove r given
  pub start : (s : Starting) → (given : Started) × p.start s given
  pub advance : (a : Advancing) → (given : Advanced) × p.advance a given

-- the program that the definitions describe, by a measure and a rule of waiting: each call gives what its definition says
abbrev pub planner_by : (Facts → Measure) → Waits → Program
planner_by measured waits =
    record {
      read = λ b given. given ≡ read_of b;
      check = λ b given. given ≡ check_by measured b;
      check_table = λ t given. given ≡ check_kept_of t;
      write = λ w given. given ≡ write_of w;
      add = λ a given. given ≡ add_of a;
      remove = λ r given. given ≡ remove_of r;
      start = λ s given. given ≡ start_by measured s;
      advance = λ a given. given ≡ advance_by waits releases_of a;
    }

-- the planner; the contracts say that ours is this one
abbrev pub planner : Program
planner = planner_by measure greedy

-- a call is done, or it is refused
abbrev pub Done : Answer → Type 0
Done a = a.code ≡ 0

abbrev pub Refused : Answer → Type 0
Refused a = a.code ≡ 0 → ⊥

-- whatever a call is handed, and whatever it gives, is so
abbrev pub Always : {A B : Type 0} → (A → B → Type 0) → (A → B → Type 0) → Type 0
Always {A} {B} call so = (handed : A) (given : B) → call handed given → so handed given

-- DEMAND 1. Each refusal has one number and one place in the order; a refused call changes none of the memory it was lent, and returns
-- zeros in place of a table or of bounds
pub record Demand1 (p : Program) : Type 0 where
  pub reads : Always p.read (λ b got. got.answer ≡ read_answer b)
  pub checks : Always p.check (λ b checked. checked.answer ≡ check_answer b)
  pub checks_tables : Always p.check_table (λ t checked. checked.answer ≡ first_of kept_rules no_number t)
  pub writes : Always p.write (λ w written. written.answer ≡ write_answer w)
  pub adds : Always p.add (λ a changed. changed.answer ≡ add_answer a)
  pub removes : Always p.remove (λ r changed. changed.answer ≡ remove_answer r)
  pub starts : Always p.start (λ s started. started.answer ≡ start_answer s)
  pub advances : Always p.advance (λ a advanced. advanced.answer ≡ advance_answer a)
  pub read_refused : Always p.read (λ b got. Refused got.answer → got.table ≡ empty_kept)
  pub check_refused : Always p.check (λ b checked. Refused checked.answer → checked.bounds ≡ replicate most_flows 0)
  pub check_table_refused : Always p.check_table (λ t checked. Refused checked.answer → checked.bounds ≡ replicate most_flows 0)
  pub write_refused : Always p.write (λ w written. Refused written.answer → written.buffer ≡ w.buffer)
  pub add_refused : Always p.add (λ a changed. Refused changed.answer → changed.table ≡ a.table)
  pub remove_refused : Always p.remove (λ r changed. Refused changed.answer → changed.table ≡ r.table)
  pub start_refused : Always p.start (λ s started. Refused started.answer → started.area ≡ s.area)
  pub advance_refused :
      Always p.advance (λ a advanced. Refused advanced.answer → (advanced.area ≡ a.area) × (advanced.grants ≡ a.grants))

-- the bound that a check reports for flow l
abbrev pub reported : Checked → ℕ → ℕ
reported checked l = get_or checked.bounds l 0

-- every flow has a response bound within its deadline
abbrev pub AllBounded : Facts → Measure → Type 0
AllBounded f μ = (l : ℕ) → l < f.flows → (R : ℕ) × Admissible f μ l R

-- a check decides by a measure, of whatever says facts: what is well formed is accepted exactly when every flow has a response bound within
-- its deadline; the bounds reported are the smallest, zeros elsewhere
pub record Decides {A : Type 0} (facts : A → Facts) (formed : A → Type 0) (measured : Facts → Measure) (check : A → Checked → Type 0) : Type 0 where
  pub accepts : Always check (λ b checked. formed b → Done checked.answer ↔ AllBounded (facts b) (measured (facts b)))
  pub bounded :
      Always check
      (λ b checked.
      Done checked.answer
      → (l : ℕ)
      → l < (facts b).flows
      → Admissible (facts b) (measured (facts b)) l (reported checked l))
  pub smallest :
      Always check
      (λ b checked.
      Done checked.answer
      → (l : ℕ)
      → l < (facts b).flows
      → (R : ℕ)
      → Admissible (facts b) (measured (facts b)) l R
      → reported checked l ≤ R)
  pub elsewhere : Always check (λ b checked. Done checked.answer → (l : ℕ) → (facts b).flows ≤ l → reported checked l ≡ 0)
  pub places : Always check (λ b checked. length checked.bounds ≡ most_flows)

-- of books,
abbrev pub DecidesBooks : (Facts → Measure) → (List ℕ → Checked → Type 0) → Type 0
DecidesBooks measured check = Decides said (λ b. Done (read_answer b)) measured check

-- and of tables whose figures are right
abbrev pub WellFormed : Sections → Type 0
WellFormed t = Done (first_of table_rules no_number t)

abbrev pub DecidesTables : (Facts → Measure) → (Tabled → Checked → Type 0) → Type 0
DecidesTables measured check =
    Decides (λ t. facts_of t.sections) (λ t. WellFormed t.sections) measured (λ t checked. RightFigures t × check t checked)

-- the figures of a table are those of its flows: each is what its definition says, and every other is zero
abbrev pub Figured : Tabled → Type 0
Figured t = t.figures ≡ figures_of (facts_of t.sections)

-- what the rules of adding before code 9 answer: those on the old table, on the place, and on the form of the new table
unfoldable pub form_answer : Adding → Answer
form_answer =
    first_of
    (on (λ a. a.table) old_rules ++ (enter_rules ++ on with_flow ((λ t. code6 (facts_of t)) ∷ (λ t. code8 (facts_of t)) ∷ [])))
    no_number

-- DEMAND 2. Books are read and written exactly by the layout; conflict, interference and the greedy choice are those of the
-- definitions; a well-formed table is accepted exactly when every flow has a response bound within its deadline, and the bound
-- reported is the smallest
pub record Demand2 (p : Program) : Type 0 where
  pub reads : Always p.read (λ b got. Done (read_answer b) → got ≡ record { answer = done 0; table = kept_of (sections_of b) })
  pub writes :
      Always p.write
      (λ w written.
      Done (write_answer w)
      → written ≡ record { answer = done (length (book_of w.table)); buffer = over (book_of w.table) w.buffer })
  -- reading a written book gives the table back with its unused places zero and its figures right, whatever they were
  pub write_read :
      Always p.write
      (λ w written.
      InMemory w.table
      → Done written.answer
      → (got : Got)
      → p.read (take written.answer.number written.buffer) got
      → got ≡ record { answer = done 0; table = kept_of w.table })
  -- writing a read table gives the book's bytes: those at the end of the slice, whatever stood before them
  pub read_write :
      Always p.read
      (λ b got.
      Bytes b
      → Done got.answer
      → (buffer : List ℕ)
      → rows_distance b ≤ length buffer
      → (written : Written)
      → p.write (record { table = got.table.sections; buffer = buffer }) written
      → written ≡ record { answer = done (rows_distance b); buffer = over (drop (length b - rows_distance b) b) buffer })
  -- accepted exactly when every flow has a response bound within its deadline; the bounds reported are the smallest, zeros elsewhere
  pub decides : DecidesBooks measure p.check
  -- and so it is with a table whose figures are right: the check of it is that of its book
  pub decides_tables : DecidesTables measure p.check_table
  pub checks_books :
      Always p.check_table
      (λ t checked.
      InMemory t.sections
      → WellFormed t.sections
      → RightFigures t
      → (other : Checked)
      → p.check (book_of t.sections) other
      → checked ≡ other)
  -- a flow enters exactly when every flow of the new table has one,
  pub admits :
      Always p.add
      (λ a changed.
      Done (form_answer a)
      → Done changed.answer ↔ AllBounded (facts_of (with_flow a)) (measure (facts_of (with_flow a))))
  -- and enters at its place, or is taken out, and nothing else changes; unused places are zero
  pub adds : Always p.add (λ a changed. Done (add_answer a) → changed.table ≡ kept_of (with_flow a))
  pub removes : Always p.remove (λ r changed. Done (remove_answer r) → changed.table ≡ kept_of (without_flow r))
  -- reading fills in the figures, and adding and removing keep each equal to its definition, and every other zero
  pub read_figures : Always p.read (λ b got. Done got.answer → Figured got.table)
  pub add_figures : Always p.add (λ a changed. Done changed.answer → Figured changed.table)
  pub remove_figures : Always p.remove (λ r changed. InMemory r.table.sections → Done changed.answer → Figured changed.table)
  pub starts : Always p.start (λ s started. Done (start_answer s) → started.area ≡ over (start_area (said s.book)) s.area)
  -- the count and the written bytes are those of the greedy choice
  pub grants :
      Always p.advance
      (λ a advanced.
      Done (advance_answer a)
      → advanced
      ≡ record { answer = done (length (flows_granted a)); area = over (next_area a) a.area; grants = over (grants_in a) a.grants })

-- A RUN of so many slots from slot 0: the book, the memory lent for its run area and, in each slot, for its grants; what start answered
-- and left, and what the advance of each slot did
pub record Ran : Type 0 where
  pub book : List ℕ
  pub area : List ℕ
  pub grants : Slot → List ℕ
  pub count : ℕ
  pub started : Started
  pub advanced : Slot → Advanced

-- the area before slot t: what start left, then what the advance of the slot before left, since nobody else writes it
unfoldable pub area_before : Ran → ℕ → List ℕ
area_before x zero = x.started.area
area_before x (suc t) = (x.advanced (record { 0 = t })).area

-- the run is a program's, in memory of the stated sizes, with the same book in every call
pub record RunBy (p : Program) (x : Ran) : Type 0 where
  pub area : area_bytes ≤ length x.area
  pub grants : (t : Slot) → t.0 < x.count → grant_bytes * (said x.book).flows ≤ length (x.grants t)
  pub starts : p.start (record { book = x.book; area = x.area }) x.started
  pub advances :
      (t : Slot)
      → t.0 < x.count
      → p.advance (record { book = x.book; area = area_before x t.0; grants = x.grants t }) (x.advanced t)

-- slot t has been run: its advance was done
pub record HasRun (x : Ran) (t : Slot) : Type 0 where
  pub called : t.0 < x.count
  pub done : Done (x.advanced t).answer

-- a grant as it is read from its nine bytes
unfoldable pub grant_at : List ℕ → ℕ → Grant
grant_at buffer j =
    record {
      id = word buffer (grant_bytes * j);
      instance = record { 0 = long buffer (grant_bytes * j + 2) };
      step = record { 0 = byte buffer (grant_bytes * j + 6) };
      transmission =
          record {
            sender = record { 0 = byte buffer (grant_bytes * j + 7) };
            receiver = record { 0 = byte buffer (grant_bytes * j + 8) };
          };
    }

-- grant j of slot t, of those that its advance counts
abbrev pub grant : Ran → Slot → ℕ → Grant
grant x t j = grant_at (x.advanced t).grants j

pub record Counted (x : Ran) (t : Slot) (j : ℕ) : Type 0 where
  pub run : HasRun x t
  pub below : j < (x.advanced t).answer.number

-- step s of instance v of flow l, as its grant says it
unfoldable pub step_grant : Facts → ℕ → Instance → Step → Grant
step_grant f l v s = record { id = f.id l; instance = v; step = s; transmission = step_of f l s.0 }

-- that step is granted in slot t
abbrev pub Granted : Ran → ℕ → Instance → Step → Slot → Type 0
Granted x l v s t = (j : ℕ) × Counted x t j × (grant x t j ≡ step_grant (said x.book) l v s)

-- instance v of flow l is released at phase + v × P; its deadline slot is release + D − 1, and its last slot by a bound R is
-- release + R − 1
unfoldable pub release_of : Facts → ℕ → Instance → ℕ
release_of f l v = f.phase l + v.0 * f.period l

abbrev pub last_slot : Facts → ℕ → Instance → ℕ → Slot
last_slot f l v R = record { 0 = release_of f l v + R - 1 }

abbrev pub deadline_slot : Facts → ℕ → Instance → Slot
deadline_slot f l v = last_slot f l v (f.deadline l)

-- the steps of instance v of flow l are granted: each in a slot of its own, in order, none before the release, the last within R slots of
-- it and within the deadline
pub record Kept (x : Ran) (l : ℕ) (v : Instance) (R : ℕ) : Type 0 where
  pub slot : Step → Slot
  pub granted : (s : Step) → s.0 < (said x.book).len l → Granted x l v s (slot s)
  pub released : (s : Step) → s.0 < (said x.book).len l → release_of (said x.book) l v ≤ (slot s).0
  pub within : (s : Step) → s.0 < (said x.book).len l → (slot s).0 < release_of (said x.book) l v + R
  pub in_time : (s : Step) → s.0 < (said x.book).len l → (slot s).0 < release_of (said x.book) l v + (said x.book).deadline l
  pub ordered : (s u : Step) → s.0 < u.0 → u.0 < (said x.book).len l → (slot s).0 < (slot u).0

-- grant j of slot t is the next step of a released, unfinished instance: its earlier steps were granted in earlier slots
pub record Due (x : Ran) (t : Slot) (j : ℕ) : Type 0 where
  pub flow : ℕ
  pub instance : Instance
  pub step : Step
  pub listed : flow < (said x.book).flows
  pub released : release_of (said x.book) flow instance ≤ t.0
  pub unfinished : step.0 < (said x.book).len flow
  pub grants : grant x t j ≡ step_grant (said x.book) flow instance step
  pub next : (s : Step) → s.0 < step.0 → (u : Slot) × (u.0 < t.0) × Granted x flow instance s u

-- what is owed of a run, R being the reported bounds
pub record Honoured (x : Ran) (R : ℕ → ℕ) : Type 0 where
  -- start is done, no slot of the clock is refused, and past its end every one is, by 12
  pub starts : Done x.started.answer
  pub runs : (t : Slot) → t.0 < x.count → t.0 < end_of_clock → HasRun x t
  pub ends : (t : Slot) → t.0 < x.count → end_of_clock ≤ t.0 → (x.advanced t).answer ≡ refused 12 0
  -- no two grants of a slot conflict
  pub free :
      (t : Slot) (i j : ℕ)
      → i < j
      → Counted x t j
      → conflict (said x.book).disturbs (grant x t i).transmission (grant x t j).transmission ≡ false
  -- every instance whose deadline slot has been run has had each step, in order, in separate slots, not before its release, the last
  -- within the reported bound; and so has one whose last slot by that bound has been run
  pub kept : (l : ℕ) (v : Instance) → l < (said x.book).flows → HasRun x (deadline_slot (said x.book) l v) → Kept x l v (R l)
  pub kept_early : (l : ℕ) (v : Instance) → l < (said x.book).flows → HasRun x (last_slot (said x.book) l v (R l)) → Kept x l v (R l)
  -- no flow, instance and step is granted twice, in one slot or in two
  pub once :
      (t u : Slot) (i j : ℕ)
      → Counted x t i
      → Counted x u j
      → (grant x t i).id ≡ (grant x u j).id
      → (grant x t i).instance ≡ (grant x u j).instance
      → (grant x t i).step ≡ (grant x u j).step
      → (t ≡ u) × (i ≡ j)
  -- nothing else is granted
  pub due : (t : Slot) (j : ℕ) → Counted x t j → Due x t j

-- DEMAND 3. An accepted table, not altered, run from slot 0 for any number of slots to the end of the clock
abbrev pub Demand3 : Program → Type 0
Demand3 p = (x : Ran) (checked : Checked) → p.check x.book checked → Done checked.answer → RunBy p x → Honoured x (reported checked)
