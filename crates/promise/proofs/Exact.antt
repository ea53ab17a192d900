-- Demand 2, of the program that the definitions describe and so of every program that meets its contracts. Assumes nothing.
use Prim.Native.Nat.{ℕ, ◌-◌, ◌≤◌, ◌<◌}
use mathlib.Core.Path.{◌≡◌, refl, sym, ◌∙◌, ap, subst}
use mathlib.Core.List.{List}
use native.Mathlib.Omega.{arith}
use lib.ListN.{length, take, drop, length-drop}
use borrow.Author.Tests.{leb-false}
use Rattle.trade.specs.Bytes.{Bytes, over}
use Rattle.trade.specs.Layout.{rows_distance, sections_of}
use Rattle.trade.specs.Table.{InMemory, used, book_of, table_of}
use Rattle.trade.specs.Kept.{Tabled, figures_of, kept_of, empty_kept, RightFigures}
use Rattle.trade.specs.Answers.{done, is_done, on, no_number}
use Rattle.trade.specs.Facts.{facts_of, said}
use Rattle.trade.specs.Codes.{code15_removing}
use Rattle.trade.specs.Interference.{IsInterference}
use Rattle.trade.specs.Bound.{measure}
use Rattle.trade.specs.Slot.{releases_of, greedy}
use Rattle.trade.specs.Calls.{Writing, Adding, Removing, book_rules, table_rules, old_rules, leaving, leave_rules, with_flow, without_flow, check_of, check_kept_of, read_answer, write_answer, add_answer, remove_answer, start_answer, read_of, write_of, add_of, add_by, remove_of, start_of, start_by, advance_of, advance_by}
use Rattle.promise.specs.Demands.{Program, planner, Done, DecidesBooks, WellFormed, DecidesTables, Figured, Demand2}
use Rattle.trade.proofs.Answers.{done_first, Passed, passed_head, passed_first, passed_others, passed_look, first_of_passed, given_passed}
use Rattle.trade.proofs.Valid.{table_valid, book_valid}
use Rattle.trade.proofs.Interference.{interference_largest}
use Rattle.trade.proofs.Calls.{read_done, write_done, advance_done, written_passed, written_book, written}
use Rattle.trade.proofs.Whole.{passed_framed, used_whole}
use Rattle.trade.proofs.Used.{table_same, table_facts, no_more_facts, used_full, roomy, in_memory_holds}
use Rattle.trade.proofs.Exchange.{recut_no_more}
use Rattle.trade.proofs.Kept.{alike_figures}
use Rattle.trade.proofs.RoundTrip.{write_then_read, kept_then_check, read_passes, read_book}
use Rattle.promise.specs.Promise.{Meets}
use Rattle.promise.proofs.Meets.{by_definition, by_meeting}
use Rattle.promise.proofs.Accepted.{check_decides, table_decides}
use Rattle.promise.proofs.Admits.{old_form, admits, with_passes}

-- THE TWO ROUND TRIPS
reads : (b : List ℕ) → Done (read_answer b) → read_of b ≡ record { answer = done 0; table = kept_of (sections_of b) }
unfolding read_of is_done
reads b e = rw (read_done b e)

write_read :
    (w : Writing)
    → InMemory w.table
    → Done (write_answer w)
    → read_of (take (write_of w).answer.number (write_of w).buffer) ≡ record { answer = done 0; table = kept_of w.table }
write_read w m e =
    let passed = written_passed w e in
    rw (written_book w e)
    (write_then_read w.table (in_memory_holds w.table m (roomy w.table (table_valid w.table passed))) passed)

-- the book is the last bytes of the slice, whatever stands before it
read_write :
    (b buffer : List ℕ)
    → Bytes b
    → Done (read_answer b)
    → rows_distance b ≤ length buffer
    → write_of (record { table = (read_of b).table.sections; buffer = buffer })
    ≡ record { answer = done (rows_distance b); buffer = over (drop (length b - rows_distance b) b) buffer }
unfolding read_answer kept_of
read_write b buffer bytes e room =
    let passed : Passed b book_rules = first_of_passed book_rules no_number b e in
    let same : book_of (table_of (sections_of b)) ≡ drop (length b - rows_distance b) b = read_book b passed bytes in
    let long : length (drop (length b - rows_distance b) b) ≡ rows_distance b
    = length-drop (length b - rows_distance b) b ∙ omega (arith, (passed_framed b passed).rows) in
    rw (reads b e)
    (written (table_of (sections_of b)) buffer (read_passes b passed) (rw (same, long) room) ∙ rw (same, long))

-- WHAT THE BOUND COUNTS is the customer's I: of a book, the largest count that any choice reaches
pub counts_interference : (b : List ℕ) → Done (read_answer b) → (l h : ℕ) → l < (said b).flows → IsInterference (said b) l h ((measure (said b)).cost l h)
unfolding read_answer
counts_interference b e l h below =
    interference_largest (said b) l h ((book_valid b (first_of_passed book_rules no_number b e)).records l below).len.least

-- THE CHECK OF A TABLE is that of its book
checks_book : (t : Tabled) → InMemory t.sections → WellFormed t.sections → RightFigures t → check_kept_of t ≡ check_of (book_of t.sections)
checks_book t m w right =
    let passed = first_of_passed table_rules no_number t.sections w in
    kept_then_check t (in_memory_holds t.sections m (roomy t.sections (table_valid t.sections passed))) passed right

-- THE FIGURES of a table are those of its flows: of one that is read,
read_figures : (b : List ℕ) → Done (read_of b).answer → Figured (read_of b).table
unfolding read_of read_answer kept_of
read_figures b e =
    let passed : Passed b book_rules = first_of_passed book_rules no_number b e in
    subst Figured (sym (done_first (read_answer b) (kept_of (sections_of b)) empty_kept e))
    (ap figures_of (sym (table_facts (sections_of b) ∙ ap facts_of (used_whole b passed))))

-- of one that a flow has come into,
add_figures : (a : Adding) → Done (add_of a).answer → Figured (add_of a).table
unfolding add_by kept_of
add_figures a e =
    subst Figured (sym (done_first (add_answer a) (kept_of (with_flow a)) a.table e))
    (alike_figures (with_flow a) (table_of (with_flow a)) (table_same (with_flow a)) (with_passes measure a e))

-- and of one that a flow has gone from
remove_figures : (r : Removing) → InMemory r.table.sections → Done (remove_of r).answer → Figured (remove_of r).table
unfolding remove_of remove_answer leave_rules code15_removing facts_of used kept_of without_flow
remove_figures r m e =
    let all = first_of_passed _ no_number r e in
    let form = old_form r.table (passed_look (λ (x : Removing). x.table) old_rules (passed_first (on (λ (x : Removing). x.table) old_rules) _ all)) in
    let below : r.place < r.table.sections.flows
    = leb-false _ _ (given_passed 14 _ 0 (passed_head (passed_others (on (λ (x : Removing). x.table) old_rules) _ all))) in
    let full = used_full r.table.sections (in_memory_holds r.table.sections m (roomy r.table.sections (table_valid r.table.sections form))) in
    subst Figured (sym (done_first (remove_answer r) (kept_of (without_flow r)) r.table e))
    (ap figures_of
    (sym
    (no_more_facts (without_flow r)
    (recut_no_more (used r.table.sections) (leaving r.place) full
    (record { order = omega arith; within = omega (arith, below); records = refl; steps = omega arith })))))

-- DEMAND 2 is kept by the program that the definitions describe,
pub planner_keeps_demand_2 : Demand2 planner
unfolding read_of write_of add_by remove_of start_by advance_by is_done
planner_keeps_demand_2 =
    record {
      reads = by_definition read_of _ reads;
      writes = by_definition write_of _ (λ w e. rw (write_done w e));
      write_read = by_definition write_of _ (λ w m e got r. r ∙ write_read w m e);
      read_write = by_definition read_of _ (λ b bytes e buffer room written w. w ∙ read_write b buffer bytes e room);
      decides = check_decides measure;
      decides_tables = table_decides;
      checks_books = by_definition check_kept_of _ (λ t m w right other c. checks_book t m w right ∙ sym c);
      admits = by_definition add_of _ admits;
      adds = by_definition add_of _ (λ a e. done_first (add_answer a) _ _ e);
      removes = by_definition remove_of _ (λ r e. done_first (remove_answer r) _ _ e);
      read_figures = by_definition read_of _ read_figures;
      add_figures = by_definition add_of _ add_figures;
      remove_figures = by_definition remove_of _ remove_figures;
      starts = by_definition start_of _ (λ s e. done_first (start_answer s) _ _ e);
      grants = by_definition advance_of _ (λ a e. rw (advance_done greedy releases_of a e));
    }

-- and so by every program that meets its contracts
decides_by : (p : Program) → Meets p → DecidesBooks measure p.check
decides_by p m =
    let d : DecidesBooks measure planner.check = check_decides measure in
    record {
      accepts = by_meeting m.checks d.accepts;
      bounded = by_meeting m.checks d.bounded;
      smallest = by_meeting m.checks d.smallest;
      elsewhere = by_meeting m.checks d.elsewhere;
      places = by_meeting m.checks d.places;
    }

decides_tables_by : (p : Program) → Meets p → DecidesTables measure p.check_table
decides_tables_by p m =
    let d : DecidesTables measure planner.check_table = table_decides in
    record {
      accepts = λ t given (right, c). d.accepts t given (right, m.checks_tables t given c);
      bounded = λ t given (right, c). d.bounded t given (right, m.checks_tables t given c);
      smallest = λ t given (right, c). d.smallest t given (right, m.checks_tables t given c);
      elsewhere = λ t given (right, c). d.elsewhere t given (right, m.checks_tables t given c);
      places = λ t given (right, c). d.places t given (right, m.checks_tables t given c);
    }

pub keeps_demand_2 : (p : Program) → Meets p → Demand2 p
keeps_demand_2 p m =
    let d : Demand2 planner = planner_keeps_demand_2 in
    record {
      reads = by_meeting m.reads d.reads;
      writes = by_meeting m.writes d.writes;
      write_read = λ w written c memory e got r. d.write_read w written (m.writes w written c) memory e got (m.reads _ got r);
      read_write = λ b got c bytes e buffer room written w. d.read_write b got (m.reads b got c) bytes e buffer room written (m.writes _ written w);
      decides = decides_by p m;
      decides_tables = decides_tables_by p m;
      checks_books = λ t checked c memory w right other o. d.checks_books t checked (m.checks_tables t checked c) memory w right other (m.checks _ other o);
      admits = by_meeting m.adds d.admits;
      adds = by_meeting m.adds d.adds;
      removes = by_meeting m.removes d.removes;
      read_figures = by_meeting m.reads d.read_figures;
      add_figures = by_meeting m.adds d.add_figures;
      remove_figures = by_meeting m.removes d.remove_figures;
      starts = by_meeting m.starts d.starts;
      grants = by_meeting m.advances d.grants;
    }
