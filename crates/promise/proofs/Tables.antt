-- One table, one book: where add is done, the new table is written as a book that check accepts with the table's bounds, that book is read
-- and written again as it stands, and its runs keep what is owed. Leans on the trade's round trips. Assumes nothing.
use Prim.Native.Nat.{ℕ, ◌≤◌}
use mathlib.Core.Path.{◌≡◌, refl, sym, ◌∙◌, ap, subst}
use mathlib.Core.List.{List}
use lib.ListN.{length}
use Rattle.trade.specs.Bytes.{over}
use Rattle.trade.specs.Layout.{Sections}
use Rattle.trade.specs.Facts.{facts_of}
use Rattle.trade.specs.Table.{book_of, table_of}
use Rattle.trade.specs.Kept.{Tabled, figure_in, figures_of, kept_of, RightFigures}
use Rattle.trade.specs.Answers.{done}
use Rattle.trade.specs.Bound.{measure, code9}
use Rattle.trade.specs.Calls.{Written, Adding, Changed, table_rules, with_flow, new_rules_by, add_answer, bounds_of, read_of, check_of, check_kept_of, write_of, add_of, add_by}
use Rattle.trade.specs.declared.answer.Answer.{Answer}
use Rattle.trade.proofs.Bytes.{take_over}
use Rattle.trade.proofs.Answers.{done_first, Passed, passed_head, passed_tail}
use Rattle.trade.proofs.Valid.{table_valid}
use Rattle.trade.proofs.Places.{alike_passed, alike_code9}
use Rattle.trade.proofs.Used.{table_same, Holds, roomy, in_memory_holds, table_in_memory, table_table}
use Rattle.trade.proofs.Calls.{written}
use Rattle.trade.proofs.RoundTrip.{write_then_read, write_then_check, kept_then_check}
use Rattle.trade.proofs.Kept.{figures_at, alike_figures}
use Rattle.promise.specs.Demands.{Program, planner, Done}
use Rattle.promise.specs.Promise.{Meets}
use Rattle.promise.specs.Tables.{book_in, OneBook, AddedRuns}
use Rattle.promise.proofs.Admits.{new_passed, with_passes}
use Rattle.promise.proofs.Promise.{planner_keeps_demand_3, by_planner}

module _ (a : Adding) (e : Done (add_answer a)) where
  -- the table that add returns passes the rules of a table, and is a table in memory
  abbrev table : Sections
  table = table_of (with_flow a)

  added : (add_of a).table ≡ kept_of (with_flow a)
  unfolding add_by
  added = done_first (add_answer a) _ _ e

  table_passes : Passed table table_rules
  table_passes = alike_passed (with_flow a) table (table_same (with_flow a)) (with_passes measure a e)

  table_holds : Holds table
  table_holds =
      in_memory_holds table (table_in_memory (with_flow a) (roomy (with_flow a) (table_valid (with_flow a) (with_passes measure a e))))
      (roomy table (table_valid table table_passes))

  table_bounds : (code9 (facts_of table)).code ≡ 0
  unfolding new_rules_by
  table_bounds =
      sym
      (ap (λ (r : Answer). r.code) (alike_code9 (with_flow a) table (table_same (with_flow a)) (with_passes measure a e)))
      ∙ passed_head (passed_tail (passed_tail (new_passed measure a e)))

  -- its figures are right,
  figures_same : figures_of (facts_of (with_flow a)) ≡ figures_of (facts_of table)
  figures_same = alike_figures (with_flow a) table (table_same (with_flow a)) (with_passes measure a e)

  flows_same : (facts_of table).flows ≡ table.flows
  unfolding facts_of
  flows_same = refl

  table_right : RightFigures (kept_of (with_flow a))
  unfolding kept_of
  table_right l h p q =
      ap (λ (figures : List ℕ). figure_in figures l h) figures_same
      ∙ figures_at (facts_of table) (table_valid table table_passes).flows l h (rw flows_same p) q

  -- its book is read as it stands
  table_read : read_of (book_of table) ≡ record { answer = done 0; table = kept_of (with_flow a) }
  unfolding kept_of
  table_read =
      write_then_read table table_holds table_passes
      ∙ rw (table_table (with_flow a) (roomy (with_flow a) (table_valid (with_flow a) (with_passes measure a e))), figures_same) refl

  -- and accepted with the table's bounds
  table_check : check_of (book_of table) ≡ record { answer = done 0; bounds = bounds_of (facts_of table) }
  table_check = write_then_check table table_holds table_passes table_bounds

  -- as the table itself is
  kept_check : check_kept_of (kept_of (with_flow a)) ≡ record { answer = done 0; bounds = bounds_of (facts_of table) }
  unfolding kept_of
  kept_check = kept_then_check (kept_of (with_flow a)) table_holds table_passes table_right ∙ table_check

  -- what is written, into a buffer with room
  module _ (buffer : List ℕ) (room : length (book_of table) ≤ length buffer) (w : Written) (c : w ≡ write_of (record { table = table; buffer = buffer })) where
    wrote : w ≡ record { answer = done (length (book_of table)); buffer = over (book_of table) buffer }
    wrote = c ∙ written table buffer table_passes room

    is_book : book_in w ≡ book_of table
    is_book = ap book_in wrote ∙ take_over (book_of table) buffer

    one_book : OneBook planner (kept_of (with_flow a)) w
    unfolding kept_of
    one_book =
        record {
          written = ap (λ (x : Written). x.answer.code) wrote;
          accepted = λ checked k. k ∙ rw is_book table_check;
          checked = λ checked k. k ∙ kept_check;
          read = λ got g. g ∙ rw is_book table_read;
          again =
              λ got g other more v d.
              d ∙ rw (g, is_book, table_read) (written table other table_passes (rw is_book at more));
          runs =
              λ x same ran.
              planner_keeps_demand_3 x (record { answer = done 0; bounds = bounds_of (facts_of table) })
              (sym (ap check_of (same ∙ is_book) ∙ table_check)) refl ran;
        }

-- ONE TABLE, ONE BOOK: from add's answer 0, through write, to the run
pub one_table_one_book : (p : Program) → Meets p → AddedRuns p
unfolding add_by kept_of
one_table_one_book p m a changed c e buffer room w d =
    let adds : changed ≡ add_of a = m.adds a changed c in
    let done_a : Done (add_answer a) = rw adds at e in
    let is : changed.table ≡ kept_of (with_flow a) = ap (λ (x : Changed). x.table) adds ∙ added a done_a in
    let writes : w ≡ write_of (record { table = table_of (with_flow a); buffer = buffer })
    = m.writes _ w d ∙ ap (λ (t : Tabled). write_of (record { table = t.sections; buffer = buffer })) is in
    let o : OneBook planner (kept_of (with_flow a)) w = one_book a done_a buffer (rw is at room) w writes in
    subst (λ (t : Tabled). OneBook p t w) (sym is)
    (record {
      written = o.written;
      accepted = λ checked k. o.accepted checked (m.checks _ checked k);
      checked = λ checked k. o.checked checked (m.checks_tables _ checked k);
      read = λ got g. o.read got (m.reads _ got g);
      again = λ got g other more v f. o.again got (m.reads _ got g) other more v (m.writes _ v f);
      runs = λ x same ran. o.runs x same (by_planner p m x ran);
    })
