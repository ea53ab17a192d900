-- Whatever the deadline count lets through the fair count does, with no bound higher: of the program that the definitions describe, and so
-- of every program that meets its contracts. Assumes nothing.
use Prim.Native.Nat.{ℕ, ◌≤◌, ◌<◌}
use mathlib.Core.Path.{◌≡◌, sym, ◌∙◌}
use mathlib.Core.Logic.{⊎_elim}
use mathlib.Core.List.{List}
use native.Mathlib.Omega.{arith}
use lib.ListN.{get_or}
use Rattle.trade.specs.Facts.{Facts, facts_of, said}
use Rattle.trade.specs.Kept.{Tabled, figure_in, kept_measure, kept_by_deadline}
use Rattle.trade.specs.Answers.{on, no_number}
use Rattle.trade.specs.Interference.{interference}
use Rattle.trade.specs.Bound.{bound_by, deadlined, by_deadline, fairly, measure, code9_by}
use Rattle.trade.specs.Calls.{Adding, Starting, book_rules, check_rules_by, check_of, check_by, check_kept_of, check_kept_by, bounds_by, enter_rules, new_rules_by, with_flow, add_answer, add_answer_by, add_of, add_by, start_answer, start_answer_by, start_of, start_by}
use Rattle.trade.proofs.First.{lt_or_ge}
use Rattle.trade.proofs.Bound.{bound_admissible, boundless_false}
use Rattle.trade.proofs.Monotone.{fair_lower, fair_accepts}
use Rattle.trade.proofs.Answers.{done_first, Passed, passed_none, passed_more, passed_head, passed_tail, passed_append, passed_first, passed_others, passed_on, passed_look, passed_done, first_of_passed, first_of_done, given_first_passed}
use Rattle.trade.proofs.Valid.{Valid, table_valid, book_valid}
use Rattle.trade.proofs.RoundTrip.{nine_by, book_nine, kept_nine}
use Rattle.promise.specs.Demands.{Program, planner, Done}
use Rattle.promise.specs.Promise.{Meets}
use Rattle.promise.specs.Fair.{StillAccepted, NoWorse}
use Rattle.promise.proofs.Meets.{by_definition, by_meeting}
use Rattle.promise.proofs.Accepted.{listed_bound, listed_elsewhere, code9_exactly, book_passed, kept_formed}
use Rattle.promise.proofs.Admits.{kept_passed, others_passed, new_passed, with_passes}

-- FACTS that pass their rules, by any costs: where the deadline count does not give code 9,
module _ (f : Facts) (v : Valid f) (cost : ℕ → ℕ → ℕ) (e : Done (code9_by f (deadlined f cost))) where
  had : (l : ℕ) → l < f.flows → bound_by f (deadlined f cost) l ≤ f.deadline l
  unfolding code9_by
  had l h = boundless_false f (deadlined f cost) l (given_first_passed 8 _ f.flows e l h)

  periods : (l : ℕ) → l < f.flows → 1 ≤ f.period l
  periods l h = (v.records l h).period.least

  -- the fair count does not either,
  fair_nine : Done (code9_by f (fairly f cost))
  fair_nine =
      (code9_exactly f (fairly f cost)).1
      (λ l h. (bound_by f (fairly f cost) l, bound_admissible f (fairly f cost) l (fair_accepts f cost periods had l h)))

  -- and none of its bounds is higher
  fair_listed : (l : ℕ) → get_or (bounds_by f (fairly f cost)) l 0 ≤ get_or (bounds_by f (deadlined f cost)) l 0
  fair_listed l =
      ⊎_elim
      (λ (h : l < f.flows).
      rw (listed_bound f (fairly f cost) l h, listed_bound f (deadlined f cost) l h)
      (fair_lower f cost periods l h (λ k b. had k (omega arith))))
      (λ (h : f.flows ≤ l). rw (listed_elsewhere f (fairly f cost) l h) (omega arith))
      (lt_or_ge l f.flows)

  -- so what a check comes to by the one is still accepted by the other
  fair_checked : StillAccepted (nine_by f (deadlined f cost)) (nine_by f (fairly f cost))
  fair_checked =
      record {
        accepted = fair_nine;
        no_higher =
            λ l.
            rw (done_first (code9_by f (fairly f cost)) _ _ fair_nine, done_first (code9_by f (deadlined f cost)) _ _ e)
            (fair_listed l);
      }

-- CHECK of a book,
checks : (b : List ℕ) → Done (check_by by_deadline b).answer → StillAccepted (check_by by_deadline b) (check_of b)
checks b e =
    let p = book_passed by_deadline b e in
    rw (book_nine by_deadline b p, book_nine measure b p)
    (fair_checked (said b) (book_valid b p) (interference (said b)) (rw (book_nine by_deadline b p) at e))

-- and of a table
checks_tables : (t : Tabled) → Done (check_kept_by kept_by_deadline t).answer → StillAccepted (check_kept_by kept_by_deadline t) (check_kept_of t)
checks_tables t e =
    let p = kept_formed kept_by_deadline t e in
    rw (kept_nine kept_by_deadline t p, kept_nine kept_measure t p)
    (fair_checked (facts_of t.sections) (table_valid t.sections p) (figure_in t.figures) (rw (kept_nine kept_by_deadline t p) at e))

-- ADD: what the new table has passed, it passes
new_passes : (a : Adding) → Done (add_answer_by by_deadline a) → Passed (with_flow a) (new_rules_by measure)
unfolding new_rules_by
new_passes a e =
    let p = new_passed by_deadline a e in
    let f : Facts = facts_of (with_flow a) in
    let nine = fair_nine f (table_valid (with_flow a) (with_passes by_deadline a e)) (interference f) (passed_head (passed_tail (passed_tail p))) in
    passed_more (passed_head p) (passed_more (passed_head (passed_tail p)) (passed_more nine passed_none))

add_same : (a : Adding) → Done (add_answer_by by_deadline a) → add_answer a ≡ add_answer_by by_deadline a
unfolding add_answer_by
add_same a e =
    passed_done no_number
    (passed_append (passed_on (λ (x : Adding). x.table) (kept_passed by_deadline a e))
    (passed_append (passed_first enter_rules _ (others_passed by_deadline a e)) (passed_on with_flow (new_passes a e))))
    ∙ sym (first_of_done _ no_number a e)

adds : (a : Adding) → Done (add_by by_deadline a).answer → add_of a ≡ add_by by_deadline a
unfolding add_by
adds a e = rw (add_same a e)

-- START: what the book has passed, it passes
book_passes : (b : List ℕ) → Passed b (check_rules_by by_deadline) → Passed b (check_rules_by measure)
unfolding check_rules_by
book_passes b p =
    let form = passed_first book_rules _ p in
    let nine = fair_nine (said b) (book_valid b form) (interference (said b)) (passed_head (passed_others book_rules _ p)) in
    passed_append form (passed_more nine passed_none)

start_same : (s : Starting) → Done (start_answer_by by_deadline s) → start_answer s ≡ start_answer_by by_deadline s
unfolding start_answer_by
start_same s e =
    let before = on (λ (x : Starting). x.book) (check_rules_by by_deadline) in
    let p = first_of_passed _ no_number s e in
    let book = passed_look (λ (x : Starting). x.book) (check_rules_by by_deadline) (passed_first before _ p) in
    passed_done no_number (passed_append (passed_on (λ (x : Starting). x.book) (book_passes s.book book)) (passed_others before _ p))
    ∙ sym (first_of_done _ no_number s e)

starts : (s : Starting) → Done (start_by by_deadline s).answer → start_of s ≡ start_by by_deadline s
unfolding start_by
starts s e = rw (start_same s e)

-- NO WORSE is the program that the definitions describe,
pub planner_no_worse : NoWorse planner
planner_no_worse =
    record {
      checks = by_definition check_of _ checks;
      checks_tables = by_definition check_kept_of _ checks_tables;
      adds = by_definition add_of _ adds;
      starts = by_definition start_of _ starts;
    }

-- and so is every program that meets its contracts
pub no_worse : (p : Program) → Meets p → NoWorse p
no_worse p m =
    let d : NoWorse planner = planner_no_worse in
    record {
      checks = by_meeting m.checks d.checks;
      checks_tables = by_meeting m.checks_tables d.checks_tables;
      adds = by_meeting m.adds d.adds;
      starts = by_meeting m.starts d.starts;
    }
