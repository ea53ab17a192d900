-- The table of worked cases holds: each line is computed from the definitions.
-- Assumes nothing.
use Prim.Native.Nat.{ℕ, zero, suc, ◌<◌, ◌≤◌}
use mathlib.Core.Path.{◌≡◌, refl, ap, ◌∙◌}
use mathlib.Core.Bool.{Bool, true, false, cond}
use mathlib.Core.List.{List, [], ◌∷◌, ◌++◌}
use native.Mathlib.Omega.{arith}
use lib.Dec.{eqb, ltb}
use lib.ListN.{replicate}
use borrow.Author.Tests.{le-ltb, ne_eqb}
use Rattle.trade.specs.declared.answer.Answer.{Answer}
use Rattle.trade.specs.Limits.{most_flows, end_of_clock}
use Rattle.trade.specs.First.{first_from, first, some, sum_to, largest_from, list_from, list_to}
use Rattle.trade.specs.Bytes.{word, long, two_bytes, four_bytes, bit, part, padded, over}
use Rattle.trade.specs.Layout.{trailer, rows_distance, records_distance, steps_distance, node_count, flow_count, sections_of, field}
use Rattle.trade.specs.Facts.{Facts, disturbs_in, step_in, facts_of, said, first_step, all_steps, step_of}
use Rattle.trade.specs.Table.{steps_distance_of, records_distance_of, rows_distance_of, trailer_of, used, book_of, table_of, empty_table}
use Rattle.trade.specs.Answers.{done, is_done, given, given_first, first_of, on}
use Rattle.trade.specs.Conflict.{meet, conflict, conflicts_with, conflict_free}
use Rattle.trade.specs.Interference.{one, count_of, worst, worst_path, matrix, interference}
use Rattle.trade.specs.Bound.{ceil, instances, slots_needed, admissible, bound_by, bounds_above, boundless_by, accepted_by, code9_by}
use Rattle.trade.specs.Slot.{State, at_start, released, instance_at, releases_of, done_now, unfinished, next_step, going, greedy, granted_by, among, next_state_by, run_by, grant_of, grants_of}
use Rattle.trade.specs.Area.{state_in, area_of}
use Rattle.trade.specs.Codes.{outside, code1, code2, code3, code4, bad_row, code5, bad_record, code6, code7, first_of_plan, repeats, goes_on, bad_step, code8, code14, code15_adding, code15_removing, code13}
use Rattle.trade.specs.SlotCodes.{bad_place, code10, code12, overrun, code11}
use Rattle.trade.specs.Exchange.{spliced, recut}
use Rattle.trade.specs.Kept.{figure_in, square, figures_of, kept_of, empty_kept, wrong_line, code17}
use Rattle.trade.specs.Calls.{Advancing, book_rules, table_rules, read_answer, read_of, check_rules_by, check_answer_by, bounds_by, check_by, kept_rules_by, check_kept_by, old_rules, write_answer, write_of, record_of, with_flow, enter_rules, new_rules_by, add_answer_by, add_by, without_flow, leave_rules, remove_answer, remove_of, start_answer_by, start_area, start_by, flows_granted_by, advance_answer_by, next_area_by, grants_in_by, advance_by, advance_answer, grants_in, advance_of}
use Rattle.trade.specs.Cases.{book_a, book_b, book_of_none, deadline_at, lent, grant_room, area_after, slot_of, one_disturbs, none_disturbs, bare_rows, bare, three_by_three, checks, table_a, Cases}
use Rattle.trade.proofs.Bytes.{long_four_bytes}
use Rattle.trade.proofs.Answers.{done_first, passed_none, passed_more, passed_done}
use Rattle.trade.proofs.Calls.{advance_done}

-- all that a case is computed with
unfoldable pub computed : ℕ
unfolding first_from first some sum_to largest_from list_from list_to word long two_bytes four_bytes bit part padded over trailer rows_distance records_distance steps_distance node_count flow_count sections_of field disturbs_in step_in facts_of said first_step all_steps step_of steps_distance_of records_distance_of rows_distance_of trailer_of used book_of table_of empty_table is_done given given_first first_of on meet conflict conflicts_with conflict_free one count_of worst worst_path matrix interference ceil instances slots_needed admissible bound_by bounds_above boundless_by accepted_by at_start released instance_at done_now unfinished next_step going greedy granted_by among next_state_by run_by grant_of grants_of state_in area_of outside code1 code2 code3 code4 bad_row code5 bad_record code6 code7 first_of_plan repeats goes_on bad_step code8 code14 code15_adding code15_removing code9_by code13 bad_place code10 code12 overrun code11 book_rules table_rules read_answer read_of check_rules_by check_answer_by bounds_by check_by figure_in square figures_of kept_of empty_kept wrong_line code17 kept_rules_by check_kept_by old_rules write_answer write_of record_of spliced recut with_flow enter_rules new_rules_by add_answer_by add_by without_flow leave_rules remove_answer remove_of start_answer_by start_area start_by flows_granted_by advance_answer_by next_area_by grants_in_by advance_by book_a book_b book_of_none deadline_at lent grant_room area_after slot_of one_disturbs none_disturbs bare_rows bare three_by_three checks table_a
computed = 0

-- an advance of the book of none
abbrev slot_of_none : List ℕ → List ℕ → Advancing
slot_of_none area grants = record { book = book_of_none; area = area; grants = grants }

-- one that is done has no grant to count or to write
every_slot_empty :
    (area grants : List ℕ)
    → (advance_of (slot_of_none area grants)).answer.code ≡ 0
    → ((advance_of (slot_of_none area grants)).answer.number ≡ 0) × ((advance_of (slot_of_none area grants)).grants ≡ grants)
unfolding computed
every_slot_empty area grants e =
    (ap (λ (r : Answer). r.number) (advance_done greedy releases_of (slot_of_none area grants) e), either (is_done (advance_answer (slot_of_none area grants))))
  where
    either : (b : Bool) → ◌≡◌ {A = List ℕ} (cond b (over (grants_in (slot_of_none area grants)) grants) grants) grants
    either true = refl
    either false = refl

-- its area holds the slot and nothing else
clock_only : ℕ → List ℕ
clock_only k = four_bytes k ++ replicate most_flows 0

module _ (k : ℕ) (h : k < end_of_clock) where
  read_back : (state_in (clock_only k)).slot ≡ k
  unfolding computed clock_only
  read_back = long_four_bytes k (replicate most_flows 0) (omega arith)

  slot_done : advance_answer (slot_of_none (clock_only k) []) ≡ done 0
  unfolding computed clock_only
  slot_done =
      passed_done {x = slot_of_none (clock_only k) []} {rules = (λ a. code10 none (releases_of none run) run) ∷ (λ a. code12 run) ∷ []} (λ a. 0)
      (passed_more formed (passed_more running passed_none))
    where
      none : Facts
      none = said book_of_none

      run : State
      run = state_in (clock_only k)

      formed : (code10 none (releases_of none run) run).code ≡ 0
      formed = let e : ltb end_of_clock run.slot ≡ false = le-ltb end_of_clock run.slot (omega (arith, read_back)) in rw (e, code10)

      running : (code12 run).code ≡ 0
      running = let e : eqb run.slot end_of_clock ≡ false = ne_eqb run.slot end_of_clock (λ e. omega (arith, read_back)) in rw (e, code12)

  slot_over : (advance_of (slot_of_none (clock_only k) [])).area ≡ clock_only (suc k)
  unfolding computed clock_only
  slot_over =
      done_first (advance_answer (slot_of_none (clock_only k) [])) _ _ (ap (λ (a : Answer). a.code) slot_done)
      ∙ ap (λ (s : ℕ). clock_only (suc s)) read_back

clock_only_lem : (k : ℕ) → k ≤ end_of_clock → area_after book_of_none k ≡ clock_only k
unfolding computed clock_only
clock_only_lem zero h = refl
clock_only_lem (suc k) h = ap (λ (area : List ℕ). (advance_of (slot_of_none area [])).area) (clock_only_lem k (omega arith)) ∙ slot_over k h

-- so every slot of the clock is done
every_slot_done : (k : ℕ) → k < end_of_clock → (slot_of book_of_none k).answer ≡ done 0
unfolding computed
every_slot_done k h = ap (λ (area : List ℕ). (advance_of (slot_of_none area [])).answer) (clock_only_lem k (omega arith)) ∙ slot_done k h

pub cases_hold : Cases
unfolding computed
cases_hold =
    record {
      case1 = refl;
      case1_length = refl;
      case1_written = refl;
      case2 = refl;
      case2_conflicts = refl;
      case3 = refl;
      case4_accepted = refl;
      case4_refused = refl;
      case5_slot2 = refl;
      case5_slot3 = refl;
      case6 = refl;
      case7 = refl;
      case7_slides = refl;
      case9 = refl;
      case10_free = refl;
      case10_conflict = refl;
      case10_acknowledged = refl;
      case11_length = refl;
      case11_accepted = refl;
      case11_started = refl;
      case11_slots = every_slot_done;
      case11_empty = every_slot_empty;
    }
