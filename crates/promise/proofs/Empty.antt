-- The demands turn the empty programs away: on books A and B each breaks the demand that is named for it. What the planner
-- does there is taken from the table of proved cases. Assumes nothing.
use Prim.Native.Nat.{ℕ, zero, suc, ◌*◌, ◌≤◌, ◌<◌}
use mathlib.Core.Path.{◌≡◌, refl, sym, ◌∙◌, ap}
use mathlib.Core.List.{List}
use native.Mathlib.Omega.{arith}
use native.Mathlib.Nat.{le_antisymm, zero-add}
use lib.ListN.{length, get_or, take, length-replicate}
use Rattle.trade.specs.Limits.{area_bytes, grant_bytes, end_of_clock}
use Rattle.trade.specs.Bytes.{word, part, over}
use Rattle.trade.specs.Layout.{trailer, flow_count, records_distance, sections_of, field}
use Rattle.trade.specs.Facts.{facts_of, said}
use Rattle.trade.specs.Answers.{is_done, no_number}
use Rattle.trade.specs.declared.answer.Answer.{Answer}
use Rattle.trade.specs.declared.clock.Instance.{Instance}
use Rattle.trade.specs.declared.clock.Step.{Step}
use Rattle.trade.specs.Bound.{measure, bound}
use Rattle.trade.specs.Slot.{releases_of, greedy}
use Rattle.trade.specs.Calls.{Checked, Started, Advancing, Advanced, read_answer, flows_granted, advance_answer, check_of, check_by, advance_of, advance_by}
use Rattle.trade.specs.Cases.{book_a, book_b, lent, grant_room, area_after, slot_of}
use Rattle.trade.proofs.Bound.{bound_smallest}
use Rattle.trade.proofs.Calls.{advance_done}
use Rattle.trade.proofs.Cases.{cases_hold}
use Rattle.trade.proofs.Answers.{passed_done}
use Rattle.promise.specs.Demands.{Program, Answers, Always, Done, Refused, reported, Ran, RunBy, HasRun, area_before, release_of, deadline_slot, Kept, Honoured, Demand2, Demand3}
use Rattle.promise.specs.Empty.{Accepting, StopsAt, TurnedAway}
use Rattle.promise.proofs.Accepted.{book_passed, accepted_admissible, reported_bound}

-- what check says of the two books
accepts_A : Done (check_of book_a).answer
accepts_A = ap (λ (c : Checked). c.answer.code) cases_hold.case3

accepts_B : Done (check_of book_b).answer
accepts_B = ap (λ (c : Checked). c.answer.code) cases_hold.case6

flows_A : (said book_a).flows ≡ 2
unfolding said facts_of sections_of flow_count trailer book_a
flows_A = refl

flows_B : (said book_b).flows ≡ 3
unfolding said facts_of sections_of flow_count trailer book_b
flows_B = refl

bound_A : bound (said book_a) 0 ≡ 3
bound_A =
    sym (reported_bound measure book_a accepts_A 0 (omega (arith, flows_A))) ∙ ap (λ (c : Checked). get_or c.bounds 0 0) cases_hold.case3

bound_A_below : bound (said book_a) 1 ≡ 5
bound_A_below =
    sym (reported_bound measure book_a accepts_A 1 (omega (arith, flows_A))) ∙ ap (λ (c : Checked). get_or c.bounds 1 0) cases_hold.case3

bound_B : bound (said book_b) 0 ≡ 5
bound_B =
    sym (reported_bound measure book_b accepts_B 0 (omega (arith, flows_B))) ∙ ap (λ (c : Checked). get_or c.bounds 0 0) cases_hold.case6

-- slots 2 and 3 of book A, which each have one grant
slot_A : ℕ → Advancing
slot_A k = record { book = book_a; area = area_after book_a k; grants = grant_room book_a }

done_2 : Done (advance_answer (slot_A 2))
unfolding slot_A slot_of advance_by
done_2 = ap (λ (a : Advanced). a.answer.code) cases_hold.case5_slot2

done_3 : Done (advance_answer (slot_A 3))
unfolding slot_A slot_of advance_by
done_3 = ap (λ (a : Advanced). a.answer.code) cases_hold.case5_slot3

-- book A and the memory lent for its run
length_lent : (count : ℕ) → length (lent count) ≡ count
unfolding lent
length_lent count = length-replicate count _

-- its first flow has three steps, a period and a deadline of ten slots, and its first release is in slot 0
len_A : (said book_a).len 0 ≡ 3
unfolding said facts_of sections_of field word part trailer records_distance flow_count book_a
len_A = refl

deadline_A : (said book_a).deadline 0 ≡ 10
unfolding said facts_of sections_of field word part trailer records_distance flow_count book_a
deadline_A = refl

release_A : (v : Instance) → release_of (said book_a) 0 v ≡ v.0 * 10
unfolding release_of said facts_of sections_of field word part trailer records_distance flow_count book_a
release_A v = zero-add (v.0 * 10)

-- of any program that gives something for whatever it is handed
module _ (p : Program) (answers : Answers p) where
  -- one that keeps demand 2 accepts both books, with the planner's bounds,
  module _ (d : Demand2 p) (b : List ℕ) (accepted : Done (check_of b).answer) where
    abbrev checked : Checked
    checked = (answers.check b).0

    accepts : Done checked.answer
    unfolding read_answer
    accepts =
        (d.decides.accepts b checked (answers.check b).1
        (ap (λ (a : Answer). a.code) (passed_done no_number (book_passed measure b accepted)))
        ).1
        (λ l h. (bound (said b) l, accepted_admissible measure b accepted l h))

    reports : (l : ℕ) → l < (said b).flows → reported checked l ≡ bound (said b) l
    reports l h =
        le_antisymm
        (d.decides.smallest b checked (answers.check b).1 accepts l h (bound (said b) l) (accepted_admissible measure b accepted l h))
        (bound_smallest (said b) (measure (said b)) l (reported checked l) (d.decides.bounded b checked (answers.check b).1 accepts l h))

  -- and advances as the planner does
  advances : Demand2 p → (a : Advancing) → Done (advance_answer a) → (answers.advance a).0 ≡ advance_of a
  unfolding advance_by is_done
  advances d a e = d.grants a _ (answers.advance a).1 e ∙ rw (advance_done greedy releases_of a e)

  slot_2 : Demand2 p → (answers.advance (slot_A 2)).0 ≡ slot_of book_a 2
  unfolding slot_A slot_of
  slot_2 d = advances d (slot_A 2) done_2

  slot_3 : Demand2 p → (answers.advance (slot_A 3)).0 ≡ slot_of book_a 3
  unfolding slot_A slot_of
  slot_3 d = advances d (slot_A 3) done_3

  -- REFUSING ALL TABLES: the flows of book A have response bounds
  refusing_all : Always p.check (λ b given. Refused given.answer) → Demand2 p → ⊥
  refusing_all refuses d = refuses book_a _ (answers.check book_a).1 (accepts d book_a accepts_A)

  -- ONE CONSTANT BOUND: the smallest bounds of book A differ
  same_bound :
      (one_bound : ℕ)
      → Always p.check (λ b given. Done given.answer → (l : ℕ) → l < (said b).flows → reported given l ≡ one_bound)
      → Demand2 p
      → ⊥
  same_bound one_bound same d =
      let is = same book_a _ (answers.check book_a).1 (accepts d book_a accepts_A) in
      omega (
        arith,
        bound_A,
        bound_A_below,
        is 0 (omega (arith, flows_A)),
        is 1 (omega (arith, flows_A)),
        reports d book_a accepts_A 0 (omega (arith, flows_A)),
        reports d book_a accepts_A 1 (omega (arith, flows_A)),
      )

  -- ONE CONSTANT BOUND LIST: the smallest bounds of books A and B differ
  same_bounds : (bounds : List ℕ) → Always p.check (λ b given. Done given.answer → given.bounds ≡ bounds) → Demand2 p → ⊥
  same_bounds bounds same d =
      let a : get_or bounds 0 0 ≡ bound (said book_a) 0
      = ap (λ (bs : List ℕ). get_or bs 0 0) (sym (same book_a _ (answers.check book_a).1 (accepts d book_a accepts_A)))
      ∙ reports d book_a accepts_A 0 (omega (arith, flows_A)) in
      let b : get_or bounds 0 0 ≡ bound (said book_b) 0
      = ap (λ (bs : List ℕ). get_or bs 0 0) (sym (same book_b _ (answers.check book_b).1 (accepts d book_b accepts_B)))
      ∙ reports d book_b accepts_B 0 (omega (arith, flows_B)) in
      omega (arith, bound_A, bound_B)

  -- ONE CONSTANT GRANT LIST: slot 2 of book A grants flow 7, and slot 3 flow 9
  same_grants :
      (grants : List ℕ) (count : ℕ)
      → Always p.advance (λ a given. Done given.answer → (given.answer.number ≡ count) × (given.grants ≡ take (length a.grants) (over grants a.grants)))
      → Demand2 p
      → ⊥
  unfolding slot_A
  same_grants grants count same d =
      let seven : get_or (take (length (grant_room book_a)) (over grants (grant_room book_a))) 1 0 ≡ 7
      = ap (λ (bs : List ℕ). get_or bs 1 0) (sym (same (slot_A 2) _ (answers.advance (slot_A 2)).1 (ap (λ (a : Advanced). a.answer.code) (slot_2 d ∙ cases_hold.case5_slot2))).1)
      ∙ ap (λ (a : Advanced). get_or a.grants 1 0) (slot_2 d ∙ cases_hold.case5_slot2) in
      let nine : get_or (take (length (grant_room book_a)) (over grants (grant_room book_a))) 1 0 ≡ 9
      = ap (λ (bs : List ℕ). get_or bs 1 0) (sym (same (slot_A 3) _ (answers.advance (slot_A 3)).1 (ap (λ (a : Advanced). a.answer.code) (slot_3 d ∙ cases_hold.case5_slot3))).1)
      ∙ ap (λ (a : Advanced). get_or a.grants 1 0) (slot_3 d ∙ cases_hold.case5_slot3) in
      omega arith

  -- GRANTING NOTHING: slot 2 of book A has one grant
  granting_nothing : Always p.advance (λ a given. Done given.answer → given.answer.number ≡ 0) → Demand2 p → ⊥
  granting_nothing none d =
      let e : (answers.advance (slot_A 2)).0 ≡ _ = slot_2 d ∙ cases_hold.case5_slot2 in
      let zero_grants : (answers.advance (slot_A 2)).0.answer.number ≡ 0
      = none (slot_A 2) _ (answers.advance (slot_A 2)).1 (ap (λ (a : Advanced). a.answer.code) e) in
      omega (arith, ap (λ (a : Advanced). a.answer.number) e)

  -- AN INVENTED COUNT, wherever it is not that of the flows granted
  inventing_counts :
      (a : Advancing) (given : Advanced)
      → p.advance a given
      → Done (advance_answer a)
      → (given.answer.number ≡ length (flows_granted a) → ⊥)
      → Demand2 p
      → ⊥
  inventing_counts a given c e wrong d = wrong (ap (λ (r : Advanced). r.answer.number) (d.grants a given c e))

  -- A RUN of book A by the program, for so many slots
  handed : List ℕ → Advancing
  handed area = record { book = book_a; area = area; grants = grant_room book_a }

  start_A : (given : Started) × p.start (record { book = book_a; area = lent area_bytes }) given
  start_A = answers.start (record { book = book_a; area = lent area_bytes })

  slot_by : ℕ → Advanced
  slot_by zero = (answers.advance (handed start_A.0.area)).0
  slot_by (suc t) = (answers.advance (handed (slot_by t).area)).0

  run_A : ℕ → Ran
  run_A count =
      record {
        book = book_a;
        area = lent area_bytes;
        grants = λ t. grant_room book_a;
        count = count;
        started = start_A.0;
        advanced = λ t. slot_by t.0;
      }

  advances_A : (count t : ℕ) → p.advance (handed (area_before (run_A count) t)) (slot_by t)
  unfolding area_before run_A slot_by
  advances_A count zero = (answers.advance (handed start_A.0.area)).1
  advances_A count (suc t) = (answers.advance (handed (slot_by t).area)).1

  ran_A : (count : ℕ) → RunBy p (run_A count)
  unfolding run_A handed grant_room said facts_of sections_of start_A
  ran_A count =
      record {
        area = omega (arith, length_lent area_bytes);
        grants = λ t h. omega (arith, length_lent (grant_bytes * flow_count book_a));
        starts = start_A.1;
        advances = λ t h. advances_A count t.0;
      }

  -- STOPPING at slot k: the first step of instance k of flow 7, whose deadline slot is 10 k + 9, goes in none of its slots
  stopping : Accepting p → (k : ℕ) → 10 * suc k ≤ end_of_clock → StopsAt k p → Demand3 p → ⊥
  unfolding run_A check_by
  stopping accepting k room stops d =
      let x : Ran = run_A (10 * suc k) in
      let v : Instance = record { 0 = k } in
      let first_step : Step = record { 0 = 0 } in
      let h : Honoured x (reported (answers.check book_a).0)
      = d x (answers.check book_a).0 (answers.check book_a).1 (accepting book_a _ (answers.check book_a).1 accepts_A) (ran_A (10 * suc k)) in
      let last : HasRun x (deadline_slot (said book_a) 0 v)
      = h.runs (deadline_slot (said book_a) 0 v) (omega (arith, release_A v, deadline_A)) (omega (arith, release_A v, deadline_A)) in
      let kept : Kept x 0 v (reported (answers.check book_a).0 0) = h.kept 0 v (omega (arith, flows_A)) last in
      let (j, counted, is) = kept.granted first_step (omega (arith, len_A)) in
      let idle : (x.advanced (kept.slot first_step)).answer.number ≡ 0
      = stops x (ran_A (10 * suc k)) (kept.slot first_step) (omega (arith, release_A v, kept.released first_step (omega (arith, len_A)))) counted.run in
      omega (arith, counted.below, idle)

  -- THE EMPTY PROGRAMS are turned away
  pub empty_programs_turned_away : TurnedAway p
  empty_programs_turned_away =
      record {
        refusing_all = refusing_all;
        same_bound = same_bound;
        same_bounds = same_bounds;
        same_grants = same_grants;
        granting_nothing = granting_nothing;
        stopping = stopping;
        bounds_past_the_clock = λ accepting past stops. stopping accepting 0 (omega arith) stops;
        inventing_counts = inventing_counts;
        one_more =
            λ more d.
            inventing_counts (slot_A 2) _ (answers.advance (slot_A 2)).1 done_2
            (λ e. omega (arith, more (slot_A 2) _ (answers.advance (slot_A 2)).1 done_2)) d;
      }
