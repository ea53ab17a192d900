-- Taking a flow out never hurts: of the program that the definitions describe, and so of every program that meets its contracts. Leans on the trade's
-- Removed and Prefix. Assumes nothing.
use Prim.Native.Nat.{ℕ, ◌+◌, ◌-◌, ◌*◌, ◌≤◌, ◌<◌}
use mathlib.Core.Path.{◌≡◌, refl, sym, ◌∙◌, ap}
use mathlib.Core.Bool.{Bool}
use mathlib.Core.List.{List, ◌++◌, append_assoc}
use native.Mathlib.Omega.{arith}
use lib.ListN.{length, get_or, take, drop, length-append, get_or-append}
use lib.Seq.{get_or-append-add, take-append_seam}
use Rattle.trade.specs.Limits.{end_of_clock, grant_bytes}
use Rattle.trade.specs.Bytes.{over}
use Rattle.trade.specs.Layout.{Sections}
use Rattle.trade.specs.Facts.{Facts, facts_of, said}
use Rattle.trade.specs.Table.{InMemory, used, book_of, table_of}
use Rattle.trade.specs.Kept.{Tabled, RightFigures, kept_of, kept_measure}
use Rattle.trade.specs.Answers.{done}
use Rattle.trade.specs.Bound.{measure, bound_by, code9, code9_by}
use Rattle.trade.specs.Exchange.{before_out}
use Rattle.trade.specs.Slot.{Rule, unfinished, going, greedy, granted_by, grant_of, grants_of}
use Rattle.trade.specs.Calls.{Checked, Removing, Changed, Advanced, table_rules, without_flow, remove_answer, remove_of, bounds_of, check_of, check_kept_of}
use Rattle.trade.specs.declared.answer.Answer.{Answer}
use Rattle.trade.specs.declared.clock.Slot.{Slot}
use Rattle.trade.specs.declared.state.Grant.{Grant}
use Rattle.trade.proofs.Bound.{bound_admissible, boundless_false}
use Rattle.trade.proofs.Answers.{done_first, Passed, given_first_passed}
use Rattle.trade.proofs.Order.{among_at}
use Rattle.trade.proofs.Valid.{table_valid}
use Rattle.trade.proofs.Alike.{Alike}
use Rattle.trade.proofs.Places.{alike_passed, alike_code9, alike_bounds}
use Rattle.trade.proofs.Used.{Holds, used_same, table_same, table_facts, table_table, roomy, in_memory_holds, table_in_memory}
use Rattle.trade.proofs.RoundTrip.{book_said, kept_right, kept_then_check, write_then_check}
use Rattle.trade.proofs.Kept.{figures_at}
use Rattle.trade.proofs.SlotLaws.{going_below, grants_append, length_grants}
use Rattle.trade.proofs.Prefix.{greedy_local, Behind, going_behind, prefix_runs}
use Rattle.trade.proofs.Taken.{was_listed}
use Rattle.trade.proofs.TakenRules.{alike_above}
use Rattle.trade.proofs.Removed.{holds, taken, after_passed, bound_removed, remove_done, left_facts}
use Rattle.promise.specs.Demands.{Program, planner, Done, Ran, RunBy, grant_at, step_grant, reported}
use Rattle.promise.specs.Promise.{Meets}
use Rattle.promise.specs.Removal.{MayGo, GrantOf, SameAbove, Unhurt, NeverHurts}
use Rattle.promise.proofs.Accepted.{listed_bound, code9_exactly, kept_formed}
use Rattle.promise.proofs.Grants.{length_grant}
use Rattle.promise.proofs.Sound.{greedy_sound}
use Rattle.promise.proofs.Slots.{AcceptedRun, facts, due, run, goes, in_slot}
use Rattle.promise.proofs.Promise.{grant_is, runs_clock, by_planner}

-- 1 AND 2, of the definitions
module _
    (r : Removing) (m : InMemory r.table.sections) (right : RightFigures r.table) (e : Done (check_kept_of r.table).answer)
    (there : r.place < r.table.sections.flows)
  where
    abbrev table : Sections
    table = r.table.sections

    abbrev left : Sections
    left = table_of (without_flow r)

    -- the flows that were, and those that are left
    abbrev before : Facts
    before = facts_of (used table)

    abbrev after : Facts
    after = facts_of (without_flow r)

    formed : Passed table table_rules
    formed = kept_formed kept_measure r.table e

    is_done_lem : Done (remove_answer r)
    is_done_lem = remove_done r m formed there right

    is_left : (remove_of r).table ≡ kept_of (without_flow r)
    unfolding remove_of
    is_left = done_first (remove_answer r) _ _ is_done_lem

    -- every flow had a bound,
    old_nine : (code9 (facts_of table)).code ≡ 0
    old_nine = sym (ap (λ (c : Checked). c.answer.code) (kept_right r.table formed right)) ∙ e

    used_nine : (code9 before).code ≡ 0
    used_nine = sym (ap (λ (a : Answer). a.code) (alike_code9 table (used table) (used_same table) formed)) ∙ old_nine

    had : (l : ℕ) → l < before.flows → bound_by before (measure before) l ≤ before.deadline l
    unfolding code9_by
    had l h = boundless_false before (measure before) l (given_first_passed 8 _ before.flows used_nine l h)

    -- and has one still
    has : (l : ℕ) → l < after.flows → bound_by after (measure after) l ≤ after.deadline l
    has l h =
        omega (
          arith,
          bound_removed r m formed there l h,
          had (before_out r.place l) (was_listed r.place after before (taken r m formed there) l h),
          (taken r m formed there).deadline l h,
        )

    new_nine : (code9 after).code ≡ 0
    new_nine = (code9_exactly after (measure after)).1 (λ l h. (bound_by after (measure after) l, bound_admissible after (measure after) l (has l h)))

    -- the table that is left is accepted, with the bounds of its flows
    left_passed : Passed left table_rules
    left_passed = alike_passed (without_flow r) left (table_same (without_flow r)) (after_passed r m formed there)

    left_holds : Holds left
    left_holds =
        in_memory_holds left (table_in_memory (without_flow r) (roomy (without_flow r) (table_valid (without_flow r) (after_passed r m formed there))))
        (roomy left (table_valid left left_passed))

    left_flows : left.flows ≡ after.flows
    unfolding table_of used facts_of
    left_flows = refl

    left_right : RightFigures (kept_of (without_flow r))
    unfolding kept_of
    left_right l h p q =
        rw (left_facts r m formed there) (figures_at after (table_valid (without_flow r) (after_passed r m formed there)).flows l h (rw (← left_flows) p) q)

    left_nine : (code9 (facts_of left)).code ≡ 0
    left_nine = rw (left_facts r m formed there) new_nine

    book_left : check_of (book_of left) ≡ record { answer = done 0; bounds = bounds_of after }
    book_left = write_then_check left left_holds left_passed left_nine ∙ rw (left_facts r m formed there) refl

    kept_left : check_kept_of (kept_of (without_flow r)) ≡ record { answer = done 0; bounds = bounds_of after }
    unfolding kept_of
    kept_left = kept_then_check (kept_of (without_flow r)) left_holds left_passed left_right ∙ book_left

    -- none of which has risen
    reported_old : (l : ℕ) → l < before.flows → reported (check_kept_of r.table) l ≡ bound_by before (measure before) l
    reported_old l h =
        ap (λ (c : Checked). reported c l) (kept_right r.table formed right)
        ∙ ap (λ (bounds : List ℕ). get_or bounds l 0) (done_first (code9 (facts_of table)) (bounds_of (facts_of table)) _ old_nine ∙ alike_bounds table (used table) (used_same table) formed)
        ∙ listed_bound before (measure before) l h

    no_higher : (l : ℕ) → l < left.flows → get_or (bounds_of after) l 0 ≤ reported (check_kept_of r.table) (before_out r.place l)
    no_higher l h =
        let l< : l < after.flows = rw (← left_flows) h in
        rw (listed_bound after (measure after) l l<, reported_old (before_out r.place l) (was_listed r.place after before (taken r m formed there) l l<)) (bound_removed r m formed there l l<)

-- 3, of two runs of accepted books that are alike on the flows above a place
module _ (x : Ran) (g : AcceptedRun measure greedy x) (place : ℕ) (within : place ≤ (facts x).flows) (t : Slot) (called : t.0 < x.count) (clock : t.0 < end_of_clock) where
  -- those of them that go, and the others behind them
  abbrev rule : Rule
  rule = greedy (facts x) (due x t.0) (run greedy x t.0)

  abbrev work : ℕ → Bool
  work = unfinished (facts x) (due x t.0) (run greedy x t.0)

  abbrev grant_as : ℕ → List ℕ
  grant_as = grant_of (facts x) (due x t.0) (run greedy x t.0)

  abbrev front : List ℕ
  front = going rule work place

  behind : Behind rule work place (facts x).flows
  behind = going_behind rule work place (facts x).flows within

  split : goes greedy x t.0 ≡ front ++ behind.rest
  unfolding granted_by
  split = behind.joined

  count : (x.advanced t).answer.number ≡ length (goes greedy x t.0)
  count = ap (λ (a : Advanced). a.answer.number) (in_slot measure greedy x g t.0 called clock)

  counts : length (goes greedy x t.0) ≡ length front + length behind.rest
  counts = ap length split ∙ length-append front behind.rest

  -- the bytes of the first grants are theirs
  front_bytes : take (grant_bytes * length front) (x.advanced t).grants ≡ grants_of grant_as front
  unfolding over
  front_bytes =
      let lent : List ℕ = drop (length (grants_of grant_as (goes greedy x t.0))) (x.grants t) in
      let rest : List ℕ = grants_of grant_as behind.rest ++ lent in
      let long : grant_bytes * length front ≡ length (grants_of grant_as front)
      = sym (length_grants grant_as (length_grant (facts x) (due x t.0) (run greedy x t.0)) front) in
      ap (λ (a : Advanced). take (grant_bytes * length front) a.grants) (in_slot measure greedy x g t.0 called clock)
      ∙ ap (λ (made : List ℕ). take (grant_bytes * length front) (made ++ lent)) (ap (grants_of grant_as) split ∙ grants_append grant_as front behind.rest)
      ∙ ap (take (grant_bytes * length front)) (append_assoc (grants_of grant_as front) (grants_of grant_as behind.rest) lent)
      ∙ ap (λ (n : ℕ). take n (grants_of grant_as front ++ rest)) long
      ∙ take-append_seam (grants_of grant_as front) rest

  -- grant j is that of the j-th flow that goes
  says : (j : ℕ) → j < length (goes greedy x t.0) → (grant_at (x.advanced t).grants j).id ≡ (facts x).id (get_or (goes greedy x t.0) j 0)
  unfolding step_grant
  says j h = ap (λ (w : Grant). w.id) (grant_is measure greedy x g t (runs_clock measure greedy x g t called clock) j h)

  above : (j : ℕ) → j < length front → GrantOf (facts x) (x.advanced t) j 0 place
  above j h =
      let i : ℕ = get_or front j 0 in
      let is : get_or (goes greedy x t.0) j 0 ≡ i = ap (λ (l : List ℕ). get_or l j 0) split ∙ get_or-append front behind.rest 0 j h in
      (i, omega arith, (going_below rule work place i (among_at front j h)).0, says j (omega (arith, counts)) ∙ ap (facts x).id is)

  others : (j : ℕ) → length front ≤ j → j < (x.advanced t).answer.number → GrantOf (facts x) (x.advanced t) j place (facts x).flows
  others j h c =
      let k : ℕ = j - length front in
      let at : j ≡ length front + k = omega arith in
      let i : ℕ = get_or behind.rest k 0 in
      let is : get_or (goes greedy x t.0) j 0 ≡ i = ap (λ (l : List ℕ). get_or l j 0) split ∙ ap (λ (n : ℕ). get_or (front ++ behind.rest) n 0) at ∙ get_or-append-add front behind.rest k 0 in
      let past = behind.past i (among_at behind.rest k (omega (arith, counts, count))) in
      (i, past.0, past.1, says j (omega (arith, count)) ∙ ap (facts x).id is)

pub same_above :
    (x y : Ran) → AcceptedRun measure greedy x → AcceptedRun measure greedy y → (place : ℕ)
    → Alike place (facts y) (facts x)
    → place ≤ (facts x).flows
    → place ≤ (facts y).flows
    → (t : Slot)
    → t.0 < x.count
    → t.0 < y.count
    → t.0 < end_of_clock
    → SameAbove place (facts x) (facts y) (x.advanced t) (y.advanced t)
same_above x y g h place a mx my t cx cy clock =
    let same = prefix_runs greedy greedy_local place (facts y) (facts x) a my mx t.0 in
    let long : length (front y h place my t cy clock) ≡ length (front x g place mx t cx clock) = ap length same.goes in
    record {
      count = length (front x g place mx t cx clock);
      counted = (
        omega (arith, count x g place mx t cx clock, counts x g place mx t cx clock),
        omega (arith, long, count y h place my t cy clock, counts y h place my t cy clock),
      );
      bytes =
          front_bytes x g place mx t cx clock
          ∙ sym same.bytes
          ∙ sym (ap (λ (n : ℕ). take (grant_bytes * n) (y.advanced t).grants) (sym long) ∙ front_bytes y h place my t cy clock);
      above = λ j l. (above x g place mx t cx clock j l, above y h place my t cy clock j (omega (arith, long)));
      others = others x g place mx t cx clock;
      others_after = λ j l c. others y h place my t cy clock j (omega (arith, long)) c;
    }

-- TAKING A FLOW OUT NEVER HURTS, by the program that the definitions describe,
module _ (r : Removing) (checked : Checked) (may : MayGo planner r checked) where
  abbrev old : Done (check_kept_of r.table).answer
  old = rw may.checks at may.accepted

  book_accepted : Done (check_of (book_of r.table.sections)).answer
  book_accepted =
      let p = formed r may.memory may.right old may.there in
      sym (ap (λ (c : Checked). c.answer.code) (kept_then_check r.table (holds r may.memory p may.there) p may.right)) ∙ old

  runs :
      (x y : Ran)
      → x.book ≡ book_of r.table.sections
      → y.book ≡ book_of (table_of (without_flow r))
      → RunBy planner x
      → RunBy planner y
      → (t : Slot)
      → t.0 < x.count
      → t.0 < y.count
      → t.0 < end_of_clock
      → SameAbove r.place (facts x) (facts y) (x.advanced t) (y.advanced t)
  runs x y ex ey rx ry t cx cy clock =
      let p = formed r may.memory may.right old may.there in
      let h = holds r may.memory p may.there in
      let lh = left_holds r may.memory may.right old may.there in
      let lp = left_passed r may.memory may.right old may.there in
      let first : facts x ≡ facts_of (used r.table.sections) = ap said ex ∙ book_said r.table.sections h p in
      let second : facts y ≡ facts_of (without_flow r)
      = ap said ey
      ∙ book_said (table_of (without_flow r)) lh lp
      ∙ sym (table_facts (table_of (without_flow r)))
      ∙ ap facts_of (table_table (without_flow r) (roomy (without_flow r) (table_valid (without_flow r) (after_passed r may.memory p may.there))))
      ∙ left_facts r may.memory p may.there in
      let tk = taken r may.memory p may.there in
      same_above x y
      (record { sound = greedy_sound; accepted = rw ex book_accepted; ran = rx })
      (record { sound = greedy_sound; accepted = rw ey (ap (λ (c : Checked). c.answer.code) (book_left r may.memory may.right old may.there)); ran = ry })
      r.place (rw (first, second) (alike_above r.place (facts_of (without_flow r)) (facts_of (used r.table.sections)) tk))
      (rw first (omega (arith, tk.there))) (rw second (omega (arith, tk.there, tk.flows))) t cx cy clock

  unhurt : (changed : Changed) → changed ≡ remove_of r → Unhurt planner r checked changed
  unfolding remove_of kept_of
  unhurt changed e =
      let m = may.memory in
      let right = may.right in
      let there = may.there in
      let is : changed.table ≡ kept_of (without_flow r) = ap (λ (c : Changed). c.table) e ∙ is_left r m right old there in
      record {
        done = rw e (is_done_lem r m right old there);
        accepted = λ left k. rw (k, is, kept_left r m right old there) refl;
        accepted_book = λ left k. rw (k, is, book_left r m right old there) refl;
        no_higher = λ left k l h. rw (k, is, kept_left r m right old there, may.checks) (no_higher r m right old there l (rw is at h));
        no_higher_book = λ left k l h. rw (k, is, book_left r m right old there, may.checks) (no_higher r m right old there l (rw is at h));
        same_grants = λ x y ex ey rx ry. runs x y ex (ey ∙ ap (λ (t : Tabled). book_of t.sections) is) rx ry;
      }

pub planner_never_hurts : NeverHurts planner
planner_never_hurts r changed e checked may = unhurt r checked may changed e

-- and by every program that meets its contracts
pub never_hurts : (p : Program) → Meets p → NeverHurts p
never_hurts p m r changed c checked may =
    let asked : MayGo planner r checked
    = record {
      memory = may.memory;
      right = may.right;
      checks = m.checks_tables _ _ may.checks;
      accepted = may.accepted;
      there = may.there;
    } in
    let u : Unhurt planner r checked changed = planner_never_hurts r changed (m.removes r changed c) checked asked in
    record {
      done = u.done;
      accepted = λ left k. u.accepted left (m.checks_tables _ _ k);
      accepted_book = λ left k. u.accepted_book left (m.checks _ _ k);
      no_higher = λ left k. u.no_higher left (m.checks_tables _ _ k);
      no_higher_book = λ left k. u.no_higher_book left (m.checks _ _ k);
      same_grants = λ x y ex ey rx ry. u.same_grants x y ex ey (by_planner p m x rx) (by_planner p m y ry);
    }
