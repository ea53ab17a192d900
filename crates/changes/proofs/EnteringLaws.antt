-- A flow that comes into a table's sections: with it among the bytes in use they are those of the new table, whose rules can be tested.
-- Leans on CutLaws, RecutLaws, RulesLaws and the trade's Exchange. Assumes nothing.
use Prim.Native.Nat.{ℕ, suc, ◌+◌, ◌-◌, ◌*◌, ◌≤◌, ◌<◌, min}
use mathlib.Core.Path.{◌≡◌, refl, sym, ◌∙◌, ap, ap₂}
use mathlib.Core.Logic.{⊎_elim}
use mathlib.Core.List.{List, []}
use native.Mathlib.Omega.{arith}
use native.Mathlib.Nat.{add-zero}
use borrow.Author.Tests.{lt-ltb, le-ltb}
use lib.ListN.{length, take}
use lib.Seq.{length-take-le, take_all}
use Rattle.trade.specs.Limits.{most_steps, row_bytes, record_bytes, step_bytes}
use Rattle.trade.specs.First.{sum_to}
use Rattle.trade.specs.Bytes.{word, two_bytes, over}
use Rattle.trade.specs.Layout.{Sections, sections, field}
use Rattle.trade.specs.Facts.{facts_of, first_step, all_steps}
use Rattle.trade.specs.Table.{used}
use Rattle.trade.specs.Kept.{Tabled, KeptInMemory}
use Rattle.trade.specs.Exchange.{spliced, recut}
use Rattle.trade.specs.Codes.{bad_record, code6}
use Rattle.trade.specs.Calls.{Adding, record_of, with_flow, enter_rules}
use Rattle.trade.proofs.First.{lt_or_ge}
use Rattle.trade.proofs.Sums.{sum_rest, sum_le}
use Rattle.trade.proofs.Bytes.{word_two_bytes, take_over}
use Rattle.trade.proofs.Answers.{given_first_passed}
use Rattle.trade.proofs.Valid.{sound}
use Rattle.trade.proofs.Used.{same_sections, NoMore}
use Rattle.trade.proofs.Moved.{SamePlan, interference_moved, same_disturbs, plan_before, plan_behind}
use Rattle.trade.proofs.Kept.{interference_counted}
use Rattle.trade.proofs.Exchange.{Fits, field_come, new_steps, recut_no_more}
use Rattle.square.specs.Carried.{before_in, OldFigures}
use Rattle.rules.specs.Rules.{New, Carried}
use Rattle.changes.specs.Moved.{coming, Coming}
use Rattle.cut.proofs.CutLaws.{length_entered}
use Rattle.changes.proofs.RecutLaws.{steps_most, old_full, old_first, steps_cut}
use Rattle.changes.proofs.RecutLaws.{passed_in_range, passed_right_used}
use Rattle.rules.proofs.RulesLaws.{old_passed, place_passed, ask_answer, enter_room}

-- A FLOW COMES, with this record and these steps
module _ (held : Tabled) (place : ℕ) (flow plan : List ℕ) (c : Coming held place flow plan) where
  abbrev t : Sections
  t = held.sections

  abbrev new : Sections
  new = recut (used t) (coming place flow plan)

  abbrev lens : ℕ → ℕ
  lens i = field t.records i 4

  abbrev all : ℕ
  all = sum_to lens t.flows

  fits : Fits (used t) (coming place flow plan)
  unfolding used sum_to
  fits = record { order = omega arith; within = c.within; records = c.recorded; steps = omega (arith, c.planned) }

  pub new_no_more : NoMore new
  new_no_more = recut_no_more (used t) (coming place flow plan) (old_full t c.old) fits

  -- there is room for its record and for its steps
  record_room : record_bytes * t.flows + length flow ≤ length t.records
  record_room = omega (arith, c.recorded, c.room, c.old.memory.records)

  pub step_first : step_bytes * sum_to lens place ≤ step_bytes * all
  step_first = omega (arith, sum_le lens place t.flows c.within)

  pub step_room : step_bytes * all + length plan ≤ length t.steps
  step_room = omega (arith, c.planned, c.room, c.old.memory.steps, steps_most t c.old t.flows (omega arith))

  -- and the new table has them among the others
  new_records : length new.records ≡ record_bytes * (t.flows + 1)
  unfolding recut used
  new_records =
      length_entered (record_bytes * place) (record_bytes * t.flows) flow t.records (omega (arith, c.within)) record_room
      ∙ omega (arith, c.recorded)

  new_steps_are : spliced (step_bytes * sum_to lens place) (step_bytes * sum_to lens place) plan (take (step_bytes * all) t.steps) ≡ new.steps
  new_steps_are =
      steps_cut t c.old (coming place flow plan) (sum_to lens place) (sum_to lens place) all (omega arith) c.within refl refl refl

  length_new_steps : length new.steps ≡ step_bytes * all + length plan
  length_new_steps =
      ap length (sym new_steps_are) ∙ length_entered (step_bytes * sum_to lens place) (step_bytes * all) plan t.steps step_first step_room

  -- so the bytes in use, with the flow among them, are the new table
  pub with_it :
      (first last : ℕ) (records steps : List ℕ)
      → first ≡ sum_to lens place
      → last ≡ all
      → records ≡ over (spliced (record_bytes * place) (record_bytes * place) flow (take (record_bytes * t.flows) t.records)) t.records
      → steps ≡ over (spliced (step_bytes * first) (step_bytes * first) plan (take (step_bytes * last) t.steps)) t.steps
      → sections t.nodes (t.flows + 1) (take (row_bytes * t.nodes) t.rows) (take (record_bytes * (t.flows + 1)) records)
      (take (step_bytes * last + length plan) steps)
      ≡ new
  unfolding recut used
  with_it first last records steps e₁ e₂ f g =
      let cut : spliced (step_bytes * first) (step_bytes * first) plan (take (step_bytes * last) t.steps) ≡ new.steps =
      rw (e₁, e₂) new_steps_are in
      let size : length new.steps ≡ step_bytes * last + length plan = length_new_steps ∙ omega arith in
      same_sections _ new refl (omega arith) refl
      (ap₂ take (sym new_records) f ∙ take_over new.records t.records)
      (ap₂ take (sym size) (g ∙ ap (λ (l : List ℕ). over l t.steps) cut) ∙ take_over new.steps t.steps)

  -- whose steps are there where code 6 passes, since no L is above the most then
  new_len : field new.records place 4 ≡ field flow 0 4
  new_len =
      ap (λ (i : ℕ). field new.records i 4) (sym (add-zero place))
      ∙ field_come (used t) (coming place flow plan) (old_full t c.old) fits 0 (omega arith) 4 (omega arith)

  len_most : (code6 (facts_of new)).code ≡ 0 → field flow 0 4 ≤ most_steps
  unfolding code6 facts_of recut used
  len_most e =
      omega (
        arith,
        new_len,
        (sound (facts_of new) place (given_first_passed 5 (bad_record (facts_of new)) new.flows e place (omega (arith, c.within)))).len.most,
      )

  new_all : all_steps (facts_of new) ≡ all + field flow 0 4
  unfolding first_step facts_of used sum_to
  new_all =
      omega (
        arith,
        new_steps (used t) (coming place flow plan) (old_full t c.old) fits,
        sum_rest (λ i. field (used t).records i 4) place t.flows c.within,
        old_first t c.old place c.within,
        old_first t c.old t.flows (omega arith),
      )

  pub new_tested : New new
  unfolding recut used
  new_tested =
      record {
        nodes = c.old.nodes;
        flows = omega (arith, c.room);
        rows = omega (arith, (old_full t c.old).rows);
        records = omega (arith, new_records);
        steps = λ e. omega (arith, new_all, len_most e, length_new_steps, c.planned);
      }

  -- THE FLOWS that were there keep their plans, where code 6 passes,
  exact : (code6 (facts_of new)).code ≡ 0 → length plan ≡ step_bytes * sum_to (λ i. field flow i 4) 1
  unfolding sum_to
  exact e = omega (arith, c.planned, len_most e)

  kept_plan : (code6 (facts_of new)).code ≡ 0 → (i : ℕ) → (i ≡ place → ⊥) → SamePlan (facts_of new) (facts_of (used t)) i (before_in place i)
  unfolding before_in
  kept_plan e i other =
      ⊎_elim
      (λ (l : i < place). rw (lt-ltb i place l) (plan_before (used t) (coming place flow plan) (old_full t c.old) fits i l))
      (λ (l : place ≤ i).
      let k : ℕ = i - suc place in
      let new_at : place + 1 + k ≡ i = omega (arith, other) in
      let old_at : place + k ≡ i - 1 = omega (arith, other) in
      rw (le-ltb i place l) (rw (new_at, old_at) at (plan_behind (used t) (coming place flow plan) (old_full t c.old) fits (exact e) k)))
      (lt_or_ge i place)

  -- stand in the order they stood in,
  was_below : (i : ℕ) → i < t.flows + 1 → (i ≡ place → ⊥) → before_in place i < t.flows
  unfolding before_in
  was_below i h other =
      ⊎_elim (λ (l : i < place). rw (lt-ltb i place l) (omega (arith, c.within))) (λ (l : place ≤ i). rw (le-ltb i place l) (omega (arith, other))) (lt_or_ge i place)

  was_above : (l h : ℕ) → h < l → (l ≡ place → ⊥) → (h ≡ place → ⊥) → before_in place h < before_in place l
  unfolding before_in
  was_above l h above p q =
      ⊎_elim
      (λ (u : l < place). rw (lt-ltb l place u, lt-ltb h place (omega arith)) above)
      (λ (u : place ≤ l).
      ⊎_elim (λ (v : h < place). rw (le-ltb l place u, lt-ltb h place v) (omega (arith, p))) (λ (v : place ≤ h). rw (le-ltb l place u, le-ltb h place v) (omega (arith, p, q))) (lt_or_ge h place))
      (lt_or_ge l place)

  -- and so the figures of the old table are theirs
  old_figures : (code6 (facts_of new)).code ≡ 0 → OldFigures new.flows place new.rows new.records new.steps held.figures
  unfolding recut used
  old_figures e =
      record {
        within = omega (arith, c.within);
        size = c.size;
        figures =
            λ l h l< above p q.
            c.right (before_in place l) (before_in place h) (was_below l (omega arith) p) (was_above l h above p q)
            ∙ sym (interference_moved (facts_of new) (facts_of (used t)) (same_disturbs (used t) (coming place flow plan) (old_full t c.old) fits) l h (before_in place l) (before_in place h) (kept_plan e l p) (kept_plan e h q))
            ∙ interference_counted new.nodes new.flows 0 0 new.rows new.records new.steps l h;
      }

  pub new_carried : Carried new place held.figures
  unfolding recut used
  new_carried = record { size = c.size; within = omega (arith, c.within); right = old_figures }

-- ADDING, where the old table and the place have passed
pub record Enters (a : Adding) : Type 0 where
  pub memory : KeptInMemory a.table
  pub plan : length a.plan ≡ step_bytes * most_steps
  pub len : a.flow.len < 65536
  pub asked : (ask_answer a).code ≡ 0

module _ (a : Adding) (e : Enters a) where
  abbrev taken : List ℕ
  taken = take (step_bytes * min a.flow.len most_steps) a.plan

  -- the flow may come in, with as many steps as it takes of its plan,
  its_len : field (record_of a.flow) 0 4 ≡ a.flow.len
  unfolding field word record_of two_bytes
  its_len = word_two_bytes a.flow.len [] e.len

  its_record : length (record_of a.flow) ≡ record_bytes
  unfolding record_of two_bytes
  its_record = refl

  pub enter_comes : Coming a.table a.place (record_of a.flow) taken
  enter_comes =
      let passed = old_passed (λ b. b.table) enter_rules a e.asked in
      let old = passed_in_range a.table e.memory passed in
      let (room, within) = enter_room a (place_passed (λ b. b.table) enter_rules a e.asked) in
      record {
        old = old;
        size = e.memory.figures;
        right = passed_right_used a.table passed;
        room = omega (arith, old.flows, room);
        within = within;
        recorded = its_record;
        planned = omega (arith, its_len, length-take-le (step_bytes * min a.flow.len most_steps) a.plan (omega (arith, e.plan)));
      }

  -- which are those that it should have
  all_of : (k : ℕ) → length a.plan ≤ k → take k a.plan ≡ a.plan
  all_of k h = take_all k a.plan h

  its_steps : taken ≡ take (step_bytes * a.flow.len) a.plan
  its_steps =
      ⊎_elim
      (λ (l : a.flow.len < most_steps).
      let same : min a.flow.len most_steps ≡ a.flow.len = omega arith in
      ap (λ (k : ℕ). take (step_bytes * k) a.plan) same)
      (λ (l : most_steps ≤ a.flow.len).
      all_of (step_bytes * min a.flow.len most_steps) (omega (arith, e.plan)) ∙ sym (all_of (step_bytes * a.flow.len) (omega (arith, e.plan))))
      (lt_or_ge a.flow.len most_steps)

  pub enter_made : recut (used a.table.sections) (coming a.place (record_of a.flow) taken) ≡ with_flow a
  unfolding with_flow
  enter_made = ap (λ (steps : List ℕ). recut (used a.table.sections) (coming a.place (record_of a.flow) steps)) its_steps
