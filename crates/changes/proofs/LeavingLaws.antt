-- A flow that goes from a table's sections: what is in use without it is the new table. Leans on CutLaws, RecutLaws, RulesLaws and the trade's
-- Exchange. Assumes nothing.
use Prim.Native.Nat.{ℕ, suc, ◌+◌, ◌-◌, ◌*◌, ◌≤◌, ◌<◌}
use mathlib.Core.Path.{◌≡◌, refl, sym, ◌∙◌, ap, ap₂}
use mathlib.Core.Logic.{⊎_elim}
use borrow.Author.Tests.{lt-ltb, le-ltb}
use mathlib.Core.List.{List, []}
use native.Mathlib.Numerals.{add-one}
use native.Mathlib.Omega.{arith}
use lib.ListN.{length, take}
use Rattle.trade.specs.Limits.{row_bytes, record_bytes, step_bytes}
use Rattle.trade.specs.First.{sum_to}
use Rattle.trade.specs.Layout.{Sections, sections, field}
use Rattle.trade.specs.Facts.{facts_of}
use Rattle.trade.specs.Table.{used}
use Rattle.trade.specs.Interference.{interference}
use Rattle.trade.specs.Kept.{Tabled, KeptInMemory, figure_in, figures_of}
use Rattle.trade.specs.Exchange.{spliced, recut, before_out}
use Rattle.trade.specs.Calls.{Removing, leaving, leave_rules, remove_answer}
use Rattle.trade.proofs.Sums.{sum_le}
use Rattle.trade.proofs.Used.{same_sections, NoMore}
use Rattle.trade.proofs.First.{lt_or_ge}
use Rattle.trade.proofs.Kept.{square_same}
use Rattle.trade.proofs.Taken.{out_most, out_order, TakenOut, interference_out, recut_takes}
use Rattle.trade.proofs.Exchange.{Fits, recut_no_more}
use Rattle.changes.specs.Moved.{Leaving}
use Rattle.cut.specs.Turned.{turned}
use Rattle.cut.proofs.CutLaws.{left_front}
use Rattle.square.specs.Carried.{without_figures}
use Rattle.changes.proofs.RecutLaws.{steps_most, old_full, steps_cut, passed_in_range, passed_right_used}
use Rattle.rules.proofs.RulesLaws.{old_passed, place_passed, leave_there}

-- A FLOW GOES
module _ (held : Tabled) (place : ℕ) (c : Leaving held place) where
  abbrev t : Sections
  t = held.sections

  abbrev new : Sections
  new = recut (used t) (leaving place)

  abbrev lens : ℕ → ℕ
  lens i = field t.records i 4

  fits : Fits (used t) (leaving place)
  unfolding used
  fits = record { order = omega arith; within = omega (arith, c.within); records = refl; steps = omega arith }

  pub left_no_more : NoMore new
  left_no_more = recut_no_more (used t) (leaving place) (old_full t c.old) fits

  -- its steps lie among all steps
  pub step_first : sum_to lens place ≤ sum_to lens (place + 1)
  step_first = sum_le lens place (place + 1) (omega arith)

  pub step_next : sum_to lens (place + 1) ≤ sum_to lens t.flows
  step_next = sum_le lens (place + 1) t.flows (omega (arith, c.within))

  pub step_room : step_bytes * sum_to lens t.flows ≤ length t.steps
  step_room = omega (arith, c.old.flows, c.old.memory.steps, steps_most t c.old t.flows (omega arith))

  -- so what is in use without them, and without its record, is the new table
  pub without_it :
      (first next last : ℕ) (records steps : List ℕ)
      → first ≡ sum_to lens place
      → next ≡ sum_to lens (place + 1)
      → last ≡ sum_to lens t.flows
      → records ≡ turned (record_bytes * place) (record_bytes * place + record_bytes) (record_bytes * t.flows) t.records
      → steps ≡ turned (step_bytes * first) (step_bytes * next) (step_bytes * last) t.steps
      → sections t.nodes (t.flows - 1) (take (row_bytes * t.nodes) t.rows) (take (record_bytes * t.flows - record_bytes) records)
      (take (step_bytes * last - (step_bytes * next - step_bytes * first)) steps)
      ≡ new
  unfolding recut used
  without_it first next last records steps e₁ e₂ e₃ f g =
      let from = record_bytes * place in
      let one : record_bytes * t.flows - record_bytes ≡ record_bytes * t.flows - (from + record_bytes - from) = omega arith in
      let to : from + record_bytes ≡ record_bytes * suc place = omega arith in
      same_sections _ new refl (omega (arith, c.within)) refl
      (ap₂ take one f
      ∙ left_front from (from + record_bytes) (record_bytes * t.flows) t.records (omega arith) (omega (arith, c.within))
      (omega (arith, c.old.flows, c.old.memory.records))
      ∙ ap (λ (k : ℕ). spliced from k [] (take (record_bytes * t.flows) t.records)) to)
      (ap (take (step_bytes * last - (step_bytes * next - step_bytes * first))) g
      ∙ left_front (step_bytes * first) (step_bytes * next) (step_bytes * last) t.steps (omega (arith, step_first)) (omega (arith, step_next))
      (omega (arith, step_room))
      ∙ steps_cut t c.old (leaving place) first next last (omega arith) (omega (arith, c.within)) e₁ (e₂ ∙ ap (sum_to lens) (add-one place)) e₃)

  -- THE FLOWS that are left stand in the order they stood in, and so do their figures
  taken : TakenOut place (facts_of new) (facts_of (used t))
  unfolding used
  taken = recut_takes (used t) (old_full t c.old) place c.within

  was_below : (i : ℕ) → i < t.flows - 1 → before_out place i < t.flows
  was_below i h = omega (arith, out_most place i)

  left_count : (facts_of new).flows ≡ t.flows - 1
  unfolding facts_of recut used
  left_count = omega (arith, c.within)

  left_figure : (l h : ℕ) → l < t.flows - 1 → h < l → figure_in held.figures (before_out place l) (before_out place h) ≡ interference (facts_of new) l h
  unfolding used
  left_figure l h l< above =
      c.right (before_out place l) (before_out place h) (was_below l l<) (out_order place h l above)
      ∙ sym (interference_out place (facts_of new) (facts_of (used t)) taken l h (omega (arith, left_count)) (omega (arith, left_count)))

  -- so the figures, taken from where they stood, are those of the new table
  pub left_figures : without_figures (t.flows - 1) place held.figures ≡ figures_of (facts_of new)
  unfolding without_figures figures_of
  left_figures =
      square_same _ _
      (λ l h p q.
      ⊎_elim
      (λ (u : l < t.flows - 1).
      ⊎_elim
      (λ (v : h < l).
      rw (lt-ltb l (t.flows - 1) u, lt-ltb l (facts_of new).flows (omega (arith, left_count)), lt-ltb h l v) (left_figure l h u v))
      (λ (v : l ≤ h). rw (lt-ltb l (t.flows - 1) u, lt-ltb l (facts_of new).flows (omega (arith, left_count)), le-ltb h l v) refl)
      (lt_or_ge h l))
      (λ (u : t.flows - 1 ≤ l). rw (le-ltb l (t.flows - 1) u, le-ltb l (facts_of new).flows (omega (arith, left_count))) refl)
      (lt_or_ge l (t.flows - 1)))

-- REMOVING, where the old table and the place have passed: the flow may go
pub leave_goes : (r : Removing) → KeptInMemory r.table → (remove_answer r).code ≡ 0 → Leaving r.table r.place
unfolding remove_answer
leave_goes r m e =
    let passed = old_passed (λ q. q.table) leave_rules r e in
    record {
      old = passed_in_range r.table m passed;
      size = m.figures;
      right = passed_right_used r.table passed;
      within = leave_there r (place_passed (λ q. q.table) leave_rules r e);
    }
