-- A book that passes codes 1 to 8: its parts lie in the slice, a table has room for them, and its sections are well formed.
-- Leans on PartsLaws, the trade's Whole and the sections' FormedLaws. Assumes nothing.
use Prim.Native.Nat.{ℕ, ◌≤◌}
use mathlib.Core.Path.{◌≡◌, refl, ap, sym, ◌∙◌}
use mathlib.Core.List.{List}
use native.Mathlib.Omega.{arith}
use lib.ListN.{length}
use Rattle.std.specs.Prelude.{Result, Ok, Err, IfOk}
use Rattle.trade.specs.Limits.{trailer_bytes}
use Rattle.trade.specs.Layout.{Sections, sections_of, trailer, rows_distance, records_distance, steps_distance, node_count, flow_count}
use Rattle.trade.specs.Facts.{facts_of, said}
use Rattle.trade.specs.Table.{rows_room, records_room, steps_room}
use Rattle.trade.specs.Answers.{no_number}
use Rattle.trade.specs.Calls.{book_rules, read_answer}
use Rattle.trade.specs.Refusals.{tested}
use Rattle.trade.specs.declared.answer.Answer.{Answer}
use Rattle.trade.specs.declared.refusal.Refusal.{Refusal}
use Rattle.trade.proofs.Answers.{Passed, first_of_passed, passed_head, passed_tail}
use Rattle.trade.proofs.Valid.{book_valid}
use Rattle.trade.proofs.Whole.{passed_framed, rows_whole, records_whole, steps_whole, book_roomy}
use Rattle.book.specs.Frame.{trailer_in, frame_by, frame_of, frame_held, Lies}
use Rattle.book.specs.declared.parts.Frame.{Frame}
use Rattle.book.proofs.PartsLaws.{length_rows, length_records, length_steps, counts}
use Rattle.sections.specs.Parts.{sections_held}
use Rattle.sections.specs.declared.parts.Parts.{Parts}
use Rattle.sections.specs.Formed.{Formed}
use Rattle.sections.proofs.FormedLaws.{formed_by}

-- two frames with the same fields
same_frame :
    (f g : Frame)
    → f.nodes ≡ g.nodes
    → f.flows ≡ g.flows
    → f.rows ≡ g.rows
    → f.records ≡ g.records
    → f.steps ≡ g.steps
    → f.end ≡ g.end
    → f ≡ g
same_frame f g n m r c s e = λ i. record { nodes = n i; flows = m i; rows = r i; records = c i; steps = s i; end = e i }

module _ (b : List ℕ) (e : (read_answer b).code ≡ 0) where
  pub passed : Passed b book_rules
  unfolding read_answer
  passed = first_of_passed book_rules no_number b e

  pub done_lies : Lies b (frame_of b)
  unfolding frame_of said facts_of sections_of
  done_lies =
      let f = passed_framed b passed in
      let v = book_valid b passed in
      record {
        frame = refl;
        nodes = v.nodes.most;
        flows = v.flows;
        rows = omega (arith, f.rows, f.nodes);
        records = omega (arith, f.records, f.flows);
        steps = omega (arith, f.steps, f.plans);
        end = omega (arith, f.trailer);
        within = f.steps;
      }

  -- the frame that its trailer says
  pub said_lies : Lies b (frame_by (trailer_in (trailer b)) (length b))
  unfolding frame_by trailer_in frame_of rows_distance records_distance steps_distance node_count flow_count
  said_lies = done_lies

  pub said_within :
      (trailer_bytes ≤ length b)
      × ((trailer_in (trailer b)).rows ≤ length b)
      × ((trailer_in (trailer b)).records ≤ length b)
      × ((trailer_in (trailer b)).steps ≤ length b)
  unfolding trailer_in rows_distance records_distance steps_distance
  said_within = let f = passed_framed b passed in (f.trailer, f.rows, f.records, f.steps)

  -- a table has room for its sections
  pub rows_fit : length (sections_of b).rows ≤ rows_room
  rows_fit = omega (arith, rows_whole b passed, (book_roomy b passed).rows)

  pub records_fit : length (sections_of b).records ≤ records_room
  records_fit = omega (arith, records_whole b passed, (book_roomy b passed).records)

  pub steps_fit : length (sections_of b).steps ≤ steps_room
  steps_fit = omega (arith, steps_whole b passed, (book_roomy b passed).steps)

  -- parts that hold its sections lie where its trailer says
  pub held_frame : (p : Parts) → sections_held p ≡ sections_of b → frame_held p (length b) ≡ frame_of b
  unfolding frame_held
  held_frame p held =
      let l = done_lies in
      let counted = counts b (frame_of b) l in
      let rows = ap (λ (s : Sections). length s.rows) held ∙ length_rows b (frame_of b) l in
      let records = ap (λ (s : Sections). length s.records) held ∙ length_records b (frame_of b) l in
      let steps = ap (λ (s : Sections). length s.steps) held ∙ length_steps b (frame_of b) l in
      same_frame _ _ (ap (λ (s : Sections). s.nodes) held ∙ sym counted.0) (ap (λ (s : Sections). s.flows) held ∙ sym counted.1)
      (omega (arith, rows, records, steps, l.rows, l.records, l.steps, l.end))
      (omega (arith, records, steps, l.records, l.steps, l.end))
      (omega (arith, steps, l.steps, l.end))
      (omega (arith, l.end))

-- the same of what a book is opened to
pub opened_frame :
    (b : List ℕ) (r : Result Parts Refusal)
    → tested r ≡ read_answer b
    → IfOk r (λ p. sections_held p ≡ sections_of b)
    → IfOk r (λ p. frame_held p (length b) ≡ frame_of b)
opened_frame b (Ok p) answer held = held_frame b (sym (ap (λ (a : Answer). a.code) answer)) p held
opened_frame b (Err d) answer held = held

-- the sections of a book that passes codes 1 to 8
pub book_formed : (b : List ℕ) → (read_answer b).code ≡ 0 → Formed (sections_of b).flows (sections_of b).rows (sections_of b).records (sections_of b).steps
unfolding book_rules said frame_of sections_of
book_formed b e =
    let p6 = passed_tail (passed_tail (passed_tail (passed_tail (passed_tail (passed b e))))) in
    let lies = done_lies b e in
    formed_by (sections_of b) lies.nodes lies.flows (omega (arith, rows_whole b (passed b e))) (omega (arith, records_whole b (passed b e)))
    (omega (arith, steps_whole b (passed b e)))
    (passed_head p6)
    (passed_head (passed_tail (passed_tail p6)))
