-- The parts of a slice that lie as its trailer says are its sections; and codes 1 to 4 are those of its trailer. Leans on nothing.
-- Assumes nothing.
use Prim.Native.Nat.{ℕ, ◌+◌, ◌-◌, ◌*◌, ◌≤◌, ◌<◌}
use mathlib.Core.Path.{◌≡◌, refl, sym, ◌∙◌, ap}
use mathlib.Core.Bool.{Bool, true, false, cond, not, ◌||◌}
use mathlib.Core.List.{List, [], ◌∷◌}
use native.Mathlib.Omega.{arith}
use lib.Dec.{ltb}
use lib.ListN.{length, take, drop, length-take, length-drop}
use native.Mathlib.Nat.{min-eq_left}
use borrow.Author.Tests.{eqb-true, eq-eqb, ne_eqb, ltb-false, lt-ltb, le-ltb, not-false}
use Rattle.trade.specs.Limits.{most_nodes, most_flows, row_bytes, record_bytes, step_bytes, trailer_bytes}
use Rattle.trade.specs.Bytes.{part}
use Rattle.trade.specs.Layout.{trailer, rows_distance, records_distance, steps_distance, node_count, flow_count, field, sections_of}
use Rattle.trade.specs.Facts.{facts_of, facts_in, said, first_step, all_steps}
use Rattle.trade.specs.First.{sum_to}
use Rattle.trade.specs.Table.{steps_distance_of}
use Rattle.trade.specs.Answers.{done, refused, given, given_first, is_done, first_of, no_number}
use Rattle.trade.specs.Codes.{outside, code1, code2, code3, code4, code5, code6, code7, code8}
use Rattle.trade.specs.Calls.{book_rules, read_answer}
use Rattle.trade.specs.declared.answer.Answer.{Answer}
use Rattle.trade.proofs.First.{or_false}
use Rattle.trade.proofs.Answers.{first_of_rule, first_of_pass, first_of_refuse, first_of_last, given_passes, given_true, given_false}
use Rattle.trade.proofs.Valid.{outside_false}
use Rattle.numbers.proofs.NumbersLaws.{part_tail}
use Rattle.sections.proofs.OwnSections.{code5_rows, code6_records, code8_steps}
use Rattle.book.specs.Frame.{trailer_in, astray, trailer_answer, frame_by, frame_of, Lies, section_rules}
use Rattle.book.specs.declared.parts.Frame.{Frame}
use Rattle.book.specs.declared.parts.Trailer.{Trailer}

module _ (slice : List ℕ) (f : Frame) (l : Lies slice f) where
  at : (g : Frame → ℕ) → g f ≡ g (frame_of slice)
  at g = ap g l.frame

  -- a part that starts where the frame says, and is as long
  part_lies :
      (start size : Frame → ℕ) (to : ℕ)
      → to - start f ≡ size f
      → take (to - start f) (drop (start f) slice) ≡ take (size (frame_of slice)) (drop (start (frame_of slice)) slice)
  part_lies start size to e =
      ap (λ (n : ℕ). take n (drop (start f) slice)) e ∙ ap (λ (g : Frame). take (size g) (drop (start g) slice)) l.frame

  pub rows_lie : take (f.records - f.rows) (drop f.rows slice) ≡ (sections_of slice).rows
  unfolding sections_of part frame_of
  rows_lie = part_lies (λ g. g.rows) (λ g. row_bytes * g.nodes) f.records (omega (arith, l.rows))

  pub records_lie : take (f.steps - f.records) (drop f.records slice) ≡ (sections_of slice).records
  unfolding sections_of part frame_of
  records_lie = part_lies (λ g. g.records) (λ g. record_bytes * g.flows) f.steps (omega (arith, l.records))

  apart : f.end - f.steps ≡ steps_distance slice - trailer_bytes
  unfolding frame_of
  apart = omega (arith, at (λ g. g.steps), at (λ g. g.end), l.within)

  pub steps_lie : take (f.end - f.steps) (drop f.steps slice) ≡ (sections_of slice).steps
  unfolding sections_of part frame_of
  steps_lie = part_lies (λ g. g.steps) (λ g. steps_distance slice - trailer_bytes) f.end apart

  -- the sections are as long as the counts say
  length_between : (a b : ℕ) → a ≤ b → b ≤ length slice → length (take (b - a) (drop a slice)) ≡ b - a
  length_between a b h k = rw (length-take, length-drop) (min-eq_left (omega arith))

  pub length_rows : length (sections_of slice).rows ≡ row_bytes * f.nodes
  length_rows = sym (ap length rows_lie) ∙ length_between f.rows f.records (omega (arith, l.rows)) (omega (arith, l.records, l.steps, l.end)) ∙ omega (arith, l.rows)

  pub length_records : length (sections_of slice).records ≡ record_bytes * f.flows
  length_records = sym (ap length records_lie) ∙ length_between f.records f.steps (omega (arith, l.records)) (omega (arith, l.steps, l.end)) ∙ omega (arith, l.records)

  pub length_steps : length (sections_of slice).steps ≡ f.end - f.steps
  length_steps = sym (ap length steps_lie) ∙ length_between f.steps f.end l.steps (omega (arith, l.end))

  -- codes 5, 6 and 8 of the sections are those of what the slice says
  pub counts : (f.nodes ≡ (sections_of slice).nodes) × (f.flows ≡ (sections_of slice).flows)
  unfolding sections_of frame_of
  counts = (at (λ g. g.nodes), at (λ g. g.flows))

  pub code5_lies : code5 (facts_in f.nodes 0 (sections_of slice).rows [] []) ≡ code5 (said slice)
  unfolding said
  code5_lies = rw counts.0 (code5_rows (sections_of slice))

  pub code6_lies : code6 (facts_in 0 f.flows [] (sections_of slice).records []) ≡ code6 (said slice)
  unfolding said
  code6_lies = rw counts.1 (code6_records (sections_of slice))

  pub code8_lies : code8 (facts_in f.nodes f.flows [] (sections_of slice).records (sections_of slice).steps) ≡ code8 (said slice)
  unfolding said
  code8_lies = rw (counts.0, counts.1) (code8_steps (sections_of slice))

  -- code 7 compares the steps' bytes with those of the plans
  distance : steps_distance slice ≡ length (sections_of slice).steps + trailer_bytes
  unfolding frame_of
  distance = omega (arith, length_steps, apart, at (λ g. g.steps), at (λ g. g.end), l.within, l.steps, l.end)

  pub code7_passes : step_bytes * sum_to (λ i. field (sections_of slice).records i 4) f.flows ≡ length (sections_of slice).steps → code7 slice ≡ done 0
  unfolding code7 steps_distance_of all_steps first_step facts_of
  code7_passes e =
      given_false 7 _ 0
      (rw (eq-eqb (steps_distance slice) (step_bytes * sum_to (λ i. field (sections_of slice).records i 4) (sections_of slice).flows + trailer_bytes) (rw (← counts.1, e) distance)))

  pub code7_refuses : (step_bytes * sum_to (λ i. field (sections_of slice).records i 4) f.flows ≡ length (sections_of slice).steps → ⊥) → code7 slice ≡ refused 7 0
  unfolding code7 steps_distance_of all_steps first_step facts_of
  code7_refuses n =
      given_true 7 _ 0
      (rw (ne_eqb (steps_distance slice) (step_bytes * sum_to (λ i. field (sections_of slice).records i 4) (sections_of slice).flows + trailer_bytes) (λ e. n (rw counts.1 (omega (arith, distance))))))

  -- codes 5 to 8 in their order: what has passed leaves the answer to the rules after it
  pub refused_five : (a : Answer) → (a.code ≡ 0 → ⊥) → a ≡ code5 (facts_in f.nodes 0 (sections_of slice).rows [] []) → a ≡ first_of section_rules no_number slice
  unfolding section_rules
  refused_five a n e =
      let five = e ∙ code5_lies in
      five ∙ sym (first_of_refuse _ _ no_number slice (λ z. n (ap (λ (r : Answer). r.code) five ∙ z)))

  past_five : done 0 ≡ code5 (facts_in f.nodes 0 (sections_of slice).rows [] []) → first_of section_rules no_number slice ≡ first_of ((λ b. code6 (said b)) ∷ code7 ∷ (λ b. code8 (said b)) ∷ []) no_number slice
  unfolding section_rules
  past_five e = first_of_pass _ _ no_number slice (sym (ap (λ (r : Answer). r.code) (e ∙ code5_lies)))

  module _ (five : done 0 ≡ code5 (facts_in f.nodes 0 (sections_of slice).rows [] [])) where
    pub refused_six : (a : Answer) → (a.code ≡ 0 → ⊥) → a ≡ code6 (facts_in 0 f.flows [] (sections_of slice).records []) → a ≡ first_of section_rules no_number slice
    refused_six a n e =
        let six = e ∙ code6_lies in
        six ∙ sym (past_five five ∙ first_of_refuse _ _ no_number slice (λ z. n (ap (λ (r : Answer). r.code) six ∙ z)))

    past_six : done 0 ≡ code6 (facts_in 0 f.flows [] (sections_of slice).records []) → first_of section_rules no_number slice ≡ first_of (code7 ∷ (λ b. code8 (said b)) ∷ []) no_number slice
    past_six e = past_five five ∙ first_of_pass _ _ no_number slice (sym (ap (λ (r : Answer). r.code) (e ∙ code6_lies)))

    module _ (six : done 0 ≡ code6 (facts_in 0 f.flows [] (sections_of slice).records [])) where
      pub refused_seven : (step_bytes * sum_to (λ i. field (sections_of slice).records i 4) f.flows ≡ length (sections_of slice).steps → ⊥) → refused 7 0 ≡ first_of section_rules no_number slice
      refused_seven n =
          let e = code7_refuses n in
          sym (past_six six ∙ first_of_refuse _ _ no_number slice (λ z. let o : ◌≡◌ {A = ℕ} 7 0 = sym (ap (λ (r : Answer). r.code) e) ∙ z in omega arith) ∙ e)

      -- and the last of them is code 8
      pub left_to_eight :
          step_bytes * sum_to (λ i. field (sections_of slice).records i 4) f.flows ≡ length (sections_of slice).steps
          → code8 (facts_in f.nodes f.flows [] (sections_of slice).records (sections_of slice).steps) ≡ first_of section_rules no_number slice
      unfolding code8 given_first
      left_to_eight seven =
          code8_lies
          ∙ sym
          (past_six six
          ∙ first_of_pass _ _ no_number slice (ap (λ (r : Answer). r.code) (code7_passes seven))
          ∙ first_of_last (λ b. code8 (said b)) slice (given_passes 7 _ _))

-- a slice of under ten bytes is refused with 1
pub too_short : (slice : List ℕ) → length slice < trailer_bytes → read_answer slice ≡ refused 1 0
unfolding read_answer book_rules code1
too_short slice h =
    let e = given_true 1 (ltb (length slice) trailer_bytes) 0 (lt-ltb _ _ h) in
    first_of_refuse _ _ no_number slice (λ z. let o : ◌≡◌ {A = ℕ} 1 0 = sym (ap (λ (r : Answer). r.code) e) ∙ z in omega arith) ∙ e

-- the part that starts ten bytes before the end is the trailer
pub trailer_read : (slice : List ℕ) → trailer_in (take (length slice - (length slice - trailer_bytes)) (drop (length slice - trailer_bytes) slice)) ≡ trailer_in (trailer slice)
unfolding trailer
trailer_read slice = ap trailer_in (part_tail (length slice - trailer_bytes) slice)

-- three rules in a row, by their tests
chain : Bool → Bool → Bool → Answer
chain m o a = cond m (refused 2 0) (cond o (refused 3 0) (cond a (refused 4 0) (done 0)))

by_chain :
    (m o a : Bool) (rest : Answer)
    → cond (is_done (given 2 m 0)) (cond (is_done (given 3 o 0)) (cond (is_done (given 4 a 0)) rest (given 4 a 0)) (given 3 o 0)) (given 2 m 0)
    ≡ cond (is_done (chain m o a)) rest (chain m o a)
unfolding given is_done chain
by_chain true o a rest = refl
by_chain false true a rest = refl
by_chain false false true rest = refl
by_chain false false false rest = refl

-- of a longer one, codes 2 to 4 are those of its trailer, and the sections are left to 5 to 8
pub by_trailer :
    (slice : List ℕ)
    → trailer_bytes ≤ length slice
    → read_answer slice
    ≡ cond (is_done (trailer_answer (trailer_in (trailer slice)) (length slice))) (first_of section_rules no_number slice) (trailer_answer (trailer_in (trailer slice)) (length slice))
unfolding read_answer book_rules section_rules code1 code2 code3 code4 trailer_answer trailer_in astray chain rows_distance records_distance steps_distance node_count flow_count said facts_of sections_of
by_trailer slice h =
    let one = given_false 1 (ltb (length slice) trailer_bytes) 0 (le-ltb _ _ h) in
    first_of_pass _ _ no_number slice (ap (λ (r : Answer). r.code) one)
    ∙ first_of_rule code2 _ no_number slice
    ∙ ap (λ (w : Answer). cond (is_done (code2 slice)) w (code2 slice))
    (first_of_rule (λ b. code3 (said b)) _ no_number slice
    ∙ ap (λ (w : Answer). cond (is_done (code3 (said slice))) w (code3 (said slice))) (first_of_rule code4 _ no_number slice))
    ∙ by_chain (not (trailer_in (trailer slice)).marked)
    (outside 1 most_nodes (node_count slice) || outside 0 most_flows (flow_count slice))
    (astray (trailer_in (trailer slice)) (length slice))
    (first_of section_rules no_number slice)

-- a trailer that passes has its counts in range and its distances in order
pub trailer_refused : (slice : List ℕ) → trailer_bytes ≤ length slice → ((trailer_answer (trailer_in (trailer slice)) (length slice)).code ≡ 0 → ⊥) → read_answer slice ≡ trailer_answer (trailer_in (trailer slice)) (length slice)
unfolding is_done
trailer_refused slice h n = by_trailer slice h ∙ rw (ne_eqb _ 0 n)

pub trailer_passed : (slice : List ℕ) → trailer_bytes ≤ length slice → (trailer_answer (trailer_in (trailer slice)) (length slice)).code ≡ 0 → read_answer slice ≡ first_of section_rules no_number slice
unfolding is_done
trailer_passed slice h e = by_trailer slice h ∙ rw (eq-eqb _ 0 e)

-- the tests that a chain of three that is done has passed
chain_done : (m o a : Bool) → (chain m o a).code ≡ 0 → (o ≡ false) × (a ≡ false)
unfolding chain
chain_done true o a e = absurd (omega arith)
chain_done false true a e = absurd (omega arith)
chain_done false false true e = absurd (omega arith)
chain_done false false false e = (refl, refl)

-- a number that is not outside a range is in it
pub inside : (low high v : ℕ) → outside low high v ≡ false → (low ≤ v) × (v ≤ high)
inside low high v e = let w = outside_false low high v e in (w.least, w.most)

-- what a trailer says that passes
pub record InOrder (t : Trailer) (len : ℕ) : Type 0 where
  pub nodes : t.nodes ≤ most_nodes
  pub flows : t.flows ≤ most_flows
  pub rows : t.rows ≡ t.records + row_bytes * t.nodes
  pub records : t.records ≡ t.steps + record_bytes * t.flows
  pub steps : trailer_bytes ≤ t.steps
  pub within : t.rows ≤ len

pub in_order : (t : Trailer) (len : ℕ) → (trailer_answer t len).code ≡ 0 → InOrder t len
unfolding trailer_answer chain astray
in_order t len e =
    let d = chain_done (not t.marked) (outside 1 most_nodes t.nodes || outside 0 most_flows t.flows) (astray t len) e in
    let p = or_false _ _ d.1 in
    let q = or_false _ _ p.0 in
    let r = or_false _ _ q.0 in
    let s = or_false _ _ r.0 in
    let o = or_false (outside 1 most_nodes t.nodes) (outside 0 most_flows t.flows) d.0 in
    record {
      nodes = (inside 1 most_nodes t.nodes o.0).1;
      flows = (inside 0 most_flows t.flows o.1).1;
      rows = eqb-true _ _ (not-false _ s.0);
      records = eqb-true _ _ (not-false _ s.1);
      steps = ltb-false _ _ r.1;
      within = ltb-false _ _ p.1;
    }

-- so the parts lie where it says
pub lies : (slice : List ℕ) → trailer_bytes ≤ length slice → InOrder (trailer_in (trailer slice)) (length slice) → Lies slice (frame_by (trailer_in (trailer slice)) (length slice))
unfolding frame_by frame_of trailer_in rows_distance records_distance steps_distance node_count flow_count
lies slice h t =
    record {
      frame = refl;
      nodes = t.nodes;
      flows = t.flows;
      rows = omega arith;
      records = omega arith;
      steps = omega arith;
      end = omega arith;
      within = omega arith;
    }
