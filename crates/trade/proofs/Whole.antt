-- A book that passes codes 1 to 8: its sections lie in the slice one behind the other, up to the trailer, and are just the used places.
-- Leans on Used. Assumes nothing.
use Prim.Native.Nat.{ℕ, ◌+◌, ◌-◌, ◌*◌, ◌≤◌}
use mathlib.Core.Path.{◌≡◌, refl, sym, ◌∙◌, ap}
use mathlib.Core.List.{List, ◌++◌, append_assoc}
use native.Mathlib.Omega.{arith}
use lib.ListN.{length, take, drop, length-drop, take-append-drop}
use lib.Seq.{length-take-le, take_all, drop-drop}
use borrow.Author.Tests.{ltb-false, eqb-true, not-false}
use Rattle.trade.specs.Limits.{row_bytes, record_bytes, step_bytes, trailer_bytes}
use Rattle.trade.specs.Bytes.{part}
use Rattle.trade.specs.Layout.{trailer, rows_distance, records_distance, steps_distance, node_count, flow_count, sections_of}
use Rattle.trade.specs.Facts.{facts_of, said, all_steps}
use Rattle.trade.specs.Table.{steps_distance_of, used}
use Rattle.trade.specs.Codes.{code1, code4, code7}
use Rattle.trade.specs.Calls.{book_rules}
use Rattle.trade.proofs.First.{or_false}
use Rattle.trade.proofs.Answers.{Passed, passed_head, passed_tail, given_passed}
use Rattle.trade.proofs.Valid.{book_valid}
use Rattle.trade.proofs.Used.{Holds, Roomy, roomy, same_sections}

-- what codes 1 and 4 leave of a slice that passes them: the trailer is there, and the three sections lie in the slice, each as long
-- as the counts say
pub record Framed (b : List ℕ) : Type 0 where
  pub trailer : trailer_bytes ≤ length b
  pub rows : rows_distance b ≤ length b
  pub records : records_distance b ≤ length b
  pub steps : steps_distance b ≤ length b
  pub nodes : rows_distance b ≡ records_distance b + row_bytes * node_count b
  pub flows : records_distance b ≡ steps_distance b + record_bytes * flow_count b
  pub plans : trailer_bytes ≤ steps_distance b

pub framed : (b : List ℕ) → (code1 b).code ≡ 0 → (code4 b).code ≡ 0 → Framed b
unfolding code1 code4
framed b e1 e4 =
    let p = or_false _ _ (given_passed 3 _ 0 e4) in
    let q = or_false _ _ p.0 in
    let r = or_false _ _ q.0 in
    let s = or_false _ _ r.0 in
    let rows : rows_distance b ≡ records_distance b + row_bytes * node_count b = eqb-true _ _ (not-false _ s.0) in
    let records : records_distance b ≡ steps_distance b + record_bytes * flow_count b = eqb-true _ _ (not-false _ s.1) in
    let within : rows_distance b ≤ length b = ltb-false _ _ p.1 in
    record {
      trailer = ltb-false _ _ (given_passed 0 _ 0 e1);
      rows = within;
      records = omega arith;
      steps = omega arith;
      nodes = rows;
      flows = records;
      plans = ltb-false _ _ r.1;
    }

-- a part, and what lies behind it
length_part : (at count : ℕ) (b : List ℕ) → at + count ≤ length b → length (part at count b) ≡ count
unfolding part
length_part at count b h = length-take-le count (drop at b) (omega (arith, length-drop at b))

part_next : (at count next : ℕ) (b : List ℕ) → at + count ≡ next → part at count b ++ drop next b ≡ drop at b
unfolding part
part_next at count next b e =
    ap (λ (n : ℕ). take count (drop at b) ++ drop n b) (sym e)
    ∙ ap (λ (l : List ℕ). take count (drop at b) ++ l) (sym (drop-drop count at b))
    ∙ take-append-drop count (drop at b)

module _ (b : List ℕ) (p : Passed b book_rules) where
  pub passed_framed : Framed b
  unfolding book_rules
  passed_framed = framed b (passed_head p) (passed_head (passed_tail (passed_tail (passed_tail p))))

  -- by code 7 the steps are those of all plans
  pub passed_steps : steps_distance b ≡ steps_distance_of (sections_of b)
  unfolding book_rules code7
  passed_steps =
      eqb-true _ _
      (not-false _ (given_passed 6 _ 0 (passed_head (passed_tail (passed_tail (passed_tail (passed_tail (passed_tail (passed_tail p)))))))))

  -- the sections are as long as what they hold
  pub rows_whole : length (sections_of b).rows ≡ row_bytes * (sections_of b).nodes
  unfolding sections_of
  rows_whole = let f = passed_framed in length_part _ _ b (omega (arith, f.rows, f.nodes))

  pub records_whole : length (sections_of b).records ≡ record_bytes * (sections_of b).flows
  unfolding sections_of
  records_whole = let f = passed_framed in length_part _ _ b (omega (arith, f.records, f.flows))

  steps_length : length (sections_of b).steps ≡ steps_distance b - trailer_bytes
  unfolding sections_of
  steps_length = let f = passed_framed in length_part _ _ b (omega (arith, f.steps, f.plans))

  pub steps_whole : length (sections_of b).steps ≡ step_bytes * all_steps (facts_of (sections_of b))
  unfolding steps_distance_of
  steps_whole = steps_length ∙ omega (arith, passed_steps)

  pub book_holds : Holds (sections_of b)
  book_holds = record { rows = omega (arith, rows_whole); records = omega (arith, records_whole); steps = omega (arith, steps_whole) }

  pub book_roomy : Roomy (sections_of b)
  unfolding said
  book_roomy = roomy (sections_of b) (book_valid b p)

  -- so they are just the used places
  pub used_whole : used (sections_of b) ≡ sections_of b
  unfolding used
  used_whole =
      same_sections (used (sections_of b)) (sections_of b) refl refl
      (take_all (row_bytes * (sections_of b).nodes) (sections_of b).rows (omega (arith, rows_whole)))
      (take_all (record_bytes * (sections_of b).flows) (sections_of b).records (omega (arith, records_whole)))
      (take_all (step_bytes * all_steps (facts_of (sections_of b))) (sections_of b).steps (omega (arith, steps_whole)))

  -- and they and the trailer are all that lies from the rows on
  pub book_parts :
      (sections_of b).rows ++ (sections_of b).records ++ (sections_of b).steps ++ trailer b ≡ drop (length b - rows_distance b) b
  unfolding sections_of trailer
  book_parts =
      let f = passed_framed in
      let at : ℕ → ℕ = λ distance. length b - distance in
      simp append_assoc
      (rw (
        part_next (at (steps_distance b)) (steps_distance b - trailer_bytes) (at trailer_bytes) b (omega (arith, f.steps, f.plans)),
        part_next (at (records_distance b)) (record_bytes * flow_count b) (at (steps_distance b)) b (omega (arith, f.records, f.flows)),
        part_next (at (rows_distance b)) (row_bytes * node_count b) (at (records_distance b)) b (omega (arith, f.rows, f.nodes)),
      ))
