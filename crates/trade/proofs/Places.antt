-- Tables that hold the same bytes at their used places: the rules and the bounds read nothing else. Leans on Alike and Valid. Assumes
-- nothing.
use Prim.Native.Nat.{ℕ, suc, ◌+◌, ◌-◌, ◌*◌, ◌/◌, ◌%◌, ◌≤◌, ◌<◌}
use mathlib.Core.Path.{◌≡◌, sym, ◌∙◌, ap, ap₂}
use mathlib.Core.Bool.{Bool, ◌&&◌, ◌||◌}
use native.Mathlib.Omega.{arith}
use lib.Dec.{eqb, leb}
use Rattle.trade.specs.Limits.{most_nodes, row_bytes, record_bytes, step_bytes}
use Rattle.trade.specs.First.{some}
use Rattle.trade.specs.Bytes.{byte, word, bit}
use Rattle.trade.specs.Layout.{Sections, field}
use Rattle.trade.specs.Facts.{Facts, disturbs_in, step_in, facts_of, first_step, all_steps, step_of}
use Rattle.trade.specs.Bound.{measure, code9}
use Rattle.trade.specs.Codes.{bad_row, bad_record, first_of_plan, bad_step, code3, code5, code6, code8}
use Rattle.trade.specs.Calls.{table_rules, bounds_of}
use Rattle.trade.specs.declared.answer.Answer.{Answer}
use Rattle.trade.proofs.First.{some_cong}
use Rattle.trade.proofs.Sums.{sum_cong, sum_next, sum_le}
use Rattle.trade.proofs.Answers.{Passed, passed_none, passed_more, passed_head, passed_tail, given_first_same}
use Rattle.trade.proofs.Alike.{Alike, conflicts_placed, code9_alike, bounds_alike}
use Rattle.trade.proofs.Fair.{measure_alike}
use Rattle.trade.proofs.Valid.{table_valid, Placed, table_placed}

-- the same counts, and the same bytes at the used places
pub record SameUsed (s t : Sections) : Type 0 where
  pub nodes : s.nodes ≡ t.nodes
  pub flows : s.flows ≡ t.flows
  pub rows : (i : ℕ) → i < row_bytes * s.nodes → byte s.rows i ≡ byte t.rows i
  pub records : (i : ℕ) → i < record_bytes * s.flows → byte s.records i ≡ byte t.records i
  pub steps : (i : ℕ) → i < step_bytes * all_steps (facts_of s) → byte s.steps i ≡ byte t.steps i

-- step j of plan i is one of all steps
step_listed : (f : Facts) (i j : ℕ) → i < f.flows → j < f.len i → first_step f i + j < all_steps f
unfolding first_step all_steps
step_listed f i j i< j< = omega (arith, sum_next f.len i, sum_le f.len (suc i) f.flows i<)

module _ (s t : Sections) (same : SameUsed s t) where
  abbrev f : Facts
  f = facts_of s

  abbrev g : Facts
  g = facts_of t

  -- they say the same there
  same_nodes : f.nodes ≡ g.nodes
  unfolding facts_of
  same_nodes = same.nodes

  pub same_flows : f.flows ≡ g.flows
  unfolding facts_of
  same_flows = same.flows

  same_disturbs : (x y : ℕ) → x < f.nodes → y < most_nodes → f.disturbs x y ≡ g.disturbs x y
  unfolding facts_of disturbs_in
  same_disturbs x y x< y< = ap (λ (b : ℕ). bit b (y % 8)) (same.rows (row_bytes * x + y / 8) (omega arith))

  same_field : (k : ℕ) → k < 5 → (i : ℕ) → i < s.flows → field s.records i k ≡ field t.records i k
  unfolding field word
  same_field k k< i i< =
      ap₂ (λ (high low : ℕ). high * 256 + low) (same.records (record_bytes * i + 2 * k) (omega arith))
      (same.records (record_bytes * i + 2 * k + 1) (omega arith))

  same_len : (i : ℕ) → i < f.flows → f.len i ≡ g.len i
  unfolding facts_of
  same_len = same_field 4 (omega arith)

  same_step : (k : ℕ) → k < all_steps f → f.step k ≡ g.step k
  unfolding facts_of step_in
  same_step k k< = rw (same.steps (step_bytes * k) (omega arith), same.steps (step_bytes * k + 1) (omega arith))

  pub same_first_step : (i : ℕ) → i ≤ f.flows → first_step f i ≡ first_step g i
  unfolding first_step
  same_first_step i h = sum_cong f.len g.len i (λ j l. same_len j (omega arith))

  pub same_all_steps : all_steps f ≡ all_steps g
  unfolding all_steps
  same_all_steps = same_first_step f.flows (omega arith) ∙ ap (first_step g) same_flows

  -- CODES 3, 5, 6 AND 8 are the same
  alike_code3 : code3 f ≡ code3 g
  unfolding code3
  alike_code3 = rw (same_nodes, same_flows)

  alike_row : (x : ℕ) → x < f.nodes → bad_row f x ≡ bad_row g x
  unfolding bad_row
  alike_row x h =
      some_cong _ _ (8 * row_bytes)
      (λ y l. ap₂ (λ (d : Bool) (n : ℕ). d && (eqb y x || leb n y)) (same_disturbs x y h (omega arith)) same_nodes)

  pub alike_code5 : code5 f ≡ code5 g
  unfolding code5
  alike_code5 = given_first_same 5 (bad_row f) (bad_row g) f.nodes g.nodes same_nodes alike_row

  alike_record : (i : ℕ) → i < f.flows → bad_record f i ≡ bad_record g i
  unfolding bad_record facts_of
  alike_record i h =
      rw (
        some_cong (λ j. eqb (f.id j) (f.id i)) (λ j. eqb (g.id j) (f.id i)) i (λ j l. rw (same_field 0 (omega arith) j (omega arith))),
        same_field 0 (omega arith) i h,
        same_field 1 (omega arith) i h,
        same_field 2 (omega arith) i h,
        same_field 3 (omega arith) i h,
        same_field 4 (omega arith) i h,
      )

  alike_code6 : code6 f ≡ code6 g
  unfolding code6
  alike_code6 = given_first_same 6 (bad_record f) (bad_record g) f.flows g.flows same_flows alike_record

  alike_first : (k : ℕ) → first_of_plan f k ≡ first_of_plan g k
  unfolding first_of_plan
  alike_first k =
      some_cong (λ i. eqb (first_step f i) k) (λ i. eqb (first_step g i) k) f.flows (λ i l. rw (same_first_step i (omega arith)))
      ∙ ap (some (λ i. eqb (first_step g i) k)) same_flows

  alike_step : (k : ℕ) → k < all_steps f → bad_step f k ≡ bad_step g k
  unfolding bad_step
  alike_step k h = rw (alike_first k, same_step k h, same_step (k - 1) (omega arith), same_nodes)

  alike_code8 : code8 f ≡ code8 g
  unfolding code8
  alike_code8 = given_first_same 8 (bad_step f) (bad_step g) (all_steps f) (all_steps g) same_all_steps alike_step

  -- so one passes what the other passes
  pub alike_passed : Passed s table_rules → Passed t table_rules
  unfolding table_rules
  alike_passed p =
      let p5 = passed_tail p in
      let p6 = passed_tail p5 in
      passed_more (passes alike_code3 (passed_head p))
      (passed_more (passes alike_code5 (passed_head p5))
      (passed_more (passes alike_code6 (passed_head p6))
      (passed_more (passes alike_code8 (passed_head (passed_tail p6))) passed_none)))
    where
      passes : {c d : Answer} → c ≡ d → c.code ≡ 0 → d.code ≡ 0
      passes e z = sym (ap (λ (answer : Answer). answer.code) e) ∙ z

  -- where one passes, the two are alike on all their flows, and so CODE 9 and the bounds are the same
  module _ (p : Passed s table_rules) where
    same_step_of : (i j : ℕ) → i < f.flows → j < f.len i → step_of f i j ≡ step_of g i j
    unfolding step_of
    same_step_of i j i< j< =
        same_step (first_step f i + j) (step_listed f i j i< j<) ∙ ap (λ (k : ℕ). g.step (k + j)) (same_first_step i (omega arith))

    step_placed : (i j : ℕ) → i < f.flows → j < f.len i → Placed f.nodes (step_of f i j)
    unfolding step_of
    step_placed i j i< j< = table_placed s p (first_step f i + j) (step_listed f i j i< j<)

    pub same_alike : Alike f.flows f g
    unfolding facts_of
    same_alike =
        record {
          id = same_field 0 (omega arith);
          phase = same_field 1 (omega arith);
          period = same_field 2 (omega arith);
          deadline = same_field 3 (omega arith);
          len = same_field 4 (omega arith);
          steps = same_step_of;
          conflicts =
              conflicts_placed s.flows s.nodes f g (λ x y x< y<. same_disturbs x y x< (omega (arith, (table_valid s p).nodes.most)))
              step_placed same_step_of;
        }

    pub alike_code9 : code9 f ≡ code9 g
    alike_code9 = code9_alike f g same_flows same_alike (measure f) (measure g) (measure_alike f.flows f g same_alike)

    pub alike_bounds : bounds_of f ≡ bounds_of g
    alike_bounds = bounds_alike f g same_flows same_alike (measure f) (measure g) (measure_alike f.flows f g same_alike)
