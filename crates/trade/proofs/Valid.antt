-- What a book that passes the rules says: its counts and the fields of its records are within their ranges, no two flows have one
-- id, its steps go between its nodes, and where check passes it every flow has a bound. Leans on Answers and Bound. Assumes nothing.
use Prim.Native.Nat.{ℕ, ◌*◌, ◌≤◌, ◌<◌}
use mathlib.Core.Path.{◌≡◌, sym, ap}
use mathlib.Core.Bool.{false}
use mathlib.Core.Logic.{⊎_elim}
use mathlib.Core.List.{List}
use native.Mathlib.Omega.{arith}
use lib.Dec.{eqb, ltb}
use borrow.Author.Tests.{leb-false, ltb-false, le-ltb, eqb-false, ne_eqb}
use Rattle.trade.specs.Limits.{most_nodes, most_flows, most_id, most_phase, most_period, most_steps}
use Rattle.trade.specs.Layout.{Sections}
use Rattle.trade.specs.Facts.{Facts, facts_of, said, first_step, all_steps}
use Rattle.trade.specs.Bound.{Measure, Admissible, bound_by, code9_by}
use Rattle.trade.specs.Codes.{outside, bad_record, bad_step, code3, code6, code8}
use Rattle.trade.specs.Calls.{book_rules, table_rules, check_rules_by}
use Rattle.trade.specs.declared.answer.Answer.{Answer}
use Rattle.trade.specs.declared.node.Transmission.{Transmission}
use Rattle.trade.proofs.First.{or_false, lt_or_ge, some_false, some_none}
use Rattle.trade.proofs.Sums.{sum_most}
use Rattle.trade.proofs.Answers.{Passed, passed_head, passed_tail, passed_others, given_passed, given_false, given_first_passed}
use Rattle.trade.proofs.Bound.{bound_admissible, boundless_false}

-- a number within a range
pub record Within (low high v : ℕ) : Type 0 where
  pub least : low ≤ v
  pub most : v ≤ high

pub outside_false : (low high v : ℕ) → outside low high v ≡ false → Within low high v
unfolding outside
outside_false low high v e =
    let (l, h) = or_false (ltb v low) (ltb high v) e in
    record { least = ltb-false v low l; most = ltb-false high v h }

within_inside : (low high v : ℕ) → Within low high v → outside low high v ≡ false
unfolding outside
within_inside low high v w = rw (le-ltb v low w.least, le-ltb high v w.most)

-- counts within their limits pass code 3
pub code3_passes : (f : Facts) → Within 1 most_nodes f.nodes → Within 0 most_flows f.flows → (code3 f).code ≡ 0
unfolding code3
code3_passes f n m =
    ap (λ (a : Answer). a.code)
    (given_false 3 _ 0 (rw (within_inside 1 most_nodes f.nodes n, within_inside 0 most_flows f.flows m)))

-- a record whose fields are within their ranges, and whose id no earlier record has
pub record Sound (f : Facts) (i : ℕ) : Type 0 where
  pub id : Within 1 most_id (f.id i)
  pub new : (j : ℕ) → j < i → f.id j ≡ f.id i → ⊥
  pub phase : Within 0 most_phase (f.phase i)
  pub period : Within 1 most_period (f.period i)
  pub deadline : Within 1 (f.period i) (f.deadline i)
  pub len : Within 1 most_steps (f.len i)

pub sound : (f : Facts) (i : ℕ) → bad_record f i ≡ false → Sound f i
unfolding bad_record
sound f i e =
    let (e₅, len) = or_false _ _ e in
    let (e₄, deadline) = or_false _ _ e₅ in
    let (e₃, period) = or_false _ _ e₄ in
    let (e₂, phase) = or_false _ _ e₃ in
    let (id, new) = or_false _ _ e₂ in
    record {
      id = outside_false _ _ _ id;
      new = λ j h. eqb-false _ _ (some_false (λ k. eqb (f.id k) (f.id i)) i new j h);
      phase = outside_false _ _ _ phase;
      period = outside_false _ _ _ period;
      deadline = outside_false _ _ _ deadline;
      len = outside_false _ _ _ len;
    }

pub sound_passes : (f : Facts) (i : ℕ) → Sound f i → bad_record f i ≡ false
unfolding bad_record
sound_passes f i s =
    rw (
      within_inside 1 most_id (f.id i) s.id,
      some_none (λ j. eqb (f.id j) (f.id i)) i (λ j h. ne_eqb (f.id j) (f.id i) (s.new j h)),
      within_inside 0 most_phase (f.phase i) s.phase,
      within_inside 1 most_period (f.period i) s.period,
      within_inside 1 (f.period i) (f.deadline i) s.deadline,
      within_inside 1 most_steps (f.len i) s.len,
    )

-- where code 6 passes, the plans have no more steps in all than so many plans of the most
pub plans_most : (f : Facts) → (code6 f).code ≡ 0 → all_steps f ≤ most_steps * f.flows
unfolding code6 all_steps first_step
plans_most f e =
    sum_most f.len most_steps f.flows (λ i h. (sound f i (given_first_passed 5 (bad_record f) f.flows e i h)).len.most)

-- facts that pass codes 3 and 6
pub record Valid (f : Facts) : Type 0 where
  pub nodes : Within 1 most_nodes f.nodes
  pub flows : f.flows ≤ most_flows
  pub records : (i : ℕ) → i < f.flows → Sound f i

pub valid : (f : Facts) → (code3 f).code ≡ 0 → (code6 f).code ≡ 0 → Valid f
unfolding code3 code6
valid f e3 e6 =
    let (n, m) = or_false (outside 1 most_nodes f.nodes) (outside 0 most_flows f.flows) (given_passed 2 _ 0 e3) in
    record {
      nodes = outside_false 1 most_nodes f.nodes n;
      flows = (outside_false 0 most_flows f.flows m).most;
      records = λ i h. sound f i (given_first_passed 5 (bad_record f) f.flows e6 i h);
    }

pub table_valid : (t : Sections) → Passed t table_rules → Valid (facts_of t)
unfolding table_rules
table_valid t p = valid (facts_of t) (passed_head p) (passed_head (passed_tail (passed_tail p)))

-- a step that goes from one of the first n nodes to another
pub record Placed (n : ℕ) (t : Transmission) : Type 0 where
  pub sender : t.sender.0 < n
  pub receiver : t.receiver.0 < n
  pub apart : t.sender.0 ≡ t.receiver.0 → ⊥

-- as every step does where code 8 passes
pub placed : (f : Facts) → (code8 f).code ≡ 0 → (k : ℕ) → k < all_steps f → Placed f.nodes (f.step k)
unfolding code8 bad_step
placed f e k h =
    let (e₂, joined) = or_false _ _ (given_first_passed 7 (bad_step f) (all_steps f) e k h) in
    let (e₁, apart) = or_false _ _ e₂ in
    let (sender, receiver) = or_false _ _ e₁ in
    record {
      sender = leb-false _ _ sender;
      receiver = leb-false _ _ receiver;
      apart = eqb-false _ _ apart;
    }

pub table_placed : (t : Sections) → Passed t table_rules → (k : ℕ) → k < all_steps (facts_of t) → Placed (facts_of t).nodes ((facts_of t).step k)
unfolding table_rules
table_placed t p = placed (facts_of t) (passed_head (passed_tail (passed_tail (passed_tail p))))

-- flows of one id are one flow
pub same_flow : (f : Facts) → Valid f → (i j : ℕ) → i < f.flows → j < f.flows → f.id i ≡ f.id j → i ≡ j
same_flow f v i j i< j< e =
    ⊎_elim (λ (below : i < j). absurd ((v.records j j<).new i below e))
    (λ (h : j ≤ i).
    ⊎_elim (λ (above : j < i). absurd ((v.records i i<).new j above (sym e))) (λ (g : i ≤ j). omega arith) (lt_or_ge j i))
    (lt_or_ge i j)

-- a book that passes rules 1 to 8 is valid
pub book_valid : (b : List ℕ) → Passed b book_rules → Valid (said b)
unfolding book_rules
book_valid b p =
    let p3 = passed_tail (passed_tail p) in
    let p6 = passed_tail (passed_tail (passed_tail p3)) in
    valid (said b) (passed_head p3) (passed_head p6)

-- and where a check passes it by a measure, each flow's bound is admissible
pub check_bounds :
    (measured : Facts → Measure) (b : List ℕ)
    → Passed b (check_rules_by measured)
    → (l : ℕ)
    → l < (said b).flows
    → Admissible (said b) (measured (said b)) l (bound_by (said b) (measured (said b)) l)
unfolding check_rules_by code9_by
check_bounds measured b p l h =
    let μ : Measure = measured (said b) in
    bound_admissible (said b) μ l
    (boundless_false (said b) μ l (given_first_passed 8 _ (said b).flows (passed_head (passed_others book_rules _ p)) l h))
