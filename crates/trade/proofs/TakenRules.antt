-- THE RULES where a flow is taken out: what passed codes 3, 5, 6 and 8 passes them still; and the flows above are as they were. Leans on Taken and
-- Valid. Assumes nothing.
use Prim.Native.Nat.{ℕ, zero, suc, ◌+◌, ◌-◌, ◌≤◌, ◌<◌}
use mathlib.Core.Path.{◌≡◌, refl, sym, ◌∙◌, ap}
use mathlib.Core.Bool.{and-false, Bool, true, false, not, ◌&&◌, ◌||◌}
use mathlib.Core.Logic.{⊎_elim}
use native.Mathlib.Omega.{arith}
use lib.Dec.{eqb, leb}
use borrow.Author.Tests.{eq-eqb, ne_eqb, not-false}
use Rattle.trade.specs.First.{some, sum_to}
use Rattle.trade.specs.Facts.{Facts, first_step, all_steps, step_of}
use Rattle.trade.specs.Interference.{matrix}
use Rattle.trade.specs.Exchange.{before_out}
use Rattle.trade.specs.Codes.{code3, code5, code6, code8, bad_row, bad_record, first_of_plan, repeats, goes_on, bad_step}
use Rattle.trade.specs.declared.answer.Answer.{Answer}
use Rattle.trade.proofs.First.{lt_or_ge, or_false, some_intro, some_none}
use Rattle.trade.proofs.Sums.{sum_next, sum_le}
use Rattle.trade.proofs.Answers.{given_first_passed, given_first_none, given_first_same}
use Rattle.trade.proofs.Valid.{Sound, sound_passes, Valid, code3_passes}
use Rattle.trade.proofs.Alike.{Alike}
use Rattle.trade.proofs.Taken.{TakenOut, was_listed, out_below, out_order}

-- where the same nodes disturb each other, steps that are the same meet alike
meets_alike : (f g : Facts) → f.disturbs ≡ g.disturbs → (l h i j : ℕ) → step_of f l i ≡ step_of g l i → step_of f h j ≡ step_of g h j → matrix f l h i j ≡ matrix g l h i j
unfolding matrix
meets_alike f g e l h i j p q = rw (p, q, e) refl

-- a step of all plans is a step of one
record InPlan (len : ℕ → ℕ) (n k : ℕ) : Type 0 where
  flow : ℕ
  step : ℕ
  listed : flow < n
  within : step < len flow
  here : k ≡ sum_to len flow + step

in_plan : (len : ℕ → ℕ) (n k : ℕ) → k < sum_to len n → InPlan len n k
unfolding sum_to
in_plan len zero k h = absurd (omega arith)
in_plan len (suc n) k h =
    ⊎_elim
    (λ (l : k < sum_to len n).
    let p = in_plan len n k l in record { flow = p.flow; step = p.step; listed = omega (arith, p.listed); within = p.within; here = p.here })
    (λ (l : sum_to len n ≤ k).
    record { flow = n; step = k - sum_to len n; listed = omega arith; within = omega (arith, sum_next len n); here = omega arith })
    (lt_or_ge k (sum_to len n))

module _ (place : ℕ) (f g : Facts) (t : TakenOut place f g) where
  abbrev was : ℕ → ℕ
  was i = before_out place i

  -- code 3
  pub three_passes : Valid g → (code3 f).code ≡ 0
  three_passes v = code3_passes f (rw t.nodes v.nodes) (record { least = omega arith; most = omega (arith, v.flows, t.flows) })

  -- code 5
  pub five_passes : (code5 g).code ≡ 0 → (code5 f).code ≡ 0
  unfolding code5 bad_row
  five_passes e =
      ap (λ (a : Answer). a.code) (given_first_same 5 (bad_row f) (bad_row g) f.nodes g.nodes t.nodes (λ x h. rw (t.disturbs, t.nodes) refl)) ∙ e

  -- code 6: the ids of those above are ids of those that were
  pub sound_out : Valid g → (i : ℕ) → i < f.flows → Sound f i
  sound_out v i h =
      let s = v.records (was i) (was_listed place f g t i h) in
      record {
        id = rw (t.id i h) s.id;
        new = λ j l e. s.new (was j) (out_order place j i l) (sym (t.id j (omega arith)) ∙ e ∙ t.id i h);
        phase = rw (t.phase i h) s.phase;
        period = rw (t.period i h) s.period;
        deadline = rw (t.period i h, t.deadline i h) s.deadline;
        len = rw (t.plan i h).len s.len;
      }

  pub six_passes : Valid g → (code6 f).code ≡ 0
  unfolding code6
  six_passes v =
      ap (λ (a : Answer). a.code) (given_first_none 6 (bad_record f) f.flows (λ i h. sound_passes f i (sound_out v i h)))

  -- code 8: a step stands in its plan as it stood
  module _ (eight : (code8 g).code ≡ 0) (i j : ℕ) (i< : i < f.flows) (j< : j < f.len i) where
    abbrev stood : ℕ
    stood = first_step g (was i) + j

    in_all : stood < all_steps g
    unfolding all_steps first_step
    in_all =
        omega (
          arith,
          (t.plan i i<).len,
          sum_next g.len (was i),
          sum_le g.len (suc (was i)) g.flows (was_listed place f g t i i<),
        )

    stood_good : bad_step g stood ≡ false
    unfolding code8
    stood_good = given_first_passed 7 (bad_step g) (all_steps g) eight stood in_all

    -- inside its plan no plan begins
    inside : 0 < j → first_of_plan g stood ≡ false
    unfolding first_of_plan first_step
    inside p =
        some_none (λ k. eqb (first_step g k) stood) g.flows
        (λ k l.
        ne_eqb (first_step g k) stood
        (λ e.
        ⊎_elim (λ (q : was i < k). omega (arith, (t.plan i i<).len, sum_next g.len (was i), sum_le g.len (suc (was i)) k q))
        (λ (q : k ≤ was i). omega (arith, sum_le g.len k (was i) q)) (lt_or_ge (was i) k)))

    step_is : f.step (first_step f i + j) ≡ g.step stood
    unfolding step_of
    step_is = (t.plan i i<).steps j j<

    -- it goes on from the step before it, or it is the first of its plan
    abbrev joined : Facts → ℕ → Bool
    joined h k = not (first_of_plan h k) && not (repeats (h.step k) (h.step (k - 1)) || goes_on (h.step k) (h.step (k - 1)))

    begins : j ≡ 0 → joined f (first_step f i + j) ≡ false
    unfolding first_of_plan
    begins e =
        let first : some (λ k. eqb (first_step f k) (first_step f i + j)) f.flows ≡ true =
        some_intro (λ k. eqb (first_step f k) (first_step f i + j)) f.flows i i< (eq-eqb (first_step f i) (first_step f i + j) (omega arith)) in
        rw first refl

    goes_on_lem : 0 < j → joined g stood ≡ false → joined f (first_step f i + j) ≡ false
    unfolding step_of
    goes_on_lem p e =
        let back : first_step f i + j - 1 ≡ first_step f i + (j - 1) = omega arith in
        let behind : first_step g (was i) + (j - 1) ≡ stood - 1 = omega arith in
        let before : f.step (first_step f i + j - 1) ≡ g.step (stood - 1) =
        ap f.step back ∙ (t.plan i i<).steps (j - 1) (omega arith) ∙ ap g.step behind in
        let follows : (repeats (g.step stood) (g.step (stood - 1)) || goes_on (g.step stood) (g.step (stood - 1))) ≡ true =
        not-false _ (rw (inside p) at e) in
        rw (step_is, before, follows) (and-false (not (first_of_plan f (first_step f i + j))))

    good_step : bad_step f (first_step f i + j) ≡ false
    unfolding bad_step
    good_step =
        let (e₂, joins) = or_false (leb g.nodes (g.step stood).sender.0 || leb g.nodes (g.step stood).receiver.0 || eqb (g.step stood).sender.0 (g.step stood).receiver.0) (joined g stood) stood_good in
        let (e₁, apart) = or_false (leb g.nodes (g.step stood).sender.0 || leb g.nodes (g.step stood).receiver.0) (eqb (g.step stood).sender.0 (g.step stood).receiver.0) e₂ in
        let (sender, receiver) = or_false (leb g.nodes (g.step stood).sender.0) (leb g.nodes (g.step stood).receiver.0) e₁ in
        let still : joined f (first_step f i + j) ≡ false =
        ⊎_elim (λ (p : 0 < j). goes_on_lem p joins) (λ (p : j ≤ 0). begins (omega arith)) (lt_or_ge 0 j) in
        rw (still, step_is, t.nodes, sender, receiver, apart) refl

  pub eight_passes : (code8 g).code ≡ 0 → (code8 f).code ≡ 0
  unfolding code8 all_steps first_step
  eight_passes e =
      ap (λ (a : Answer). a.code)
      (given_first_none 8 (bad_step f) (all_steps f)
      (λ k h. let p = in_plan f.len f.flows k h in rw p.here (good_step e p.flow p.step p.listed p.within)))

  -- THE FLOWS ABOVE are as they were
  pub alike_above : Alike place f g
  alike_above =
      record {
        id = λ i h. t.id i (above i h) ∙ ap g.id (out_below place i h);
        phase = λ i h. t.phase i (above i h) ∙ ap g.phase (out_below place i h);
        period = λ i h. t.period i (above i h) ∙ ap g.period (out_below place i h);
        deadline = λ i h. t.deadline i (above i h) ∙ ap g.deadline (out_below place i h);
        len = λ i h. (t.plan i (above i h)).len ∙ ap g.len (out_below place i h);
        steps = λ i j h l. steps_above i j h l;
        conflicts = λ l h i j p q u v. matrix_above l h i j p q u v;
      }
    where
      above : (i : ℕ) → i < place → i < f.flows
      above i h = omega (arith, t.there, t.flows)

      steps_above : (i j : ℕ) → i < place → j < f.len i → step_of f i j ≡ step_of g i j
      steps_above i j h l = (t.plan i (above i h)).steps j l ∙ ap (λ (k : ℕ). step_of g k j) (out_below place i h)

      matrix_above : (l h i j : ℕ) → l < place → h < place → i < f.len l → j < f.len h → matrix f l h i j ≡ matrix g l h i j
      matrix_above l h i j p q u v = meets_alike f g t.disturbs l h i j (steps_above l i p u) (steps_above h j q v)
