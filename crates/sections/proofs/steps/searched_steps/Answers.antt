-- `sections::steps::searched_steps` meets its contract: no step of the plans passed is bad. Assumes nothing.
use Prim.Native.Nat.{ℕ, ◌≤◌, ◌+◌, ◌-◌, ◌*◌}
use mathlib.Core.Path.{◌≡◌, refl, ◌∙◌, sym, ap, ap₂}
use mathlib.Core.List.{List, []}
use lib.ListN.{length, take, drop, length-drop}
use native.Mathlib.Omega.{arith}
use Rattle.trade.specs.Limits.{step_bytes}
use Rattle.trade.specs.First.{first, sum_to}
use Rattle.trade.specs.Layout.{field}
use Rattle.trade.specs.Facts.{facts_in, facts_of, first_step, all_steps}
use Rattle.trade.specs.Codes.{bad_step, code8}
use native.Mathlib.Numerals.{add-one}
use Rattle.trade.specs.Answers.{refused}
use Rattle.trade.proofs.Sums.{sum_next}
use Rattle.trade.proofs.Answers.{given_first_none}
use Rattle.sections.proofs.StepsLaws.{plan_room, bad_found, none_found}
use Rattle.sections.specs.Steps.{bad_in_plan}
use Rattle.numbers.proofs.NumbersLaws.{part_tail}
use Rattle.sections.proofs.steps.searched_steps.Goals as goal
use Rattle.sections.proofs.steps.searched_steps.Goals.{After-len_at-len}

-- the plan at i lies in the steps
room :
    (c : After-len_at-len)
    → 2 * (c.loop-i.start + c.len_at-len.result) ≤ length c.args.steps.now
room c =
    let a = c.args in
    let i = c.loop-i.i in
    let h : 2 * (sum_to (λ k. field a.records.now k 4) i + field a.records.now i 4) ≤ length a.steps.now =
    plan_room a.records.now a.flows i (length a.steps.now) (omega arith) c.requires.flows_in_bounds in
    rw (c.loop-i.invariant.0, c.len_at-len.ensures.0) h

-- the first bad step of the part that starts there, said of the steps from its start on
same :
    (c : After-len_at-len)
    → first (bad_in_plan c.args.nodes (take (length c.args.steps.now - 2 * c.loop-i.start) (drop (2 * c.loop-i.start) c.args.steps.now))) c.len_at-len.result
    ≡ first (bad_in_plan c.args.nodes (drop (step_bytes * sum_to (λ k. field c.args.records.now k 4) c.loop-i.i) c.args.steps.now)) (field c.args.records.now c.loop-i.i 4)
same c =
    let a = c.args in
    let loop = c.loop-i in
    ap₂ (λ (plan : List ℕ) (len : ℕ). first (bad_in_plan a.nodes plan) len)
    (part_tail (2 * loop.start) a.steps.now ∙ ap (λ (s : ℕ). drop (2 * s) a.steps.now) loop.invariant.0)
    c.len_at-len.ensures.0

pub loop-i-init : goal.loop-i-init
unfolding sum_to
loop-i-init c = (refl, λ k h. absurd (omega arith))

pub overflow_mul-at : goal.overflow_mul-at
overflow_mul-at c = omega (arith, room (goal.at.overflow_mul-at c).After-len_at-len)

pub slice_bounds-first_bad_step-count : goal.slice_bounds-first_bad_step-count
slice_bounds-first_bad_step-count c = omega (arith, room (goal.at.slice_bounds-first_bad_step-count c).After-len_at-len)

pub slice_bounds-first_bad_step-start : goal.slice_bounds-first_bad_step-start
slice_bounds-first_bad_step-start c = omega (arith, room (goal.at.slice_bounds-first_bad_step-start c).After-len_at-len)

pub slice_bounds-first_bad_step-end : goal.slice_bounds-first_bad_step-end
slice_bounds-first_bad_step-end c = omega (arith, room (goal.at.slice_bounds-first_bad_step-end c).After-len_at-len)

pub first_bad_step-requires : goal.first_bad_step-requires
first_bad_step-requires c =
    let steps = c.args.steps.now in
    let start = c.loop-i.start in
    rw (part_tail (2 * start) steps, length-drop (2 * start) steps) (omega (arith, room (goal.at.first_bad_step-requires c).After-len_at-len))

pub overflow_add-result : goal.overflow_add-result
overflow_add-result c = omega (arith, room (goal.at.overflow_add-result c).After-len_at-len, c.in-Some.ensures.found)

pub overflow_add-start : goal.overflow_add-start
overflow_add-start c = omega (arith, room (goal.at.overflow_add-start c).After-len_at-len)

pub returns-in-Some : goal.returns-in-Some
unfolding first_step facts_of
returns-in-Some c =
    let a = c.args in
    let loop = c.loop-i in
    let bad = c.in-Some.ensures.found in
    let here = bad.1 ∙ same (goal.at.returns-in-Some c).After-len_at-len in
    ap₂ (λ (s b : ℕ). refused 8 (s + b)) loop.invariant.0 here
    ∙ sym
    (bad_found a.nodes a.flows [] a.records.now a.steps.now loop.i (omega arith)
    (λ k h. loop.invariant.1 k (rw loop.invariant.0 h))
    (rw (← here, ← c.len_at-len.ensures.0) bad.0))

pub loop-i-preserved : goal.loop-i-preserved
unfolding first_step facts_of
loop-i-preserved c =
    let a = c.args in
    let loop = c.loop-i in
    let len = c.len_at-len.ensures.0 in
    let none = rw (same (goal.at.loop-i-preserved c).After-len_at-len, len) at c.in_default.ensures.none in (
      rw (add-one loop.i, sum_next (λ (k : ℕ). field a.records.now k 4) loop.i, loop.invariant.0, len) refl,
      λ k h.
          none_found a.nodes a.flows [] a.records.now a.steps.now loop.i (omega arith)
          (λ j b. loop.invariant.1 j (rw loop.invariant.0 b)) none k (rw (← loop.invariant.0, ← len) h),
    )

pub returns : goal.returns
unfolding code8 all_steps first_step facts_of
returns c =
    let a = c.args in
    let loop = c.loop-i in
    let e : loop.i ≡ a.flows = omega arith in
    sym
    (given_first_none 8 (bad_step (facts_in a.nodes a.flows [] a.records.now a.steps.now))
    (sum_to (λ (k : ℕ). field a.records.now k 4) a.flows)
    (λ k h. loop.invariant.1 k (rw (loop.invariant.0, e) h)))
