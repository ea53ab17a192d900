-- `sections::at_once::count_anew` meets its contract: it has counted the plans before i. Assumes nothing.
use Prim.Native.Nat.{ℕ, ◌+◌, ◌*◌, ◌≤◌}
use mathlib.Core.Path.{◌≡◌, refl, ◌∙◌, ap}
use lib.ListN.{length}
use native.Mathlib.Omega.{arith}
use Rattle.trade.specs.First.{sum_to}
use Rattle.trade.specs.Layout.{field}
use Rattle.trade.specs.Interference.{one}
use Rattle.sections.specs.Steps.{starts_anew}
use Rattle.sections.proofs.StepsLaws.{plan_room}
use Rattle.sections.proofs.AtOnceLaws.{counted, sum_more}
use Rattle.sections.proofs.at_once.count_anew.Goals as goal
use Rattle.sections.proofs.at_once.count_anew.Goals.{After-len_at-len}

-- the plan at i lies in the steps
room :
    (c : After-len_at-len)
    → 2 * (c.loop-i.all + c.len_at-len.result) ≤ length c.args.steps.now
room c =
    let a = c.args in
    let i = c.loop-i.i in
    let h : 2 * (sum_to (λ k. field a.records.now k 4) i + field a.records.now i 4) ≤ length a.steps.now =
    plan_room a.records.now a.flows i (length a.steps.now) (omega arith) c.requires.flows_in_bounds in
    rw (c.loop-i.invariant.0, c.len_at-len.ensures.0) h

pub loop-i-init : goal.loop-i-init
unfolding sum_to
loop-i-init c = (refl, omega arith, refl)

pub starts_anew-requires : goal.starts_anew-requires
starts_anew-requires c = room (goal.at.starts_anew-requires c).After-len_at-len

pub overflow_add-all : goal.overflow_add-all
overflow_add-all c = omega (arith, room (goal.at.overflow_add-all c).After-len_at-len)

pub loop-i-preserved : goal.loop-i-preserved
unfolding starts_anew
loop-i-preserved c =
    let a = c.args in
    let loop = c.loop-i in
    let len : ℕ → ℕ = λ k. field a.records.now k 4 in
    let f : ℕ → ℕ = λ k. one (starts_anew a.records.now a.steps.now k) in
    let more : c.from-anew.result ≡ f loop.i =
    c.from-anew.ensures
    ∙ (counted _).0
    ∙ ap one (c.starts_anew.ensures ∙ rw (loop.invariant.0, c.len_at-len.ensures.0) refl) in
    (omega (arith, sum_more len loop.i, c.len_at-len.ensures.0), omega (arith, c.from-anew.ensures, (counted c.starts_anew.result).1), omega (arith, sum_more f loop.i))

pub returns : goal.returns
returns c =
    let a = c.args in
    let loop = c.loop-i in
    let e : loop.i ≡ a.flows = omega arith in
    (loop.invariant.0 ∙ ap (sum_to (λ k. field a.records.now k 4)) e, loop.invariant.2 ∙ ap (sum_to (λ k. one (starts_anew a.records.now a.steps.now k))) e)
