-- `why::told::told` tells the first of the four that holds. Assumes nothing.
use Prim.Native.Nat.{ℕ, ◌<◌, ◌≤◌}
use mathlib.Core.Path.{◌≡◌, refl, sym, ◌∙◌, ap, ap₂}
use mathlib.Core.Bool.{Bool, true, false}
use lib.Dec.{leb}
use native.Mathlib.Omega.{arith}
use borrow.Author.Tests.{lt-leb, le-leb, lt-ltb, le-ltb}
use Rattle.std.proofs.lemmas.Bool.Decides.{nat_tests}
use Rattle.trade.specs.First.{sum_to}
use Rattle.trade.specs.Bytes.{bit}
use Rattle.trade.specs.Layout.{field}
use Rattle.trade.specs.Facts.{Facts, facts_in, facts_of}
use Rattle.trade.specs.Slot.{done_now, unfinished}
use Rattle.trade.specs.Why.{why}
use Rattle.trade.specs.declared.told.Told.TheVariants.{WaitingOn}
use Rattle.trade.proofs.Why.{tells_unreleased, tells_finished, tells_granted}
use Rattle.plans.specs.Plan.{plan_step}
use Rattle.sections.specs.declared.parts.Parts.{Parts}
use Rattle.slot.specs.States.{place_of, state_of}
use Rattle.why.specs.Told.{begun_by}
use Rattle.why.proofs.WhyLaws.{goes_is, may_block, found_above, told_waiting}
use Rattle.why.proofs.told.told.Goals as goal
use Rattle.why.proofs.told.told.Goals.{After-blocker, After-plan_step-step, Else-len-done, Else-lt}

-- what the sections say
abbrev facts : Parts → Facts
facts p = facts_in 0 p.flows p.rows.now p.records.now p.steps.now

pub returns-then-lt : goal.returns-then-lt
returns-then-lt c =
    sym (tells_unreleased (facts c.args.parts) (begun_by (leb c.args.first.0 c.args.run.slot.0)) (state_of c.args.run) c.args.place (let h : c.args.run.slot.0 < c.args.first.0 = grind (arith, nat_tests) in lt-leb _ _ h))

-- its first release has come
begun : (c : Else-lt) → why (facts c.args.parts) (begun_by (leb c.args.first.0 c.args.run.slot.0)) (state_of c.args.run) c.args.place ≡ why (facts c.args.parts) (begun_by true) (state_of c.args.run) c.args.place
begun c = ap (λ (b : Bool). why (facts c.args.parts) (begun_by b) (state_of c.args.run) c.args.place) (let h : c.args.first.0 ≤ c.args.run.slot.0 = grind (arith, nat_tests) in le-leb _ _ h)

pub returns-then-len-done : goal.returns-then-len-done
unfolding unfinished done_now state_of place_of facts_of
returns-then-len-done c =
    sym (begun (goal.at.returns-then-len-done c).Else-lt ∙ tells_finished (facts c.args.parts) (begun_by true) (state_of c.args.run) c.args.place refl (le-ltb _ _ (rw c.len_at-len.ensures.0 at c.if-len-done.true)))

-- it is unfinished
busy : (c : Else-len-done) → (state_of c.args.run).done c.args.place < field c.args.parts.records.now c.args.place 4
unfolding state_of place_of
busy c = rw c.len_at-len.ensures.0 at c.if-len-done.false

pub returns-then-has_place : goal.returns-then-has_place
unfolding unfinished done_now facts_of
returns-then-has_place c =
    let a = c.args in
    sym
    (begun (goal.at.returns-then-has_place c).Else-lt
    ∙ tells_granted (facts c.args.parts) (begun_by true) (state_of c.args.run) a.place refl (lt-ltb _ _ (busy (goal.at.returns-then-has_place c).Else-len-done))
    (sym (goes_is a.parts.flows a.parts.rows.now a.parts.records.now a.parts.steps.now c.args.parts.formed (state_of c.args.run) a.place c.requires.1 c.chosen-choice.result c.chosen-choice.ensures a.place)
    ∙ sym c.has_place.ensures
    ∙ c.if-has_place.true))

-- the step that waits
step :
    (c : After-plan_step-step)
    → c.plan_step-step.result
    ≡ plan_step c.args.parts.steps.now (sum_to (λ i. field c.args.parts.records.now i 4) c.args.place) (field c.args.parts.records.now c.args.place 4) ((state_of c.args.run).done c.args.place)
unfolding state_of place_of
step c =
    c.plan_step-step.ensures
    ∙ ap₂ (λ (first len : ℕ). plan_step c.args.parts.steps.now first len ((state_of c.args.run).done c.args.place)) c.steps_before.ensures.0 c.len_at-len.ensures.0

pub blocker-requires : goal.blocker-requires
blocker-requires c =
    let a = c.args in
    may_block a.parts.flows a.parts.rows.now a.parts.records.now a.parts.steps.now c.args.parts.formed (state_of c.args.run) a.place c.requires.1 c.chosen-choice.result c.chosen-choice.ensures
    c.plan_step-step.result (busy (goal.at.blocker-requires c).Else-len-done) (step (goal.at.blocker-requires c).After-plan_step-step)

-- the place that it waits on
waits : (c : After-blocker) → bit c.chosen-choice.result.places c.args.place ≡ false
waits c = sym c.has_place.ensures ∙ c.if-has_place.false

above :
    (c : After-blocker)
    → (state_of c.args.run).done c.args.place < field c.args.parts.records.now c.args.place 4
    → c.plan_step-step.result
    ≡ plan_step c.args.parts.steps.now (sum_to (λ i. field c.args.parts.records.now i 4) c.args.place) (field c.args.parts.records.now c.args.place 4) ((state_of c.args.run).done c.args.place)
    → c.blocker.result < c.args.place
above c unfinished is =
    let a = c.args in
    rw c.blocker.ensures
    (found_above a.parts.flows a.parts.rows.now a.parts.records.now a.parts.steps.now c.args.parts.formed (state_of c.args.run) a.place c.requires.1 c.chosen-choice.result c.chosen-choice.ensures
    c.plan_step-step.result unfinished is (waits c))

pub overflow_cast-result : goal.overflow_cast-result
overflow_cast-result c =
    let p = goal.at.overflow_cast-result c in
    omega (arith, above p.After-blocker (busy p.Else-len-done) (step p.After-plan_step-step), c.requires.1, c.args.parts.formed.most)

pub returns : goal.returns
returns c =
    let a = c.args in
    ap WaitingOn c.blocker.ensures
    ∙ sym
    (begun (goal.at.returns c).Else-lt
    ∙ told_waiting a.parts.flows a.parts.rows.now a.parts.records.now a.parts.steps.now c.args.parts.formed (state_of c.args.run) a.place c.requires.1 c.chosen-choice.result c.chosen-choice.ensures
    c.plan_step-step.result (busy (goal.at.returns c).Else-len-done) (step (goal.at.returns c).After-plan_step-step) (waits (goal.at.returns c).After-blocker))
