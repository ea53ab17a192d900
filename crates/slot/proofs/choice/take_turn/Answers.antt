-- `slot::choice::take_turn` a flow that has finished waits, one whose next step clashes waits, and any other goes. Assumes nothing.
use mathlib.Core.Path.{sym, ◌∙◌, ap}
use Rattle.nodes.specs.Grants.{clashes_with}
use Rattle.slot.specs.Choice.{next_of}
use Rattle.slot.proofs.TurnLaws.{turned_finished, turned_clashes, turned_goes}
use Rattle.slot.proofs.choice.take_turn.Goals as goal

pub returns-then-turn-done : goal.returns-then-turn-done
returns-then-turn-done c =
    let a = c.args in
    turned_finished a.rows.now a.steps.now a.turn a.set.now c.if-turn-done.true

pub clashes-requires : goal.clashes-requires
unfolding next_of
clashes-requires c = rw c.plan_step-step.ensures (c.requires c.if-turn-done.false)

pub returns-then-clashes : goal.returns-then-clashes
unfolding next_of
returns-then-clashes c =
    let a = c.args in
    turned_clashes a.rows.now a.steps.now a.turn a.set.now c.if-turn-done.false
    (sym (c.clashes.ensures.exact ∙ ap (clashes_with a.rows.now a.set.now) c.plan_step-step.ensures) ∙ c.if-clashes.true)

pub with-requires : goal.with-requires
unfolding next_of
with-requires c = rw c.plan_step-step.ensures (c.requires c.if-turn-done.false)

pub returns-else-clashes : goal.returns-else-clashes
unfolding next_of
returns-else-clashes c =
    let a = c.args in
    let next = c.plan_step-step.ensures in
    rw next
    (turned_goes a.rows.now a.steps.now a.turn a.set.now c.if-turn-done.false
    (sym (c.clashes.ensures.exact ∙ ap (clashes_with a.rows.now a.set.now) next) ∙ c.if-clashes.false)
    _ (rw (← next) c.with.ensures))
