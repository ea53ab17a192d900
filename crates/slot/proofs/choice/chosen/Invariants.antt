-- `slot::choice::chosen` takes the flows in record order. Assumes nothing.
use mathlib.Core.Path.{◌≡◌}
use Rattle.trade.specs.Facts.{facts_in, first_step}
use Rattle.slot.specs.States.{place_of}
use Rattle.slot.proofs.ChoiceLaws.{Chosen}
use Rattle.slot.proofs.choice.chosen.Given as goal

abbrev pub invariant-loop-i : goal.invariant-loop-i
invariant-loop-i l =
    (l.start ≡ first_step (facts_in 0 l.parts.flows l.parts.rows.now l.parts.records.now l.parts.steps.now) l.i)
    × Chosen l.parts.flows l.parts.rows.now l.parts.records.now l.parts.steps.now (record { slot = 0; done = place_of l.run.flows }) l.i l.set l.places l.sent
