-- `area::refusals::Timed::is_bad_place` tests a used place by its record, and an unused one for 0. Assumes nothing.
use mathlib.Core.Path.{◌∙◌, ap}
use Rattle.trade.specs.declared.flow.Flow.{Flow}
use borrow.Author.Tests.{lt-ltb, le-ltb}
use Rattle.trade.specs.Facts.{facts_of, flow_in}
use Rattle.trade.specs.SlotCodes.{bad_place}
use Rattle.area.specs.Refusals.{bad_at, bad_place_at}
use Rattle.area.proofs.refusals.Timed.is_bad_place.Goals as goal

pub returns-then-self-i : goal.returns-then-self-i
unfolding bad_place_at bad_place facts_of
returns-then-self-i c = rw (c.ne.ensures, le-ltb c.args.i c.args.self.flows c.if-self-i.true)

pub returns : goal.returns
unfolding bad_place_at bad_place bad_at facts_of flow_in
returns c =
    let a = c.args in
    c.is_bad.ensures
    ∙ ap (λ (w : Flow). bad_at w a.first a.slot a.p) c.record_at.ensures
    ∙ rw (lt-ltb a.i a.self.flows c.if-self-i.false)
