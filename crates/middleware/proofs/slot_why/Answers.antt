-- `middleware::slot_why` meets its contract: it packs what is told of the flow, whose number fits. Assumes nothing.
use mathlib.Core.Path.{◌∙◌, ap}
use Rattle.trade.specs.Answers.{packed_of}
use Rattle.trade.specs.Why.{answer_of}
use Rattle.middleware.proofs.Numbers.{ask_number}
use Rattle.middleware.proofs.slot_why.Goals as goal

pub packed-requires : goal.packed-requires
packed-requires c = rw (c.answer-answer.ensures, c.why-told.ensures) (ask_number _ _ _)

pub returns : goal.returns
returns c =
    record { answer = c.packed.ensures ∙ ap packed_of (c.answer-answer.ensures ∙ ap answer_of c.why-told.ensures) }
