-- `radio::slot_check` meets its contract: it packs the answer of check, whose number fits. Assumes nothing.
use Rattle.trade.specs.Calls.{check_by}
use Rattle.trade.specs.Bound.{measure}
use Rattle.trade.proofs.Numbers.{check_number}
use Rattle.radio.proofs.Packing.{fits, packs}
use Rattle.radio.proofs.slot_check.Goals as goal

pub packed-requires : goal.packed-requires
unfolding check_by
packed-requires c = fits c.check.ensures.answer (check_number measure _)

pub returns : goal.returns
returns c = record { answer = packs c.packed.ensures c.check.ensures.answer }
