-- `radio::slot_start` meets its contract: it packs the answer of start, whose number fits, and hands on the area. Assumes nothing.
use mathlib.Core.Path.{◌∙◌}
use Rattle.trade.specs.Calls.{start_by}
use Rattle.trade.specs.Bound.{measure}
use Rattle.trade.proofs.Numbers.{start_number}
use Rattle.radio.proofs.Packing.{fits, packs}
use Rattle.radio.proofs.slot_start.Goals as goal

pub packed-requires : goal.packed-requires
unfolding start_by
packed-requires c = fits (c.from-answer.ensures ∙ c.start.ensures.answer) (start_number measure _)

pub returns : goal.returns
returns c =
    record {
      answer = packs c.packed.ensures (c.from-answer.ensures ∙ c.start.ensures.answer);
      area = c.start.ensures.area;
    }
