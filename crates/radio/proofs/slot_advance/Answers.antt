-- `radio::slot_advance` meets its contract: it packs the answer of advance, whose number fits, and hands on the area and the grants.
-- Assumes nothing.
use borrow.Author.Rules.{rules}
use mathlib.Core.Path.{◌∙◌}
use Rattle.trade.specs.Calls.{advance_by}
use Rattle.trade.specs.Slot.{releases_of, greedy}
use Rattle.trade.proofs.Numbers.{advance_number}
use Rattle.radio.proofs.Packing.{fits, packs}
use Rattle.radio.proofs.slot_advance.Goals as goal

pub packed-requires : goal.packed-requires
unfolding advance_by
packed-requires c = fits (c.from-answer.ensures ∙ c.advance.ensures.answer) (advance_number greedy releases_of _)

pub returns : goal.returns
returns c =
    record {
      answer = packs c.packed.ensures (c.from-answer.ensures ∙ c.advance.ensures.answer);
      area = search rules;
      grants = search rules;
    }
