-- `cut::cut::take_out` meets its contract: the bytes that go change about with those in use behind them, and the held ones are put
-- over them. Assumes nothing.
use mathlib.Core.Path.{◌∙◌, ap}
use lib.ListN.{length}
use Rattle.trade.specs.Bytes.{part}
use Rattle.numbers.specs.Pasting.{pasted_at}
use Rattle.cut.proofs.CutLaws.{left_in_turn, went_behind}
use Rattle.cut.proofs.cut.take_out.Goals as goal

pub returns : goal.returns
returns c =
    let a = c.args in
    let turned = c.turn.ensures in record {
      section_after = c.swap.ensures.section_after
          ∙ ap (pasted_at a.end a.held.now) turned
          ∙ left_in_turn a.at a.end a.held.now a.section.now c.requires.1 c.requires.2;
      held_after = c.swap.ensures.held_after
          ∙ ap (part a.end (length a.held.now)) turned
          ∙ went_behind a.at a.end (length a.held.now) a.section.now c.requires.1 c.requires.2;
    }
