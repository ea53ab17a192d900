-- `cut::cut::put_in` meets its contract: the held bytes are put behind those in use, and change about with them. Assumes nothing.
use Prim.Native.Nat.{◌+◌}
use mathlib.Core.Path.{◌∙◌, ap}
use lib.ListN.{length}
use Rattle.cut.specs.Turned.{turned}
use Rattle.cut.proofs.CutLaws.{entered_in_turn}
use Rattle.cut.proofs.cut.put_in.Goals as goal

pub returns : goal.returns
returns c =
    let a = c.args in record {
      section_after = c.turn.ensures
          ∙ ap (turned a.at a.end (a.end + length a.held.now)) c.swap.ensures.section_after
          ∙ entered_in_turn a.at a.end a.held.now a.section.now c.requires.1 c.requires.2;
      held_after = c.swap.ensures.held_after;
    }
