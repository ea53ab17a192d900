-- `cut::cut::clear` meets its contract: the part from the place on is filled with zeros. Assumes nothing.
use Rattle.cut.proofs.CutLaws.{zeroed}
use Rattle.cut.proofs.cut.clear.Goals as goal

pub returns : goal.returns
returns c =
    let a = c.args in
    zeroed a.end a.section.now c.fill.new.self c.requires (c.fill.ensures.after (λ y e. e))
