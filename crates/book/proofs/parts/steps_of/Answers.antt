-- `book::parts::steps_of` meets its contract: the part from its start to the next one's is the section. Assumes nothing.
use Rattle.book.proofs.PartsLaws.{steps_lie}
use Rattle.book.proofs.parts.steps_of.Goals as goal

pub returns : goal.returns
returns c = steps_lie c.args.slice.now c.args.f c.requires
