-- `bounds::acceptance::check` meets its contract: what reading refuses is refused, and else the bounds decide. Assumes nothing.
use Rattle.bounds.proofs.CheckLaws.{checks}
use Rattle.bounds.proofs.acceptance.check.Goals as goal

pub returns : goal.returns
returns c = rw c.into.ensures (checks c.args.book.now c.open_book.result c.and_then.result c.open_book.ensures.answer c.open_book.ensures.parts c.and_then.ensures)
