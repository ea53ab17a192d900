-- `sections::records::is_repeat` meets its contract: without a search nothing is found, as it requires. Assumes nothing.
use mathlib.Core.Path.{sym}
use Rattle.sections.proofs.records.is_repeat.Goals as goal

pub returns : goal.returns
returns c = sym (c.requires.i_value c.if-met.false)
