-- `square::kept::shift` goes by the cut. Assumes nothing.
use mathlib.Core.Path.{sym}
use Rattle.square.proofs.KeptLaws.{shifted_below, shifted_past}
use Rattle.square.proofs.kept.shift.Goals as goal

pub returns-then-h-cut : goal.returns-then-h-cut
returns-then-h-cut c = sym (shifted_below _ _ _ _ c.if-h-cut.true)

pub returns : goal.returns
returns c = sym (shifted_past _ _ _ _ c.if-h-cut.false)
