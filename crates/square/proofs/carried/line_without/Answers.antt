-- `square::carried::line_without` reads the line of a flow from where it stood. Assumes nothing.
use mathlib.Core.Path.{◌∙◌}
use native.Mathlib.Omega.{arith}
use Rattle.square.proofs.CarriedLaws.{left_above, left_below}
use Rattle.square.proofs.carried.line_without.Goals as goal

pub returns-then-l-place : goal.returns-then-l-place
returns-then-l-place c = c.line_from.ensures ∙ left_above _ _ _ (omega arith) c.if-l-place.true

pub returns : goal.returns
returns c = c.line_from-2.ensures ∙ left_below _ _ _ (omega arith) c.if-l-place.false
