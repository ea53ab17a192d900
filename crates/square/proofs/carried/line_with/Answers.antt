-- `square::carried::line_with` reads the line of a flow that stays from where it stood, with the newcomer's figure put in, and the newcomer's own
-- from its pairs. Assumes nothing.
use mathlib.Core.Path.{◌∙◌}
use native.Mathlib.Omega.{arith}
use Rattle.square.proofs.CarriedLaws.{with_above, with_own, with_below}
use Rattle.square.proofs.carried.line_with.Goals as goal

pub returns-then-l-place : goal.returns-then-l-place
returns-then-l-place c = c.line_from.ensures ∙ with_above _ _ _ _ c.requires.1 c.if-l-place.true

pub returns-then-l-place-2 : goal.returns-then-l-place-2
returns-then-l-place-2 c = c.front.ensures ∙ with_own _ _ _ _ c.requires.1 c.if-l-place-2.true

pub returns : goal.returns
returns c = rw c.line_from-line.ensures (with_below _ _ _ _ c.requires.1 (omega (arith, c.if-l-place.false, c.if-l-place-2.false)))
