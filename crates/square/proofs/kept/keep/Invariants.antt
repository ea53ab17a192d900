-- `square::kept::keep` puts line by line. The loop's invariant: the first l lines hold their figures. Assumes nothing.
use lib.Dec.{ltb}
use Rattle.trade.specs.Facts.{facts_in}
use Rattle.trade.specs.Interference.{interference}
use Rattle.square.proofs.KeptLaws.{used, Lines}
use Rattle.square.proofs.kept.keep.Given as goal

abbrev pub invariant-loop-l : goal.invariant-loop-l
invariant-loop-l l = Lines (used l.parts.flows (interference (facts_in 0 0 l.parts.rows.now l.parts.records.now l.parts.steps.now))) l.initial.figures (λ j. ltb j l.l) l.figures
