-- `figures::lanes::lay` sets the marks of each step into its word. The loop's invariant: those of the first j steps are set. Assumes
-- nothing.
use Rattle.std.proofs.Common.{◌≡◌}
use Rattle.plans.specs.Plan.{steps_in}
use Rattle.figures.proofs.LanesLaws.{LayingAt}
use Rattle.figures.proofs.lanes.lay.Given as goal

abbrev pub invariant-loop-j : goal.invariant-loop-j
invariant-loop-j l = (l.len ≡ steps_in l.h) × LayingAt l.columns l.h l.at l.j l.initial.words l.words
