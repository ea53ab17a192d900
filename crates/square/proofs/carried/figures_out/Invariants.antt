-- `square::carried::figures_out` puts line by line. The loop's invariant: the first l lines hold their figures. Assumes nothing.
use lib.Dec.{ltb}
use Rattle.square.proofs.KeptLaws.{used, Lines}
use Rattle.square.proofs.CarriedLaws.{figure_out}
use Rattle.square.proofs.carried.figures_out.Given as goal

abbrev pub invariant-loop-l : goal.invariant-loop-l
invariant-loop-l l = Lines (used l.flows (figure_out l.place l.initial.figures)) l.initial.figures (λ j. ltb j l.l) l.figures
