-- `square::carried::figures_in` puts line by line, from the last one up. The loop's invariant: the lines from l on hold their figures, and
-- those above are as they were. Assumes nothing.
use mathlib.Core.Bool.{not, ◌&&◌}
use lib.Dec.{ltb}
use Rattle.square.specs.Carried.{figure_with}
use Rattle.square.proofs.KeptLaws.{used, Lines}
use Rattle.square.proofs.carried.figures_in.Given as goal

abbrev pub invariant-loop-l : goal.invariant-loop-l
invariant-loop-l l =
    Lines (used l.flows (figure_with l.place l.pairs l.initial.figures)) l.initial.figures (λ j. ltb j l.used && not (ltb j l.l)) l.figures
