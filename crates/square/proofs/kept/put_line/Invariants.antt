-- `square::kept::put_line` puts figure by figure. The loop's invariant: the figures up to h are put. Assumes nothing.
use Rattle.square.proofs.KeptLaws.{PutTo}
use Rattle.square.proofs.kept.put_line.Given as goal

abbrev pub invariant-loop-h : goal.invariant-loop-h
invariant-loop-h l = PutTo l.l l.h l.line l.initial.figures l.figures
