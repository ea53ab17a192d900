-- `figures::rises::shifted` carries from bit to bit. Assumes nothing.
use Rattle.figures.proofs.RisesLaws.{line_shifts}
use Rattle.figures.proofs.rises.shifted.Goals as goal

pub returns : goal.returns
returns c = line_shifts _ _ _
