-- `figures::rises::worked` adds the marks to the places that let them through. Assumes nothing.
use Rattle.std.proofs.Common.{arith}
use Rattle.figures.proofs.RisesLaws.{Words, column_says}
use Rattle.figures.proofs.rises.worked.Goals as goal
use Rattle.figures.proofs.rises.worked.Goals.{Start}

-- the words are of 64 bits
words : (c : Start) → Words c.args.line
words c = record { ones = omega arith; twos = omega arith; fours = omega arith; eights = omega arith; sixteens = omega arith; thirties = omega arith }

pub returns : goal.returns
returns c =
    column_says c.args.line c.shifted.result c.args.marks (words (goal.at.returns c).Start) (c.shifted.ensures)
