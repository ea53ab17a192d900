-- `figures::rises::taken` reads the six bits. Assumes nothing.
use Rattle.std.proofs.Common.{arith}
use Rattle.figures.proofs.RisesLaws.{rise_digits, rise_small}
use Rattle.figures.proofs.rises.taken.Goals as goal

pub returns : goal.returns
returns c =
    let a = c.args in omega (arith, rise_digits a.line a.end, rise_small a.line a.end)
