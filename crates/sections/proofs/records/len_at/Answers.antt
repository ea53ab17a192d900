-- `sections::records::len_at` meets its contract: L is a record's fifth field. Assumes nothing.
use native.Mathlib.Omega.{arith}
use Rattle.trade.specs.Layout.{field}
use Rattle.sections.proofs.records.len_at.Goals as goal

pub returns : goal.returns
unfolding field
returns c = (c.word_at.ensures, omega arith)
