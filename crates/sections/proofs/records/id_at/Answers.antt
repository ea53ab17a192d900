-- `sections::records::id_at` meets its contract: the id is a record's first field. Assumes nothing.
use mathlib.Core.Path.{◌∙◌}
use Rattle.sections.proofs.RecordsLaws.{field_first}
use Rattle.sections.proofs.records.id_at.Goals as goal

pub returns : goal.returns
returns c = c.word_at.ensures ∙ field_first c.args.records.now c.args.i
