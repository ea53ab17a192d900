-- `sections::records::records_answer` meets its contract: without doubt no record is bad, and in doubt a search tells. Assumes
-- nothing.
use mathlib.Core.Path.{sym}
use Rattle.sections.proofs.records.records_answer.Goals as goal

pub returns : goal.returns
returns c = sym (c.records_in_doubt.ensures c.if-records_in_doubt.false)
