-- `sections::steps::steps_answer` meets its contract: without doubt no step is bad, and in doubt a search tells. Assumes nothing.
use mathlib.Core.Path.{sym}
use Rattle.sections.proofs.steps.steps_answer.Goals as goal

pub returns : goal.returns
returns c = sym (c.steps_in_doubt.ensures c.if-steps_in_doubt.false)
