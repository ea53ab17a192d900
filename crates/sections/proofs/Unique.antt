-- Each public function's contract leaves one result, and one content of what it was lent. The contracts are those that the check
-- reads in the code, `Post`. Assumes nothing.
use mathlib.Core.Path.{◌≡◌}
use Rattle.trade.proofs.Unique.{OneResult, one_result}
use Rattle.trade.proofs.Refusals.{one_test}
use Rattle.sections.proofs.records.record_at.Kinds as record_at_kinds
use Rattle.sections.proofs.records.record_at.Reads as record_at
use Rattle.sections.proofs.records.records_answer.Kinds as records_answer_kinds
use Rattle.sections.proofs.records.records_answer.Reads as records_answer
use Rattle.sections.proofs.rows.rows_answer.Kinds as rows_answer_kinds
use Rattle.sections.proofs.rows.rows_answer.Reads as rows_answer
use Rattle.sections.proofs.steps.steps_answer.Kinds as steps_answer_kinds
use Rattle.sections.proofs.steps.steps_answer.Reads as steps_answer
use Rattle.sections.proofs.parts.Parts.flow.Kinds as flow_kinds
use Rattle.sections.proofs.parts.Parts.flow.Reads as flow
use Rattle.sections.proofs.parts.Parts.plan.Reads as plan
use Rattle.sections.proofs.records.len_at.Kinds as len_at_kinds
use Rattle.sections.proofs.records.len_at.Reads as len_at
use Rattle.sections.proofs.records.steps_before.Kinds as steps_before_kinds
use Rattle.sections.proofs.records.steps_before.Reads as steps_before

pub record_at_unique : OneResult 1 record_at_kinds.ps record_at_kinds.r record_at.Post
record_at_unique κs a r r' s s' p q = one_result p q

pub records_answer_unique : OneResult 1 records_answer_kinds.ps records_answer_kinds.r records_answer.Post
records_answer_unique κs a r r' s s' p q = one_test r r' (one_result p q)

pub rows_answer_unique : OneResult 1 rows_answer_kinds.ps rows_answer_kinds.r rows_answer.Post
rows_answer_unique κs a r r' s s' p q = one_test r r' (one_result p q)

pub steps_answer_unique : OneResult 2 steps_answer_kinds.ps steps_answer_kinds.r steps_answer.Post
steps_answer_unique κs a r r' s s' p q = one_test r r' (one_result p q)

pub len_at_unique : OneResult 1 len_at_kinds.ps len_at_kinds.r len_at.Post
len_at_unique κs a r r' s s' p q = one_result p.0 q.0

pub steps_before_unique : OneResult 1 steps_before_kinds.ps steps_before_kinds.r steps_before.Post
steps_before_unique κs a r r' s s' p q = one_result p.0 q.0

pub flow_unique : OneResult 1 flow_kinds.ps flow_kinds.r flow.Post
flow_unique κs a r r' s s' p q = one_result p q

-- a part is lent on: what it holds is one list
pub plan_unique : (κs : _) (a : _) (r r' : _) (s s' : _) → plan.Post κs a r s → plan.Post κs a r' s' → r.now ≡ r'.now
plan_unique κs a r r' s s' p q = one_result p q
