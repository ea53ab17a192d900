-- Each call's contract leaves one answer. The contracts are those that the check reads in the code, `Post`. Assumes nothing.
use Rattle.trade.proofs.Unique.{OneResult, one_result}
use Rattle.middleware.proofs.slot_why.Kinds as slot_why_kinds
use Rattle.middleware.proofs.slot_why.Reads as slot_why

pub slot_why_unique : OneResult 2 slot_why_kinds.ps slot_why_kinds.r slot_why.Post
slot_why_unique κs a r r' s s' p q = one_result p.answer q.answer
