-- Each public function's contract leaves one result. The contracts are those that the check reads in the code, `Post`. Assumes nothing.
use Rattle.trade.proofs.Unique.{OneResult, one_result}
use Rattle.why.proofs.told.why.Kinds as why_kinds
use Rattle.why.proofs.told.why.Reads as why

pub why_unique : OneResult 2 why_kinds.ps why_kinds.r why.Post
why_unique κs a r r' s s' p q = one_result p q
