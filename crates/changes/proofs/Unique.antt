-- Each public function's contract leaves one result, and one content of what it was lent. The contracts are those that the check
-- reads in the code, `Post`. Assumes nothing.
use Rattle.trade.proofs.Unique.{OneResult, one_result}
use Rattle.table.proofs.Unique.{same_table}
use Rattle.changes.proofs.change.add.Kinds as add_kinds
use Rattle.changes.proofs.change.add.Reads as add
use Rattle.changes.proofs.change.remove.Kinds as remove_kinds
use Rattle.changes.proofs.change.remove.Reads as remove

pub add_unique : OneResult 0 add_kinds.ps add_kinds.r add.Post
add_unique κs a r r' s s' p q =
    let t = same_table r.table r'.table (one_result p.table q.table) in
    λ i. record { answer = one_result p.answer q.answer i; table = t i }

pub remove_unique : OneResult 0 remove_kinds.ps remove_kinds.r remove.Post
remove_unique κs a r r' s s' p q =
    let t = same_table r.table r'.table (one_result p.table q.table) in
    λ i. record { answer = one_result p.answer q.answer i; table = t i }
