-- Each public function's contract leaves one result, and one content of what it was lent. The contracts are those that the check
-- reads in the code, `Post`. Assumes nothing.
use mathlib.Core.Path.{◌≡◌}
use Rattle.trade.proofs.Unique.{OneResult, one_result}
use Rattle.trade.proofs.Refusals.{one_number}
use Rattle.book.proofs.Unique.{OneParts, one_parts}
use Rattle.table.specs.Table.{kept_in}
use Rattle.table.specs.declared.table.Table.{Table}
use Rattle.table.proofs.table.Table.empty.Kinds as empty_kinds
use Rattle.table.proofs.table.Table.empty.Reads as empty
use Rattle.table.proofs.table.table_of.Kinds as table_of_kinds
use Rattle.table.proofs.table.table_of.Reads as table_of
use Rattle.table.proofs.table.table_answer.Reads as table_answer
use Rattle.table.proofs.table.Table.parts.Reads as parts
use Rattle.table.proofs.table.read.Kinds as read_book_kinds
use Rattle.table.proofs.table.read.Reads as read_book
use Rattle.table.proofs.checked.check_table.Kinds as check_table_kinds
use Rattle.table.proofs.checked.check_table.Reads as check_table
use Rattle.table.proofs.written.write.Reads as write

-- a table is its counts, its sections and its figures
pub same_table : (t u : Table) → kept_in t ≡ kept_in u → t ≡ u
same_table t u e =
    λ i.
    record {
      nodes = (e i).sections.nodes;
      flows = (e i).sections.flows;
      rows = (e i).sections.rows;
      records = (e i).sections.records;
      steps = (e i).sections.steps;
      figures = (e i).figures;
    }

pub empty_unique : OneResult 0 empty_kinds.ps empty_kinds.r empty.Post
empty_unique κs a r r' s s' p q = same_table r r' (one_result p q)

pub table_of_unique : OneResult 1 table_of_kinds.ps table_of_kinds.r table_of.Post
table_of_unique κs a r r' s s' p q = same_table r r' (one_result p q)

-- what is tested has one answer and one refusal, and its parts hold one row of sections
pub table_answer_unique : (κs : _) (a : _) (r r' : _) (s s' : _) → table_answer.Post κs a r s → table_answer.Post κs a r' s' → OneParts r r'
table_answer_unique κs a r r' s s' p q = one_parts _ _ r r' p.0 p.1 q.0 q.1

pub parts_unique : (κs : _) (a : _) (r r' : _) (s s' : _) → parts.Post κs a r s → parts.Post κs a r' s' → OneParts r r'
parts_unique κs a r r' s s' p q = one_parts _ _ r r' p.0 p.1 q.0 q.1

pub read_unique : OneResult 1 read_book_kinds.ps read_book_kinds.r read_book.Post
read_unique κs a r r' s s' p q =
    let t = same_table r.table r'.table (one_result p.table q.table) in
    λ i. record { answer = one_result p.answer q.answer i; table = t i }

pub check_table_unique : OneResult 0 check_table_kinds.ps check_table_kinds.r check_table.Post
check_table_unique κs a r r' s s' p q =
    λ i. record { answer = one_result p.answer q.answer i; bounds = one_result p.bounds q.bounds i }

pub write_unique : (κs : _) (a : _) (r r' : _) (s s' : _) → write.Post κs a r s → write.Post κs a r' s' → (r ≡ r') × (s.1.0.now ≡ s'.1.0.now)
write_unique κs a r r' s s' p q = (one_number r r' (one_result p.answer q.answer), one_result p.buffer q.buffer)
