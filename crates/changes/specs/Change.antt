-- What a change of a table owes. Leans on the trade's calls.
use Rattle.std.specs.Prelude.{◌≡◌}
use Rattle.trade.specs.Kept.{Tabled}
use Rattle.trade.specs.Calls as trade
use Rattle.trade.specs.Calls.{Adding, Removing, add_of, remove_of}
use Rattle.trade.specs.declared.answer.Answer.{Answer}
use Rattle.table.specs.Table.{kept_in}
use Rattle.changes.specs.declared.change.Changed.{Changed}

-- an answer, and the table after it, are what a change returns
pub record Returns (c : trade.Changed) (r : Answer) (after : Tabled) : Type 0 where
  pub answer : r ≡ c.answer
  pub table : after ≡ c.table

-- ADD and REMOVE return what their definitions say
pub record Adds (a : Adding) (r : Changed) : Type 0 where
  pub answer : r.answer ≡ (add_of a).answer
  pub table : kept_in r.table ≡ (add_of a).table

pub record Removes (a : Removing) (r : Changed) : Type 0 where
  pub answer : r.answer ≡ (remove_of a).answer
  pub table : kept_in r.table ≡ (remove_of a).table
