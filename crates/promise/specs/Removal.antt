-- TAKING A FLOW OUT NEVER HURTS: what a program owes of remove, beside its checks and its runs. Leans on Demands.
use Rattle.std.specs.Prelude.{ℕ, ◌*◌, ◌≤◌, ◌<◌, ◌≡◌, take}
use Rattle.trade.specs.Limits.{end_of_clock, grant_bytes}
use Rattle.trade.specs.Facts.{Facts, said}
use Rattle.trade.specs.Table.{InMemory, book_of}
use Rattle.trade.specs.Kept.{RightFigures}
use Rattle.trade.specs.Exchange.{before_out}
use Rattle.trade.specs.Calls.{Checked, Removing, Changed, Advanced}
use Rattle.trade.specs.declared.clock.Slot.{Slot}
use Rattle.promise.specs.Demands.{Program, Done, Always, Ran, RunBy, grant_at, reported}

-- a flow of an accepted table in memory whose figures are right
pub record MayGo (p : Program) (r : Removing) (checked : Checked) : Type 0 where
  pub memory : InMemory r.table.sections
  pub right : RightFigures r.table
  pub checks : p.check_table r.table checked
  pub accepted : Done checked.answer
  pub there : r.place < r.table.sections.flows

-- grant j of an advance is that of a flow from one place on and before another
abbrev pub GrantOf : Facts → Advanced → ℕ → ℕ → ℕ → Type 0
GrantOf f advanced j from to = (i : ℕ) × (from ≤ i) × (i < to) × ((grant_at advanced.grants j).id ≡ f.id i)

-- two advances, of a table and of what is left of it: the grants of the flows above a place stand first, so many in each, in the same bytes;
-- those behind them are of other flows
pub record SameAbove (place : ℕ) (f g : Facts) (before after : Advanced) : Type 0 where
  pub count : ℕ
  pub counted : (count ≤ before.answer.number) × (count ≤ after.answer.number)
  pub bytes : take (grant_bytes * count) before.grants ≡ take (grant_bytes * count) after.grants
  pub above : (j : ℕ) → j < count → GrantOf f before j 0 place × GrantOf g after j 0 place
  pub others : (j : ℕ) → count ≤ j → j < before.answer.number → GrantOf f before j place f.flows
  pub others_after : (j : ℕ) → count ≤ j → j < after.answer.number → GrantOf g after j place g.flows

-- what a check says of what is left: no flow's bound has risen, the flows below the place one place higher
abbrev pub NoHigher : Removing → Checked → Changed → Checked → Type 0
NoHigher r checked changed left =
    (l : ℕ) → l < changed.table.sections.flows → reported left l ≤ reported checked (before_out r.place l)

-- of a flow that may go, and what remove gave:
pub record Unhurt (p : Program) (r : Removing) (checked : Checked) (changed : Changed) : Type 0 where
  -- 1. remove is done, and the new table is accepted: by the check of the table, and by check of its book;
  pub done : Done changed.answer
  pub accepted : (left : Checked) → p.check_table changed.table left → Done left.answer
  pub accepted_book : (left : Checked) → p.check (book_of changed.table.sections) left → Done left.answer
  -- 2. no remaining flow's bound has risen, by either;
  pub no_higher : (left : Checked) → p.check_table changed.table left → NoHigher r checked changed left
  pub no_higher_book : (left : Checked) → p.check (book_of changed.table.sections) left → NoHigher r checked changed left
  -- 3. the flows above the place have the same grants in every slot of the two runs, up to the end of the clock
  pub same_grants :
      (x y : Ran)
      → x.book ≡ book_of r.table.sections
      → y.book ≡ book_of changed.table.sections
      → RunBy p x
      → RunBy p y
      → (t : Slot)
      → t.0 < x.count
      → t.0 < y.count
      → t.0 < end_of_clock
      → SameAbove r.place (said x.book) (said y.book) (x.advanced t) (y.advanced t)

abbrev pub NeverHurts : Program → Type 0
NeverHurts p = Always p.remove (λ r changed. (checked : Checked) → MayGo p r checked → Unhurt p r checked changed)
