-- REMOVING from an accepted table: it is done, and of the flows that are left none has a bound that has risen. Leans on Taken, TakenRules and
-- RoundTrip. Assumes nothing.
use Prim.Native.Nat.{ℕ, ◌≤◌, ◌<◌}
use mathlib.Core.Path.{◌≡◌, ap}
use native.Mathlib.Omega.{arith}
use borrow.Author.Tests.{lt-leb}
use Rattle.trade.specs.Layout.{Sections}
use Rattle.trade.specs.Facts.{Facts, facts_of}
use Rattle.trade.specs.Table.{InMemory, used, table_of}
use Rattle.trade.specs.Kept.{Tabled, RightFigures}
use Rattle.trade.specs.Answers.{no_number}
use Rattle.trade.specs.Interference.{interference}
use Rattle.trade.specs.Bound.{measure, bound_by}
use Rattle.trade.specs.Exchange.{before_out}
use Rattle.trade.specs.Codes.{code15_removing}
use Rattle.trade.specs.Calls.{Removing, table_rules, old_rules, leave_rules, without_flow, remove_answer}
use Rattle.trade.proofs.Answers.{Passed, passed_head, passed_tail, passed_none, passed_more, passed_append, passed_on, passed_done, given_false}
use Rattle.trade.proofs.Valid.{Valid, table_valid}
use Rattle.trade.proofs.Used.{Full, Holds, used_same, used_full, roomy, in_memory_holds}
use Rattle.trade.proofs.Places.{alike_passed}
use Rattle.trade.proofs.Kept.{right_passes}
use Rattle.trade.proofs.Taken.{TakenOut, fair_out, interference_out, recut_takes, recut_left}
use Rattle.trade.proofs.TakenRules.{three_passes, five_passes, six_passes, eight_passes}

module _ (r : Removing) (m : InMemory r.table.sections) (p : Passed r.table.sections table_rules) (there : r.place < r.table.sections.flows) where
  abbrev table : Sections
  table = r.table.sections

  -- the flows that were, and those that are left
  abbrev pub before : Facts
  before = facts_of (used table)

  abbrev pub after : Facts
  after = facts_of (without_flow r)

  pub holds : Holds table
  holds = in_memory_holds table m (roomy table (table_valid table p))

  full : Full (used table)
  full = used_full table holds

  before_passed : Passed (used table) table_rules
  before_passed = alike_passed table (used table) (used_same table) p

  before_valid : Valid before
  before_valid = table_valid (used table) before_passed

  pub taken : TakenOut r.place after before
  unfolding without_flow used
  taken = recut_takes (used table) full r.place there

  -- THE RULES pass
  pub after_passed : Passed (without_flow r) table_rules
  unfolding table_rules
  after_passed =
      let five = passed_tail before_passed in
      let six = passed_tail five in
      passed_more (three_passes r.place after before taken before_valid)
      (passed_more (five_passes r.place after before taken (passed_head five))
      (passed_more (six_passes r.place after before taken before_valid)
      (passed_more (eight_passes r.place after before taken (passed_head (passed_tail six))) passed_none)))

  -- THE BOUNDS do not rise
  pub bound_removed : (l : ℕ) → l < after.flows → bound_by after (measure after) l ≤ bound_by before (measure before) (before_out r.place l)
  bound_removed l h =
      fair_out r.place after before taken (λ i q. (before_valid.records i q).period.least) (interference after) (interference before)
      (λ i k q b. omega (arith, interference_out r.place after before taken i k q (omega arith))) l h

  -- IT IS DONE where the figures are right
  pub remove_done : RightFigures r.table → (remove_answer r).code ≡ 0
  unfolding remove_answer old_rules leave_rules code15_removing facts_of
  remove_done right =
      ap (λ a. a.code)
      (passed_done no_number
      (passed_append
      (passed_on (λ (q : Removing). q.table) (passed_append (passed_on (λ (t : Tabled). t.sections) p) (passed_more (right_passes r.table right) passed_none)))
      (passed_more (ap (λ a. a.code) (given_false 15 _ 0 (lt-leb table.flows r.place there))) passed_none)))

  -- the table that is left has its facts
  pub left_facts : facts_of (table_of (without_flow r)) ≡ after
  unfolding without_flow used
  left_facts = recut_left (used table) full r.place there
