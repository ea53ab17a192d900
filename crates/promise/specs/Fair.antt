-- The fair count against the deadline count, by which the calls counted before it. Leans on Demands.
use Rattle.std.specs.Prelude.{ℕ, ◌≤◌, ◌≡◌}
use Rattle.trade.specs.Bound.{by_deadline}
use Rattle.trade.specs.Kept.{kept_by_deadline}
use Rattle.trade.specs.Calls.{Checked, check_by, check_kept_by, add_by, start_by}
use Rattle.promise.specs.Demands.{Program, Done, Always, reported}

-- what a check said before and what it says now: it accepts, and no bound has risen
pub record StillAccepted (before now : Checked) : Type 0 where
  pub accepted : Done now.answer
  pub no_higher : (l : ℕ) → reported now l ≤ reported before l

-- NO TABLE ACCEPTED BEFORE IS NOW REFUSED, AND NO BOUND RISES: wherever a call by the deadline count is done, the program's is
pub record NoWorse (p : Program) : Type 0 where
  -- check of a book,
  pub checks : Always p.check (λ b checked. Done (check_by by_deadline b).answer → StillAccepted (check_by by_deadline b) checked)
  -- and of a table, by its figures as they stand, right or wrong
  pub checks_tables :
      Always p.check_table
      (λ t checked. Done (check_kept_by kept_by_deadline t).answer → StillAccepted (check_kept_by kept_by_deadline t) checked)
  -- a flow that came in comes in, and the table is the same one
  pub adds : Always p.add (λ a changed. Done (add_by by_deadline a).answer → changed ≡ add_by by_deadline a)
  -- a run that was started is started, and its area is the same one
  pub starts : Always p.start (λ s started. Done (start_by by_deadline s).answer → started ≡ start_by by_deadline s)
