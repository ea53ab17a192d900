-- When a program meets its contracts. It ranges over all programs, whatever their calls may give; that those which ship are among them is
-- shown of their contracts in the crate `shipped`. Leans on Demands.
use Rattle.promise.specs.Demands.{Program, planner, Always}

-- whatever a call is handed, what it gives is what the definitions say: its answer, what it returns and what it leaves in lent memory
pub record Meets (p : Program) : Type 0 where
  pub reads : Always p.read planner.read
  pub checks : Always p.check planner.check
  pub checks_tables : Always p.check_table planner.check_table
  pub writes : Always p.write planner.write
  pub adds : Always p.add planner.add
  pub removes : Always p.remove planner.remove
  pub starts : Always p.start planner.start
  pub advances : Always p.advance planner.advance
