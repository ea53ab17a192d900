-- Demand 1, of the program that the definitions describe and so of every program that meets its contracts. Assumes nothing.
use mathlib.Core.Path.{refl}
use Rattle.trade.specs.Calls.{read_of, check_of, check_by, check_kept_of, check_kept_by, write_of, add_of, add_by, remove_of, start_of, start_by, advance_of, advance_by}
use Rattle.promise.specs.Demands.{Program, planner, Demand1}
use Rattle.trade.proofs.Answers.{refused_second}
use Rattle.promise.specs.Promise.{Meets}
use Rattle.promise.proofs.Meets.{by_definition, by_meeting}

-- DEMAND 1 is kept by the program that the definitions describe,
pub planner_keeps_demand_1 : Demand1 planner
unfolding read_of check_by check_kept_by write_of add_by remove_of start_by advance_by
planner_keeps_demand_1 =
    record {
      reads = by_definition read_of _ (λ b. refl);
      checks = by_definition check_of _ (λ b. refl);
      checks_tables = by_definition check_kept_of _ (λ t. refl);
      writes = by_definition write_of _ (λ w. refl);
      adds = by_definition add_of _ (λ a. refl);
      removes = by_definition remove_of _ (λ r. refl);
      starts = by_definition start_of _ (λ s. refl);
      advances = by_definition advance_of _ (λ a. refl);
      read_refused = by_definition read_of _ (λ b n. refused_second _ _ _ n);
      check_refused = by_definition check_of _ (λ b n. refused_second _ _ _ n);
      check_table_refused = by_definition check_kept_of _ (λ t n. refused_second _ _ _ n);
      write_refused = by_definition write_of _ (λ w n. refused_second _ _ _ n);
      add_refused = by_definition add_of _ (λ a n. refused_second _ _ _ n);
      remove_refused = by_definition remove_of _ (λ r n. refused_second _ _ _ n);
      start_refused = by_definition start_of _ (λ s n. refused_second _ _ _ n);
      advance_refused = by_definition advance_of _ (λ a n. (refused_second _ _ _ n, refused_second _ _ _ n));
    }

-- and so by every program that meets its contracts
pub keeps_demand_1 : (p : Program) → Meets p → Demand1 p
keeps_demand_1 p m =
    let d : Demand1 planner = planner_keeps_demand_1 in
    record {
      reads = by_meeting m.reads d.reads;
      checks = by_meeting m.checks d.checks;
      checks_tables = by_meeting m.checks_tables d.checks_tables;
      writes = by_meeting m.writes d.writes;
      adds = by_meeting m.adds d.adds;
      removes = by_meeting m.removes d.removes;
      starts = by_meeting m.starts d.starts;
      advances = by_meeting m.advances d.advances;
      read_refused = by_meeting m.reads d.read_refused;
      check_refused = by_meeting m.checks d.check_refused;
      check_table_refused = by_meeting m.checks_tables d.check_table_refused;
      write_refused = by_meeting m.writes d.write_refused;
      add_refused = by_meeting m.adds d.add_refused;
      remove_refused = by_meeting m.removes d.remove_refused;
      start_refused = by_meeting m.starts d.start_refused;
      advance_refused = by_meeting m.advances d.advance_refused;
    }
