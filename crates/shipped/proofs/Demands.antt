-- THE DEMANDS, and what the requests add to them, of the functions that ship: from Rattle, and from C. Assumes nothing.
use Rattle.promise.specs.Demands.{Demand1, Demand2, Demand3}
use Rattle.promise.specs.Tables.{AddedRuns}
use Rattle.promise.specs.Fair.{NoWorse}
use Rattle.promise.specs.Removal.{NeverHurts}
use Rattle.promise.specs.Why.{TellsWhy}
use Rattle.promise.proofs.Refusals.{keeps_demand_1}
use Rattle.promise.proofs.Exact.{keeps_demand_2}
use Rattle.promise.proofs.Promise.{keeps_demand_3}
use Rattle.promise.proofs.Tables.{one_table_one_book}
use Rattle.promise.proofs.Fair.{no_worse}
use Rattle.promise.proofs.Removal.{never_hurts}
use Rattle.promise.proofs.Why.{tells_why}
use Rattle.shipped.specs.Calls.{Advance, Why, SlotAdvance, SlotWhy, shipped, for_c}
use Rattle.shipped.proofs.Meets.{advance_planned, why_planned, slot_advance_planned, slot_why_planned, shipped_meets, for_c_meets}

pub shipped_demand_1 : Demand1 shipped
shipped_demand_1 = keeps_demand_1 shipped shipped_meets

pub shipped_demand_2 : Demand2 shipped
shipped_demand_2 = keeps_demand_2 shipped shipped_meets

pub shipped_demand_3 : Demand3 shipped
shipped_demand_3 = keeps_demand_3 shipped shipped_meets

pub for_c_demand_1 : Demand1 for_c
for_c_demand_1 = keeps_demand_1 for_c for_c_meets

pub for_c_demand_2 : Demand2 for_c
for_c_demand_2 = keeps_demand_2 for_c for_c_meets

pub for_c_demand_3 : Demand3 for_c
for_c_demand_3 = keeps_demand_3 for_c for_c_meets

-- FROM ADD, through write, to the run: by the calls of Rattle, and the written book run from C
pub added_table_runs : AddedRuns shipped
added_table_runs = one_table_one_book shipped shipped_meets

pub added_table_runs_in_c : AddedRuns for_c
added_table_runs_in_c = one_table_one_book for_c for_c_meets

-- THE FAIR COUNT: no table accepted before is refused, and no bound rises
pub shipped_no_worse : NoWorse shipped
shipped_no_worse = no_worse shipped shipped_meets

pub for_c_no_worse : NoWorse for_c
for_c_no_worse = no_worse for_c for_c_meets

-- TAKING A FLOW OUT never hurts
pub shipped_never_hurts : NeverHurts shipped
shipped_never_hurts = never_hurts shipped shipped_meets

pub for_c_never_hurts : NeverHurts for_c
for_c_never_hurts = never_hurts for_c for_c_meets

-- WHY A FLOW IS SILENT in a slot, or that it is not
pub shipped_tells_why : TellsWhy Advance Why
shipped_tells_why = tells_why advance_planned why_planned

pub for_c_tells_why : TellsWhy SlotAdvance SlotWhy
for_c_tells_why = tells_why slot_advance_planned slot_why_planned
