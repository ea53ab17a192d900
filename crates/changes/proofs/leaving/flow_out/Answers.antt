-- `changes::leaving::flow_out` meets its contract: what is in use without the flow is the new table, and nothing else is left. Assumes
-- nothing.
use Prim.Native.Nat.{◌*◌, ◌≤◌}
use mathlib.Core.Path.{◌∙◌}
use native.Mathlib.Omega.{arith}
use lib.ListN.{length}
use Rattle.trade.specs.Limits.{step_bytes}
use Rattle.trade.specs.Table.{used}
use Rattle.trade.specs.Kept.{kept_of}
use Rattle.trade.specs.Exchange.{recut}
use Rattle.trade.specs.Calls.{leaving}
use Rattle.table.specs.Table.{kept_in}
use Rattle.changes.proofs.RecutLaws.{cleared}
use Rattle.changes.proofs.LeavingLaws.{left_no_more, step_first, step_next, step_room, without_it, left_figures}
use Rattle.changes.proofs.leaving.flow_out.Goals as goal
use Rattle.changes.proofs.leaving.flow_out.Goals.{After-steps_before-last}

first : (c : After-steps_before-last) → step_bytes * c.steps_before-first.result ≤ step_bytes * c.steps_before-next.result
first c =
    omega (
      arith,
      step_first (kept_in c.args.table.now) c.args.place c.requires,
      c.steps_before-first.ensures.0,
      c.steps_before-next.ensures.0,
    )

next : (c : After-steps_before-last) → step_bytes * c.steps_before-next.result ≤ step_bytes * c.steps_before-last.result
next c =
    omega (arith, step_next (kept_in c.args.table.now) c.args.place c.requires, c.steps_before-next.ensures.0, c.steps_before-last.ensures.0)

last : (c : After-steps_before-last) → step_bytes * c.steps_before-last.result ≤ length c.args.table.now.steps
last c =
    omega (arith, step_room (kept_in c.args.table.now) c.args.place c.requires, c.steps_before-last.ensures.0)

pub turn-requires-2 : goal.turn-requires-2
turn-requires-2 c =
    (first (goal.at.turn-requires-2 c).After-steps_before-last, next (goal.at.turn-requires-2 c).After-steps_before-last, last (goal.at.turn-requires-2 c).After-steps_before-last)

pub overflow_sub-next : goal.overflow_sub-next
overflow_sub-next c =
    omega (arith, first (goal.at.overflow_sub-next c).After-steps_before-last, next (goal.at.overflow_sub-next c).After-steps_before-last)

pub overflow_sub-last : goal.overflow_sub-last
overflow_sub-last c =
    omega (arith, first (goal.at.overflow_sub-last c).After-steps_before-last, next (goal.at.overflow_sub-last c).After-steps_before-last)

pub clear-requires-3 : goal.clear-requires-3
clear-requires-3 c =
    omega (arith, c.turn-2.auto.section, first (goal.at.clear-requires-3 c).After-steps_before-last, next (goal.at.clear-requires-3 c).After-steps_before-last, last (goal.at.clear-requires-3 c).After-steps_before-last)

pub overflow_sub-flows : goal.overflow_sub-flows
overflow_sub-flows c = omega (arith, c.requires.within)

pub returns : goal.returns
unfolding kept_of
returns c =
    let m = c.requires.old.memory in
    let table =
    cleared _ (recut (used (kept_in c.args.table.now).sections) (leaving c.args.place)) _ _ _ _ _ _
    (without_it (kept_in c.args.table.now) c.args.place c.requires c.steps_before-first.result c.steps_before-next.result
    c.steps_before-last.result c.turn.new.section c.turn-2.new.section c.steps_before-first.ensures.0
    c.steps_before-next.ensures.0 c.steps_before-last.ensures.0 c.turn.ensures c.turn-2.ensures)
    (left_no_more (kept_in c.args.table.now) c.args.place c.requires) m.rows (c.turn.auto.section ∙ m.records) (c.turn-2.auto.section ∙ m.steps)
    c.clear.ensures c.clear-2.ensures c.clear-3.ensures in
    let figures = c.figures_out.ensures ∙ left_figures (kept_in c.args.table.now) c.args.place c.requires in
    λ i. record { sections = table i; figures = figures i }
