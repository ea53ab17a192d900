-- `area::refusals::Timed::area_answer` no place passed is bad. Assumes nothing.
use Prim.Native.Nat.{ℕ, ◌≤◌, ◌<◌}
use mathlib.Core.Path.{◌≡◌}
use mathlib.Core.Bool.{false, Bool}
use mathlib.Core.List.{List, []}
use Rattle.trade.specs.Limits.{end_of_clock}
use Rattle.trade.specs.Facts.{facts_in}
use Rattle.trade.specs.SlotCodes.{bad_place}
use Rattle.slot.specs.States.{state_of}
use Rattle.trade.specs.declared.clock.Slot.{Slot}
use Rattle.trade.specs.declared.state.Run.{Run}
use Rattle.area.specs.Dues.{due_by}
use Rattle.area.proofs.refusals.Timed.area_answer.Given as goal

-- a place of a run is bad
abbrev pub bad : ℕ → List ℕ → List Slot → Run → ℕ → Bool
bad flows records firsts run k =
    bad_place (facts_in 0 flows [] records []) (due_by (facts_in 0 flows [] records []) firsts run) (state_of run) k

abbrev pub invariant-loop-i : goal.invariant-loop-i
invariant-loop-i l =
    (l.fn.run.slot.0 ≤ end_of_clock)
    × ((k : ℕ) → k < l.i → bad l.self.flows l.self.records.now l.firsts l.fn.run k ≡ false)
