-- `area::refusals::Timed::overrun_answer` no flow passed is overrun. Assumes nothing.
use Prim.Native.Nat.{ℕ, ◌<◌}
use mathlib.Core.Path.{◌≡◌}
use mathlib.Core.Bool.{false, Bool}
use mathlib.Core.List.{List, []}
use Rattle.trade.specs.Facts.{facts_in}
use Rattle.trade.specs.SlotCodes.{overrun}
use Rattle.slot.specs.States.{state_of}
use Rattle.trade.specs.declared.clock.Slot.{Slot}
use Rattle.trade.specs.declared.state.Run.{Run}
use Rattle.area.specs.Dues.{due_by}
use Rattle.area.proofs.refusals.Timed.overrun_answer.Given as goal

-- a flow of a run is overrun
abbrev pub late : ℕ → List ℕ → List Slot → Run → ℕ → Bool
late flows records firsts run k =
    overrun (facts_in 0 flows [] records []) (due_by (facts_in 0 flows [] records []) firsts run) (state_of run) k

abbrev pub invariant-loop-i : goal.invariant-loop-i
invariant-loop-i l = (k : ℕ) → k < l.i → late l.self.flows l.self.records.now l.firsts l.run k ≡ false
