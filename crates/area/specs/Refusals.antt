-- Codes 10, 12 and 11 of a run. Leans on the slot's Release, and on the trade's SlotCodes.
use Rattle.std.specs.Prelude.{ℕ, Bool, cond, not, ◌&&◌, ◌||◌, eqb, ltb}
use Rattle.trade.specs.Facts.{Facts}
use Rattle.trade.specs.Slot.{State, Releases, periodic}
use Rattle.trade.specs.Answers.{is_done}
use Rattle.trade.specs.SlotCodes.{bad_place, code10, code11, code12}
use Rattle.trade.specs.declared.answer.Answer.{Answer}
use Rattle.trade.specs.declared.clock.Slot.{Slot}
use Rattle.trade.specs.declared.flow.Flow.{Flow}
use Rattle.trade.specs.declared.state.Progress.{Progress}
use Rattle.slot.specs.Release.{released_at}

-- the steps done by a flow are more than its L, or not its L though it was not released before the slot
unfoldable pub bad_at : Flow → Slot → Slot → Progress → Bool
bad_at flow first slot p =
    ltb flow.len p.done.0 || not (ltb first.0 slot.0) && not (eqb p.done.0 flow.len)

-- a place is bad, where this is the first release of its flow and the progress at it
unfoldable pub bad_place_at : Facts → Slot → Slot → Progress → ℕ → Bool
bad_place_at f first slot p i = bad_place f (periodic f (λ k. first.0) slot.0) (record { slot = slot.0; done = λ k. p.done.0 }) i

-- a release of a flow falls due while its last instance is unfinished
unfoldable pub overrun_at : Flow → Slot → Slot → Progress → Bool
overrun_at flow first slot p = released_at first.0 flow.period slot.0 && ltb p.done.0 flow.len

-- codes 10, 12 and 11, each where those before it have passed
unfoldable pub run_answer : Facts → Releases → State → Answer
run_answer f r s =
    cond (is_done (code10 f r s)) (cond (is_done (code12 s)) (code11 f r s) (code12 s)) (code10 f r s)
