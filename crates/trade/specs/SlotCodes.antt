-- Codes 10, 12 and 11, in the order they are tested: when a slot of a run is refused. Leans on Answers and Slot.
use Rattle.std.specs.Prelude.{ℕ, Bool, cond, not, ◌&&◌, ◌||◌, eqb, ltb}
use Rattle.trade.specs.Limits.{most_flows, end_of_clock}
use Rattle.trade.specs.Facts.{Facts}
use Rattle.trade.specs.Answers.{refused, given, given_first}
use Rattle.trade.specs.Slot.{State, Releases}
use Rattle.trade.specs.declared.answer.Answer.{Answer}

-- 10: run area malformed: the slot exceeds 4,000,000,000, reported as 0 ahead of a bad place; or, at the first bad flow place, a byte
-- exceeds its L, an unused byte is not 0, or a flow that was not released before the slot has a byte other than its L
unfoldable pub bad_place : Facts → Releases → State → ℕ → Bool
bad_place f r s i =
    cond (ltb i f.flows)
    (ltb (f.len i) (s.done i) || not (r.begun i) && not (eqb (s.done i) (f.len i)))
    (not (eqb (s.done i) 0))

unfoldable pub code10 : Facts → Releases → State → Answer
code10 f r s = cond (ltb end_of_clock s.slot) (refused 10 0) (given_first 10 (bad_place f r s) most_flows)

-- 12: the run area's slot is 4,000,000,000
unfoldable pub code12 : State → Answer
code12 s = given 12 (eqb s.slot end_of_clock) 0

-- 11: a release falls due while the flow's last instance is unfinished; the first such flow
unfoldable pub overrun : Facts → Releases → State → ℕ → Bool
overrun f r s i = r.due i && ltb (s.done i) (f.len i)

unfoldable pub code11 : Facts → Releases → State → Answer
code11 f r s = given_first 11 (overrun f r s) f.flows
