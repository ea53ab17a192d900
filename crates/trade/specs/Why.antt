-- Why a flow is silent in the slot that a run is about to run, or is not: one of four. And the ninth call, which tells it. Leans on Slot and
-- Calls.
use Rattle.std.specs.Prelude.{ℕ, ◌+◌, ◌*◌, Bool, cond, ◌&&◌, ◌||◌, List, [], ◌∷◌, ◌++◌}
use Rattle.trade.specs.Limits.{area_bytes}
use Rattle.trade.specs.First.{first}
use Rattle.trade.specs.Facts.{Facts, said}
use Rattle.trade.specs.Conflict.{conflict}
use Rattle.trade.specs.Answers.{done, is_done, first_of, on, no_number}
use Rattle.trade.specs.Slot.{State, Releases, releases_of, unfinished, next_step, granted, among}
use Rattle.trade.specs.Area.{state_in}
use Rattle.trade.specs.Codes.{code13, code15_removing}
use Rattle.trade.specs.SlotCodes.{code10, code11, code12}
use Rattle.trade.specs.Calls.{book_rules}
use Rattle.trade.specs.declared.answer.Answer.{Answer}
use Rattle.trade.specs.declared.told.Told.{Told}
use Rattle.trade.specs.declared.told.Told.TheVariants.{Refused, NotReleased, Finished, Granted, WaitingOn}

-- flow h is granted in the slot, and its step conflicts with the next step of flow i
unfoldable pub blocks : Facts → Releases → State → ℕ → ℕ → Bool
blocks f r s i h = among (granted f r s) h && conflict f.disturbs (next_step f r s h) (next_step f r s i)

-- WHY, of flow i after the releases of the slot: its first release has not come; its latest instance has had all its steps; it is granted;
-- or it waits on the first flow in record order that is granted and conflicts with its step
unfoldable pub why : Facts → Releases → State → ℕ → Told
why f r s i =
    cond (r.due i || r.begun i)
    (cond (unfinished f r s i) (cond (among (granted f r s) i) Granted (WaitingOn (first (blocks f r s i) f.flows))) Finished)
    NotReleased

-- the four in one answer: 0, 1, 2 or 3, times 256, and with the last the place that is waited for
abbrev pub answer_of : Told → Answer
answer_of (Refused answer) = answer
answer_of NotReleased = done 0
answer_of Finished = done (1 * 256)
answer_of Granted = done (2 * 256)
answer_of (WaitingOn h) = done (3 * 256 + h)

-- ASK why: 1 to 8, 13 for the run area, 10, 12, 11, then 15 for a place at or above m. It writes nothing
pub record Asking : Type 0 where
  pub book : List ℕ
  pub area : List ℕ
  pub place : ℕ

-- what is due in the slot
abbrev pub asked_due : Asking → Releases
asked_due a = releases_of (said a.book) (state_in a.area)

unfoldable pub ask_answer : Asking → Answer
ask_answer =
    first_of
    (on (λ a. a.book) book_rules
    ++ ((λ a. code13 area_bytes a.area)
    ∷ (λ a. code10 (said a.book) (asked_due a) (state_in a.area))
    ∷ (λ a. code12 (state_in a.area))
    ∷ (λ a. code11 (said a.book) (asked_due a) (state_in a.area))
    ∷ (λ a. code15_removing (said a.book) a.place)
    ∷ []))
    no_number

unfoldable pub ask_of : Asking → Told
ask_of a = cond (is_done (ask_answer a)) (why (said a.book) (asked_due a) (state_in a.area) a.place) (Refused (ask_answer a))
