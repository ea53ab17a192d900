-- What start and advance owe, for all that a call is handed: its answer, and what it leaves in lent memory. Leans on the trade's calls.
use Rattle.std.specs.Prelude.{ℕ, ◌≡◌, List, length}
use Rattle.trade.specs.Bytes.{over}
use Rattle.trade.specs.Facts.{Facts}
use Rattle.trade.specs.Slot.{releases_of, granted, next_state, grant_of, grants_of}
use Rattle.trade.specs.Area.{state_in, area_of}
use Rattle.trade.specs.Answers.{done}
use Rattle.area.specs.Refusals.{run_answer}
use Rattle.trade.specs.Calls.{Starting, start_of, Advancing, advance_of}
use Rattle.trade.specs.declared.answer.Answer.{Answer}

-- what codes 10, 12 and 11 answer to the run that an area holds, and the flows granted in its slot
abbrev pub slot_answer : Facts → List ℕ → Answer
slot_answer f area = run_answer f (releases_of f (state_in area)) (state_in area)

abbrev pub slot_granted : Facts → List ℕ → List ℕ
slot_granted f area = granted f (releases_of f (state_in area)) (state_in area)

-- what a slot over the sections of a book owes: codes 10, 12 and 11, or the grants of the greedy choice and the run as it goes on
pub record RunsSlot (f : Facts) (lent room : List ℕ) (r : Answer) (left made : List ℕ) : Type 0 where
  pub refused : ((slot_answer f lent).code ≡ 0 → ⊥) → (r ≡ slot_answer f lent) × (left ≡ lent) × (made ≡ room)
  pub answer : (slot_answer f lent).code ≡ 0 → r ≡ done (length (slot_granted f lent))
  pub area : (slot_answer f lent).code ≡ 0 → left ≡ over (area_of f.flows (next_state f (releases_of f (state_in lent)) (state_in lent))) lent
  pub grants : (slot_answer f lent).code ≡ 0 → made ≡ over (grants_of (grant_of f (releases_of f (state_in lent)) (state_in lent)) (slot_granted f lent)) room

pub record Starts (s : Starting) (r : Answer) (left : List ℕ) : Type 0 where
  pub answer : r ≡ (start_of s).answer
  pub area : left ≡ (start_of s).area

pub record Advances (a : Advancing) (r : Answer) (left made : List ℕ) : Type 0 where
  pub answer : r ≡ (advance_of a).answer
  pub area : left ≡ (advance_of a).area
  pub grants : made ≡ (advance_of a).grants
