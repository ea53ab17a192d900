-- Why a flow is silent in the slot that a run is about to run, or is not: what is owed by any call that tells it, beside any advance. Leans on
-- Demands.
use Rattle.std.specs.Prelude.{ℕ, ◌-◌, ◌*◌, ◌≤◌, ◌<◌, ◌≡◌, ◌⊎◌, ◌↔◌, true, cond, List, eqb, length}
use Rattle.trade.specs.Limits.{grant_bytes}
use Rattle.trade.specs.Facts.{said}
use Rattle.trade.specs.Conflict.{conflict}
use Rattle.trade.specs.Answers.{refused, is_done}
use Rattle.trade.specs.Slot.{done_now}
use Rattle.trade.specs.Area.{state_in}
use Rattle.trade.specs.Calls.{Advancing, Advanced}
use Rattle.trade.specs.Why.{answer_of, Asking, asked_due, ask_answer, ask_of}
use Rattle.trade.specs.declared.answer.Answer.{Answer}
use Rattle.trade.specs.declared.state.Grant.{Grant}
use Rattle.trade.specs.declared.told.Told.{Told}
use Rattle.promise.specs.Demands.{Done, Refused, Always, grant_at, step_grant}

-- the call that the definitions describe
abbrev pub asks : Asking → Told → Type 0
asks a told = told ≡ ask_of a

-- the slot that is asked about; of the flow at a place, the steps that its latest instance has had, after the slot's releases, and its next
-- step, as a grant says it
abbrev pub slot_asked : Asking → ℕ
slot_asked a = (state_in a.area).slot

abbrev pub steps_had : Asking → ℕ → ℕ
steps_had a i = done_now (asked_due a) (state_in a.area) i

abbrev pub next_grant : Asking → ℕ → Grant
next_grant a i = step_grant (said a.book) i (record { 0 = (asked_due a).instance i }) (record { 0 = steps_had a i })

-- of the flow that is asked about: its first release has come, this slot counts; and it has steps left
abbrev pub Released : Asking → Type 0
Released a = (said a.book).phase a.place ≤ slot_asked a

abbrev pub Unfinished : Asking → Type 0
Unfinished a = steps_had a a.place < (said a.book).len a.place

-- THE ADVANCE of that slot is handed the same book and area, and a buffer with room for every flow's grant
pub record SameSlot (advance : Advancing → Advanced → Type 0) (a : Asking) (advanced : Advanced) : Type 0 where
  pub grants : List ℕ
  pub room : grant_bytes * (said a.book).flows ≤ length grants
  pub gives : advance (record { book = a.book; area = a.area; grants = grants }) advanced

-- whatever is asked, whatever is told, and whatever that advance gives, is so
abbrev pub Beside : (Advancing → Advanced → Type 0) → (Asking → Told → Type 0) → (Asking → Told → Advanced → Type 0) → Type 0
Beside advance ask so = Always ask (λ a told. (advanced : Advanced) → SameSlot advance a advanced → so a told advanced)

-- of the grants that it counts, grant j is of the flow at place i: it has its id
pub record GrantsFlow (a : Asking) (advanced : Advanced) (i j : ℕ) : Type 0 where
  pub listed : i < (said a.book).flows
  pub done : Done advanced.answer
  pub counted : j < advanced.answer.number
  pub id : (grant_at advanced.grants j).id ≡ (said a.book).id i

-- it grants the flow at place h, and that grant conflicts with the next step of the flow that is asked about
pub record Blocks (a : Asking) (advanced : Advanced) (h : ℕ) : Type 0 where
  pub grant : ℕ
  pub granted : GrantsFlow a advanced h grant
  pub conflicts :
      conflict (said a.book).disturbs (grant_at advanced.grants grant).transmission (next_grant a a.place).transmission ≡ true

-- the flow that is asked about waits on h: the first in record order that is granted in the slot and conflicts with the waiting step
pub record WaitsOn (a : Asking) (advanced : Advanced) (h : ℕ) : Type 0 where
  pub listed : a.place < (said a.book).flows
  pub released : Released a
  pub unfinished : Unfinished a
  pub above : h < a.place
  pub blocks : Blocks a advanced h
  pub first : (g : ℕ) → g < h → Blocks a advanced g → ⊥

-- one of the four; they are cases of one enum, so no two at once
abbrev pub OneOfFour : Told → Type 0
OneOfFour told = (told ≡ Told.NotReleased) ⊎ (told ≡ Told.Finished) ⊎ (told ≡ Told.Granted) ⊎ ((h : ℕ) × (told ≡ Told.WaitingOn h))

-- what is told, as it is read in the one answer: refused, or by its number which of the four
unfoldable pub told_by : Answer → Told
told_by r =
    cond (is_done r)
    (cond (eqb r.number (answer_of Told.NotReleased).number) Told.NotReleased
    (cond (eqb r.number (answer_of Told.Finished).number) Told.Finished
    (cond (eqb r.number (answer_of Told.Granted).number) Told.Granted
    (Told.WaitingOn (r.number - (answer_of (Told.WaitingOn 0)).number)))))
    (Told.Refused r)

-- IT IS TOLD WHY
pub record TellsWhy (advance : Advancing → Advanced → Type 0) (ask : Asking → Told → Type 0) : Type 0 where
  -- a refusal is told exactly when it is the first by the call's rules in their order: each has one number and one place
  pub refuses : Always ask (λ a told. (r : Answer) → (told ≡ Told.Refused r) ↔ (Refused r × (ask_answer a ≡ r)))
  -- those of advance without 13 for the grant buffer,
  pub refuses_as_advance : Beside advance ask (λ a told advanced. Refused advanced.answer → told ≡ Told.Refused advanced.answer)
  -- then 15 for a place at or above m, and no other
  pub refuses_place :
      Beside advance ask
      (λ a told advanced.
      Done advanced.answer
      → (r : Answer)
      → (told ≡ Told.Refused r) ↔ ((r ≡ refused 15 0) × ((said a.book).flows ≤ a.place)))
  -- where the call is done one of the four is told:
  pub one : Always ask (λ a told. Done (answer_of told) → OneOfFour told)
  -- not released, exactly when the slot is before the flow's phase;
  pub not_released :
      Always ask (λ a told. Done (answer_of told) → (told ≡ Told.NotReleased) ↔ (slot_asked a < (said a.book).phase a.place))
  -- finished, exactly when it has been released and its latest instance has had all its steps;
  pub finished :
      Always ask
      (λ a told. Done (answer_of told) → (told ≡ Told.Finished) ↔ (Released a × (steps_had a a.place ≡ (said a.book).len a.place)))
  -- granted, exactly when advance grants that place;
  pub granted : Beside advance ask (λ a told advanced. (told ≡ Told.Granted) ↔ ((j : ℕ) × GrantsFlow a advanced a.place j))
  -- waiting on h, exactly when h is the first that is granted there and conflicts with its step;
  pub waiting : Beside advance ask (λ a told advanced. (h : ℕ) → (told ≡ Told.WaitingOn h) ↔ WaitsOn a advanced h)
  -- and one is always there to name
  pub named :
      Beside advance ask
      (λ a told advanced.
      Done (answer_of told)
      → Released a
      → Unfinished a
      → ((j : ℕ) → GrantsFlow a advanced a.place j → ⊥)
      → (h : ℕ) × (told ≡ Told.WaitingOn h))
  -- the grant of a flow is its next step
  pub next : Beside advance ask (λ a told advanced. (i j : ℕ) → GrantsFlow a advanced i j → grant_at advanced.grants j ≡ next_grant a i)
  -- what is told is known by the one answer
  pub known : Always ask (λ a told. told_by (answer_of told) ≡ told)
