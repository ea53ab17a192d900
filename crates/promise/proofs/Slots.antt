-- The run of an accepted book, slot by slot: the area before slot t holds the run after t slots, no slot up to the clock's end is
-- refused, and what each leaves is what the definitions say of that run. By any sound measure and rule of waiting. Assumes nothing.
use Prim.Native.Nat.{ℕ, zero, suc, ◌*◌, ◌≤◌, ◌<◌}
use mathlib.Core.Path.{◌≡◌, refl, sym, ◌∙◌, ap, subst}
use mathlib.Core.Bool.{false}
use mathlib.Core.Logic.{⊎_elim}
use mathlib.Core.List.{List, [], ◌∷◌, ◌++◌, append_assoc}
use native.Mathlib.Omega.{arith}
use lib.Dec.{eqb, ltb}
use lib.ListN.{length}
use borrow.Author.Tests.{eq-eqb, ne_eqb, lt-ltb, le-ltb}
use Rattle.trade.specs.Limits.{most_flows, end_of_clock, area_bytes, grant_bytes}
use Rattle.trade.specs.Bytes.{over}
use Rattle.trade.specs.Facts.{Facts, said}
use Rattle.trade.specs.Answers.{done, refused, is_done, first_of, no_number, on}
use Rattle.trade.specs.Codes.{code13}
use Rattle.trade.specs.Bound.{Measure, bound_by}
use Rattle.trade.specs.Slot.{State, Releases, periodic, releases_of, Waits, granted_by, next_state_by, run_by, grant_of, grants_of}
use Rattle.trade.specs.Area.{state_in, area_of}
use Rattle.trade.specs.SlotCodes.{bad_place, code10, code12, overrun, code11}
use Rattle.trade.specs.Calls.{Starting, Advancing, Started, Advanced, book_rules, start_answer_by, start_area, start_by, check_by, flows_granted_by, advance_answer_by, next_area_by, grants_in_by, advance_by}
use Rattle.promise.specs.Demands.{Done, Ran, RunBy, planner_by, area_before}
use Rattle.trade.specs.declared.answer.Answer.{Answer}
use Rattle.trade.specs.declared.clock.Slot.{Slot}
use Rattle.trade.proofs.First.{lt_or_ge}
use Rattle.trade.proofs.Bytes.{length_over, over_over}
use Rattle.trade.proofs.Answers.{Passed, passed_none, passed_more, passed_append, passed_on, passed_done, passed_refused, given_first_none, given_false, given_true}
use Rattle.trade.proofs.Calls.{code13_passes}
use Rattle.trade.proofs.Valid.{Valid}
use Rattle.trade.proofs.Alike.{Alike, alike_self}
use Rattle.trade.proofs.Prefix.{Abreast, Level, level_same, alike_granted, alike_grants, alike_on}
use Rattle.trade.proofs.Area.{length_area, area_unused, area_abreast, abreast_area}
use Rattle.response.proofs.Cases.{by_test, by_order}
use Rattle.response.proofs.Released.{released_apart, periodic_in_order}
use Rattle.response.proofs.Run.{run_slot, run_within, run_idle}
use Rattle.response.proofs.Promise.{never_overrun}
use Rattle.promise.proofs.Sound.{Sound}
use Rattle.promise.proofs.Accepted.{check_passed, book_passed, accepted_valid, accepted_bounded}

-- what the book says, and what is due in each slot
abbrev pub facts : Ran → Facts
facts x = said x.book

abbrev pub due : Ran → ℕ → Releases
due x = periodic (facts x) (facts x).phase

-- its run after t slots by a rule of waiting, and the flows granted in slot t
abbrev pub run : Waits → Ran → ℕ → State
run waits x t = run_by waits (facts x) (due x) t

abbrev pub goes : Waits → Ran → ℕ → List ℕ
goes waits x t = granted_by waits (facts x) (due x t) (run waits x t)

-- the bytes of their grants
abbrev pub made : Waits → Ran → ℕ → List ℕ
made waits x t = grants_of (grant_of (facts x) (due x t) (run waits x t)) (goes waits x t)

-- the area that holds the run after t slots, the run that is read back of it, and the advance that is handed it
unfoldable pub area_at : Waits → Ran → ℕ → List ℕ
area_at waits x t = over (area_of (facts x).flows (run waits x t)) x.area

abbrev state_at : Waits → Ran → ℕ → State
state_at waits x t = state_in (area_at waits x t)

abbrev pub slot_at : Waits → Ran → ℕ → List ℕ → Advancing
slot_at waits x t lent = record { book = x.book; area = area_at waits x t; grants = lent }

-- the slot of a number
abbrev pub at : ℕ → Slot
at t = record { 0 = t }

-- the rules of an advance: those before code 12, and those from it on
abbrev pub rule_of : (Facts → Releases → State → Answer) → Advancing → Answer
rule_of code a = code (said a.book) (releases_of (said a.book) (state_in a.area)) (state_in a.area)

before_clock : List (Advancing → Answer)
before_clock =
    on (λ a. a.book) book_rules
    ++ ((λ a. code13 area_bytes a.area)
    ∷ (λ a. code13 (grant_bytes * (said a.book).flows) a.grants)
    ∷ (λ a. rule_of code10 a)
    ∷ [])

from_clock : List (Advancing → Answer)
from_clock = (λ a. code12 (state_in a.area)) ∷ (λ a. rule_of code11 a) ∷ []

rules_split :
    (waits : Waits) (a : Advancing)
    → advance_answer_by waits releases_of a ≡ first_of (before_clock ++ from_clock) (λ x. length (flows_granted_by waits releases_of x)) a
unfolding advance_answer_by before_clock from_clock
rules_split waits a = rw append_assoc

-- a run of a book that is accepted by a measure, under a rule of waiting that the measure is sound for
pub record AcceptedRun (measured : Facts → Measure) (waits : Waits) (x : Ran) : Type 0 where
  pub sound : Sound measured waits
  pub accepted : Done (check_by measured x.book).answer
  pub ran : RunBy (planner_by measured waits) x

module _ (measured : Facts → Measure) (waits : Waits) (x : Ran) (g : AcceptedRun measured waits x) where
  valid : Valid (facts x)
  valid = accepted_valid measured x.book g.accepted

  self : Alike (facts x).flows (facts x) (facts x)
  self = alike_self (facts x).flows (facts x)

  -- START is done
  start_done : start_answer_by measured (record { book = x.book; area = x.area }) ≡ done 0
  unfolding start_answer_by
  start_done =
      passed_done no_number
      (passed_append (passed_on (λ (s : Starting). s.book) (check_passed measured x.book g.accepted))
      (passed_more (code13_passes area_bytes x.area g.ran.area) passed_none))

  -- a slot up to the clock's end, whose advance is handed the run after t slots
  module _ (t : ℕ) (clock : t ≤ end_of_clock) where
    -- what it reads back of the area
    slot_abreast : Abreast (facts x).flows (state_at waits x t) (run waits x t)
    unfolding area_at
    slot_abreast =
        area_abreast (facts x).flows (run waits x t) x.area valid.flows (omega (arith, run_slot waits (facts x) (due x) t))

    slot_level : Level (facts x).flows (due x t) (due x t) (state_at waits x t) (run waits x t)
    slot_level = level_same (facts x).flows (due x t) (state_at waits x t) (run waits x t) slot_abreast

    slot_read : (state_at waits x t).slot ≡ t
    slot_read = slot_abreast.slot ∙ run_slot waits (facts x) (due x) t

    -- what is due in it
    slot_releases : releases_of (facts x) (state_at waits x t) ≡ due x t
    slot_releases = ap (due x) slot_read

    -- code 10 passes: no flow has done more than its plan, each is idle until its first release, and unused places are 0
    good_place : (i : ℕ) → i < (facts x).flows → bad_place (facts x) (due x t) (state_at waits x t) i ≡ false
    unfolding bad_place
    good_place i h =
        let order = periodic_in_order (facts x) (facts x).phase i (valid.records i h).period.least in
        rw (
          lt-ltb i (facts x).flows h,
          slot_abreast.done i h,
          le-ltb ((facts x).len i) ((run waits x t).done i) (run_within waits (facts x) (due x) t i),
        )
        (by_test (ltb ((facts x).phase i) t) (λ begun. rw begun)
        (λ early.
        rw (
          early,
          eq-eqb ((run waits x t).done i) ((facts x).len i) (run_idle waits (facts x) (due x) i order t early),
        )))

    good_unused : (i : ℕ) → i < most_flows → (facts x).flows ≤ i → bad_place (facts x) (due x t) (state_at waits x t) i ≡ false
    unfolding bad_place area_at
    good_unused i h u = rw (le-ltb i (facts x).flows u, area_unused (facts x).flows (run waits x t) x.area i h u)

    code10_passes : (code10 (facts x) (due x t) (state_at waits x t)).code ≡ 0
    unfolding code10
    code10_passes =
        rw (le-ltb end_of_clock (state_at waits x t).slot (omega (arith, slot_read)))
        (ap (λ (a : Answer). a.code)
        (given_first_none 10 (bad_place (facts x) (due x t) (state_at waits x t)) most_flows
        (λ i h. by_order (facts x).flows i (good_unused i h) (good_place i))))

    -- code 11 passes: no release meets an unfinished instance
    code11_passes : (code11 (facts x) (due x t) (state_at waits x t)).code ≡ 0
    unfolding code11 overrun
    code11_passes =
        ap (λ (a : Answer). a.code)
        (given_first_none 11 (overrun (facts x) (due x t) (state_at waits x t)) (facts x).flows
        (λ i h.
        rw (slot_abreast.done i h)
        (by_test ((due x t).due i)
        (λ now.
        rw (
          now,
          never_overrun waits (facts x) (due x) (measured (facts x)) (g.sound.covers (facts x))
              (λ l l<. released_apart (facts x) (facts x).phase l) (bound_by (facts x) (measured (facts x)))
              (accepted_bounded measured x.book g.accepted g.sound.carries) t i h now,
          le-ltb ((facts x).len i) ((facts x).len i) (omega arith),
        ))
        (λ quiet. rw quiet))))

    -- the memory is long enough
    room : (code13 area_bytes (area_at waits x t)).code ≡ 0
    unfolding area_at
    room =
        code13_passes area_bytes (area_at waits x t)
        (omega (
          arith,
          g.ran.area,
          length_area (facts x).flows (run waits x t),
          length_over (area_of (facts x).flows (run waits x t)) x.area
              (omega (arith, length_area (facts x).flows (run waits x t), g.ran.area)),
        ))

    -- what it is lent for its grants has room for all
    module _ (lent : List ℕ) (enough : grant_bytes * (facts x).flows ≤ length lent) where
      -- so every rule before code 12 passes
      before_clock_lem : Passed (slot_at waits x t lent) before_clock
      unfolding before_clock
      before_clock_lem =
          passed_append (passed_on (λ (a : Advancing). a.book) (book_passed measured x.book g.accepted))
          (passed_more room
          (passed_more (code13_passes (grant_bytes * (facts x).flows) lent enough)
          (passed_more (subst (λ (now : Releases). (code10 (facts x) now (state_at waits x t)).code ≡ 0) (sym slot_releases) code10_passes)
          passed_none)))

      -- the flows granted are those of the run
      slot_goes : flows_granted_by waits releases_of (slot_at waits x t lent) ≡ goes waits x t
      unfolding flows_granted_by
      slot_goes =
          ap (λ (now : Releases). granted_by waits (facts x) now (state_at waits x t)) slot_releases
          ∙ alike_granted waits g.sound.local (facts x).flows (facts x) (facts x) self (due x t) (due x t) (state_at waits x t) (run waits x t) slot_level refl refl

      -- and so are the bytes that are written for them, and the area that is left
      slot_grants : grants_in_by waits releases_of (slot_at waits x t lent) ≡ made waits x t
      unfolding grants_in_by flows_granted_by
      slot_grants =
          ap (λ (now : Releases). grants_of (grant_of (facts x) now (state_at waits x t)) (granted_by waits (facts x) now (state_at waits x t)))
          slot_releases
          ∙ alike_grants waits g.sound.local (facts x).flows (facts x) (facts x) self (due x t) (due x t) (state_at waits x t) (run waits x t) slot_level refl refl

      slot_area : over (next_area_by waits releases_of (slot_at waits x t lent)) (area_at waits x t) ≡ area_at waits x (suc t)
      unfolding next_area_by area_at run_by
      slot_area =
          let next : State = run waits x (suc t) in
          ap (λ (now : Releases). over (area_of (facts x).flows (next_state_by waits (facts x) now (state_at waits x t))) (area_at waits x t))
          slot_releases
          ∙ ap (λ (new : List ℕ). over new (area_at waits x t))
          (abreast_area (facts x).flows (next_state_by waits (facts x) (due x t) (state_at waits x t)) next
          (alike_on waits g.sound.local (facts x).flows (facts x) (facts x) self (due x t) (due x t) (state_at waits x t) (run waits x t) slot_level
          (omega arith) (omega arith) slot_abreast.slot))
          ∙ over_over (area_of (facts x).flows next) (area_of (facts x).flows (run waits x t)) x.area
          (length_area (facts x).flows next ∙ sym (length_area (facts x).flows (run waits x t)))

  -- a slot before the clock's end, that is lent room for its grants, is done, with the count of them
  slot_done :
      (t : ℕ) (lent : List ℕ)
      → t < end_of_clock
      → grant_bytes * (facts x).flows ≤ length lent
      → advance_answer_by waits releases_of (slot_at waits x t lent) ≡ done (length (goes waits x t))
  unfolding from_clock code12
  slot_done t lent clock enough =
      rules_split waits (slot_at waits x t lent)
      ∙ passed_done (λ y. length (flows_granted_by waits releases_of y))
      (passed_append (before_clock_lem t (omega arith) lent enough)
      (passed_more
      (ap (λ (a : Answer). a.code)
      (given_false 12 (eqb (state_at waits x t).slot end_of_clock) 0
      (ne_eqb (state_at waits x t).slot end_of_clock (λ e. omega (arith, slot_read t (omega arith))))))
      (passed_more
      (subst (λ (now : Releases). (code11 (facts x) now (state_at waits x t)).code ≡ 0) (sym (slot_releases t (omega arith)))
      (code11_passes t (omega arith)))
      passed_none)))
      ∙ ap (λ (is : List ℕ). done (length is)) (slot_goes t (omega arith) lent enough)

  -- at the clock's end the answer is 12, and nothing is touched
  clock_ends :
      (lent : List ℕ)
      → grant_bytes * (facts x).flows ≤ length lent
      → advance_answer_by waits releases_of (slot_at waits x end_of_clock lent) ≡ refused 12 0
  unfolding from_clock code12
  clock_ends lent enough =
      let over12 : code12 (state_at waits x end_of_clock) ≡ refused 12 0
      = given_true 12 (eqb (state_at waits x end_of_clock).slot end_of_clock) 0
      (eq-eqb (state_at waits x end_of_clock).slot end_of_clock (slot_read end_of_clock (omega arith))) in
      rules_split waits (slot_at waits x end_of_clock lent)
      ∙ passed_refused (λ a. code12 (state_in a.area)) ((λ a. rule_of code11 a) ∷ [])
      (λ y. length (flows_granted_by waits releases_of y)) (before_clock_lem end_of_clock (omega arith) lent enough)
      (λ e. omega (arith, ap (λ (a : Answer). a.code) over12))
      ∙ over12

  end_leaves :
      (lent : List ℕ)
      → grant_bytes * (facts x).flows ≤ length lent
      → advance_by waits releases_of (slot_at waits x end_of_clock lent)
      ≡ record { answer = refused 12 0; area = area_at waits x end_of_clock; grants = lent }
  unfolding advance_by is_done
  end_leaves lent enough = rw (clock_ends lent enough)

  -- an advance that is handed the run after t slots leaves the run after one more, and the grants of the slot
  slot_leaves :
      (t : ℕ) (lent : List ℕ)
      → t < end_of_clock
      → grant_bytes * (facts x).flows ≤ length lent
      → advance_by waits releases_of (slot_at waits x t lent)
      ≡ record { answer = done (length (goes waits x t)); area = area_at waits x (suc t); grants = over (made waits x t) lent }
  unfolding advance_by is_done
  slot_leaves t lent clock enough =
      rw (slot_done t lent clock enough, slot_area t (omega arith) lent enough, slot_grants t (omega arith) lent enough)

  -- START is done, and leaves the run after no slot
  pub started : x.started ≡ record { answer = done 0; area = area_at waits x 0 }
  unfolding start_by area_at start_area run_by is_done
  started = g.ran.starts ∙ rw start_done

  -- what the advance of slot t gives, if the area before it holds the run after u slots
  from_area :
      (t u : ℕ)
      → t < x.count
      → area_before x t ≡ area_at waits x u
      → x.advanced (at t) ≡ advance_by waits releases_of (slot_at waits x u (x.grants (at t)))
  from_area t u h e =
      g.ran.advances (at t) h
      ∙ ap (λ (area : List ℕ). advance_by waits releases_of (record { book = x.book; area = area; grants = x.grants (at t) })) e

  -- THE AREA before slot t holds the run after t slots
  area_before_lem : (t : ℕ) → t ≤ x.count → t ≤ end_of_clock → area_before x t ≡ area_at waits x t
  unfolding area_before
  area_before_lem zero h clock = ap (λ (s : Started). s.area) started
  area_before_lem (suc t) h clock =
      ap (λ (a : Advanced). a.area)
      (from_area t t h (area_before_lem t (omega arith) (omega arith)) ∙ slot_leaves t (x.grants (at t)) clock (g.ran.grants (at t) h))

  -- and past the clock's end the run that ended there
  area_past : (t : ℕ) → t ≤ x.count → end_of_clock ≤ t → area_before x t ≡ area_at waits x end_of_clock
  unfolding area_before
  area_past zero h past = absurd (omega arith)
  area_past (suc t) h past =
      ⊎_elim
      (λ (before : t < end_of_clock). let e : suc t ≡ end_of_clock = omega arith in area_before_lem (suc t) h (omega arith) ∙ ap (area_at waits x) e)
      (λ (after : end_of_clock ≤ t).
      ap (λ (a : Advanced). a.area)
      (from_area t end_of_clock h (area_past t (omega arith) after) ∙ end_leaves (x.grants (at t)) (g.ran.grants (at t) h)))
      (lt_or_ge t end_of_clock)

  -- WHAT SLOT t ANSWERS AND LEAVES, up to the clock's end
  pub in_slot :
      (t : ℕ)
      → t < x.count
      → t < end_of_clock
      → x.advanced (at t)
      ≡ record {
        answer = done (length (goes waits x t));
        area = area_at waits x (suc t);
        grants = over (made waits x t) (x.grants (at t));
      }
  in_slot t h clock = from_area t t h (area_before_lem t (omega arith) (omega arith)) ∙ slot_leaves t (x.grants (at t)) clock (g.ran.grants (at t) h)

  -- and past it
  pub past_clock : (t : ℕ) → t < x.count → end_of_clock ≤ t → (x.advanced (at t)).answer ≡ refused 12 0
  past_clock t h past =
      ap (λ (a : Advanced). a.answer)
      (from_area t end_of_clock h (area_past t (omega arith) past) ∙ end_leaves (x.grants (at t)) (g.ran.grants (at t) h))
