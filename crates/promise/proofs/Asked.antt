-- What is asked: its rules are those of advance on the same book and area, then the place; and which of the four is told, by what holds of
-- the slot. Leans on the trade's Why. Assumes nothing.
use Prim.Native.Nat.{ℕ, ◌-◌, ◌*◌, ◌≤◌, ◌<◌}
use mathlib.Core.Path.{◌≡◌, refl, sym, ◌∙◌, ap, subst}
use mathlib.Core.Bool.{true, false, cond, ◌||◌}
use mathlib.Core.Logic.{inl, inr, ◌↔◌}
use mathlib.Core.List.{List, [], ◌∷◌, ◌++◌, append_assoc}
use native.Mathlib.Omega.{arith}
use lib.Dec.{eqb}
use lib.ListN.{length, replicate, length-replicate}
use borrow.Author.Tests.{eqb-true, eqb-false, ne_eqb, leb-false, le-leb, lt-leb, lt-ltb, le-ltb}
use Rattle.trade.specs.Limits.{area_bytes, grant_bytes, end_of_clock}
use Rattle.trade.specs.First.{first}
use Rattle.trade.specs.Facts.{Facts, said}
use Rattle.trade.specs.Answers.{done, is_done, first_of, on, no_number}
use Rattle.trade.specs.Codes.{code13, code15_removing}
use Rattle.trade.specs.Slot.{State, unfinished, granted, among}
use Rattle.trade.specs.Area.{state_in}
use Rattle.trade.specs.SlotCodes.{code10, code11, code12}
use Rattle.trade.specs.Calls.{Advancing, book_rules, flows_granted, advance_answer, advance_answer_by}
use Rattle.trade.specs.Why.{blocks, why, answer_of, Asking, asked_due, ask_answer, ask_of}
use Rattle.trade.specs.declared.answer.Answer.{Answer}
use Rattle.trade.specs.declared.told.Told.{Told}
use Rattle.trade.proofs.Answers.{done_first, refused_second, Passed, passed_head, passed_tail, passed_first, passed_others, passed_look, first_of_passed, first_of_last, first_of_number, first_of_without, first_of_on, given_passed, given_passes}
use Rattle.trade.proofs.Calls.{code13_passes}
use Rattle.trade.proofs.Valid.{Valid, book_valid}
use Rattle.trade.proofs.SlotCodes.{slot_in_clock, done_within, idle_before}
use Rattle.trade.proofs.Why.{begun_is, tells_unreleased, tells_finished, tells_granted, tells_waiting}
use Rattle.response.proofs.Cases.{by_test, by_order}
use Rattle.promise.specs.Demands.{Done, Refused}
use Rattle.promise.specs.Why.{slot_asked, steps_had, Released, Unfinished, OneOfFour, told_by}
use Rattle.promise.proofs.Slots.{rule_of}

-- THE RULES of advance: those before its room for grants, that one, and those of the run
abbrev area_rules : List (Advancing → Answer)
area_rules = on (λ x. x.book) book_rules ++ ((λ x. code13 area_bytes x.area) ∷ [])

abbrev room_rule : Advancing → Answer
room_rule x = code13 (grant_bytes * (said x.book).flows) x.grants

abbrev run_rules : List (Advancing → Answer)
run_rules = (λ x. rule_of code10 x) ∷ (λ x. code12 (state_in x.area)) ∷ (λ x. rule_of code11 x) ∷ []

abbrev counts : Advancing → ℕ
counts x = length (flows_granted x)

advance_rules : (x : Advancing) → advance_answer x ≡ first_of (area_rules ++ (room_rule ∷ run_rules)) counts x
unfolding advance_answer_by
advance_rules x = rw append_assoc

-- those of the call are these on the same book and area, without the room for grants, and then the place
abbrev pub handed : Asking → List ℕ → Advancing
handed a lent = record { book = a.book; area = a.area; grants = lent }

abbrev pub place_rule : Asking → Answer
place_rule a = code15_removing (said a.book) a.place

ask_rules : (a : Asking) (lent : List ℕ) → ask_answer a ≡ first_of (on (λ x. handed x lent) (area_rules ++ run_rules) ++ (place_rule ∷ [])) no_number a
unfolding ask_answer on book_rules
ask_rules a lent = refl

module _ (a : Asking) (lent : List ℕ) (room : grant_bytes * (said a.book).flows ≤ length lent) where
  abbrev shared : Answer
  shared = first_of (area_rules ++ run_rules) no_number (handed a lent)

  by_shared : ask_answer a ≡ cond (is_done shared) (place_rule a) shared
  unfolding code15_removing
  by_shared =
      ask_rules a lent
      ∙ first_of_on (λ x. handed x lent) (area_rules ++ run_rules) (place_rule ∷ []) no_number a
      ∙ ap (λ (w : Answer). cond (is_done shared) w shared) (first_of_last place_rule a (given_passes 14 _ 0))

  advance_shared : advance_answer (handed a lent) ≡ cond (is_done shared) (done (counts (handed a lent))) shared
  advance_shared =
      advance_rules (handed a lent)
      ∙ first_of_without area_rules room_rule run_rules counts (handed a lent) (code13_passes (grant_bytes * (said a.book).flows) lent room)
      ∙ first_of_number (area_rules ++ run_rules) counts (handed a lent)

  -- so advance decides, or the place does
  by_advance : ask_answer a ≡ cond (is_done (advance_answer (handed a lent))) (place_rule a) (advance_answer (handed a lent))
  unfolding is_done
  by_advance = by_shared ∙ by_test (is_done shared) (λ d. rw (advance_shared, d)) (λ d. rw (advance_shared, d, d))

  pub ask_refused : Refused (advance_answer (handed a lent)) → ask_answer a ≡ advance_answer (handed a lent)
  ask_refused n = by_advance ∙ refused_second (advance_answer (handed a lent)) _ _ n

  pub ask_place : Done (advance_answer (handed a lent)) → ask_answer a ≡ place_rule a
  ask_place e = by_advance ∙ done_first (advance_answer (handed a lent)) _ _ e

  pub advance_done : Done (ask_answer a) → Done (advance_answer (handed a lent))
  advance_done e =
      by_test (eqb (advance_answer (handed a lent)).code 0) (eqb-true (advance_answer (handed a lent)).code 0)
      (λ d.
      let n = eqb-false (advance_answer (handed a lent)).code 0 d in
      absurd (n (sym (ap (λ (r : Answer). r.code) (ask_refused n)) ∙ e)))

-- WHAT IS ASKED ABOUT: what the book says, the run that the area holds, and the flows that go in its slot
abbrev pub facts : Asking → Facts
facts a = said a.book

abbrev pub run : Asking → State
run a = state_in a.area

abbrev pub goes : Asking → List ℕ
goes a = granted (facts a) (asked_due a) (run a)

begun : (a : Asking) (i : ℕ) → (facts a).phase i ≤ slot_asked a → ((asked_due a).due i || (asked_due a).begun i) ≡ true
begun a i h = begun_is (facts a) (facts a).phase (slot_asked a) i ∙ le-leb ((facts a).phase i) (slot_asked a) h

not_begun : (a : Asking) (i : ℕ) → slot_asked a < (facts a).phase i → ((asked_due a).due i || (asked_due a).begun i) ≡ false
not_begun a i h = begun_is (facts a) (facts a).phase (slot_asked a) i ∙ lt-leb ((facts a).phase i) (slot_asked a) h

-- where advance is done, the book is valid, the slot is one of the clock's, no flow has had more than its plan, and one that is not released
-- is idle
pub record Runs (a : Asking) : Type 0 where
  pub valid : Valid (facts a)
  pub clock : slot_asked a < end_of_clock
  pub within : (i : ℕ) → i < (facts a).flows → steps_had a i ≤ (facts a).len i
  pub idle : (i : ℕ) → i < (facts a).flows → slot_asked a < (facts a).phase i → steps_had a i ≡ (facts a).len i

pub runs : (a : Asking) (lent : List ℕ) → Done (advance_answer (handed a lent)) → Runs a
runs a lent e =
    let passed : Passed (handed a lent) (area_rules ++ (room_rule ∷ run_rules)) = first_of_passed _ counts (handed a lent) (rw (advance_rules (handed a lent)) at e) in
    let books = passed_first (on (λ (x : Advancing). x.book) book_rules) _ (passed_first area_rules _ passed) in
    let v : Valid (facts a) = book_valid a.book (passed_look (λ (x : Advancing). x.book) book_rules books) in
    let slot = passed_tail (passed_others area_rules _ passed) in
    record {
      valid = v;
      clock = slot_in_clock (facts a) (asked_due a) (run a) (passed_head slot) (passed_head (passed_tail slot));
      within = done_within (facts a) (asked_due a) (run a) (passed_head slot) v.flows;
      idle = λ i listed early. idle_before (facts a) (asked_due a) (run a) (passed_head slot) v.flows i listed (not_begun a i early);
    }

-- where the call is done
module _ (a : Asking) (e : Done (ask_answer a)) where
  abbrev lent : List ℕ
  lent = replicate (grant_bytes * (facts a).flows) 0

  enough : grant_bytes * (facts a).flows ≤ length lent
  enough = omega (arith, length-replicate {A = ℕ} (grant_bytes * (facts a).flows) 0)

  -- advance would be, and the place is one of the book's
  ask_runs : Runs a
  ask_runs = runs a lent (advance_done a lent enough e)

  pub ask_listed : a.place < (facts a).flows
  unfolding code15_removing
  ask_listed =
      leb-false (facts a).flows a.place
      (given_passed 14 _ 0 (sym (ap (λ (r : Answer). r.code) (ask_place a lent enough (advance_done a lent enough e))) ∙ e))

  -- each of the four is told
  ask_why : ask_of a ≡ why (facts a) (asked_due a) (run a) a.place
  unfolding ask_of
  ask_why = done_first (ask_answer a) _ _ e

  pub told_early : slot_asked a < (facts a).phase a.place → ask_of a ≡ Told.NotReleased
  told_early h = ask_why ∙ tells_unreleased (facts a) (asked_due a) (run a) a.place (not_begun a a.place h)

  module _ (come : Released a) where
    pub told_had : (facts a).len a.place ≤ steps_had a a.place → ask_of a ≡ Told.Finished
    unfolding unfinished
    told_had h =
        ask_why
        ∙ tells_finished (facts a) (asked_due a) (run a) a.place (begun a a.place come)
        (le-ltb (steps_had a a.place) ((facts a).len a.place) h)

    module _ (busy : Unfinished a) where
      pub works : unfinished (facts a) (asked_due a) (run a) a.place ≡ true
      unfolding unfinished
      works = lt-ltb (steps_had a a.place) ((facts a).len a.place) busy

      pub told_goes : among (goes a) a.place ≡ true → ask_of a ≡ Told.Granted
      told_goes g = ask_why ∙ tells_granted (facts a) (asked_due a) (run a) a.place (begun a a.place come) works g

      pub told_waits :
          among (goes a) a.place ≡ false
          → ask_of a ≡ Told.WaitingOn (first (blocks (facts a) (asked_due a) (run a) a.place) (facts a).flows)
      told_waits g = ask_why ∙ tells_waiting (facts a) (asked_due a) (run a) a.place (begun a a.place come) works g

-- WHAT IS TOLD, and what then holds
pub data Tells (a : Asking) : Told → Type 0 where
  tells_refusal : (r : Answer) → Refused r → ask_answer a ≡ r → Tells a (Told.Refused r)
  tells_early : Done (ask_answer a) → slot_asked a < (facts a).phase a.place → Tells a Told.NotReleased
  tells_had : Done (ask_answer a) → Released a → steps_had a a.place ≡ (facts a).len a.place → Tells a Told.Finished
  tells_goes : Done (ask_answer a) → among (goes a) a.place ≡ true → Tells a Told.Granted
  tells_waits :
      (h : ℕ)
      → Done (ask_answer a)
      → Released a
      → Unfinished a
      → among (goes a) a.place ≡ false
      → h ≡ first (blocks (facts a) (asked_due a) (run a) a.place) (facts a).flows
      → Tells a (Told.WaitingOn h)

pub tells : (a : Asking) → Tells a (ask_of a)
unfolding ask_of
tells a =
    by_test (eqb (ask_answer a).code 0)
    (λ d.
    let e : Done (ask_answer a) = eqb-true (ask_answer a).code 0 d in
    by_order ((facts a).phase a.place) (slot_asked a)
    (λ come.
    by_order ((facts a).len a.place) (steps_had a a.place)
    (λ all. subst (Tells a) (sym (told_had a e come all)) (tells_had e come (omega (arith, (ask_runs a e).within a.place (ask_listed a e)))))
    (λ busy.
    by_test (among (goes a) a.place) (λ g. subst (Tells a) (sym (told_goes a e come busy g)) (tells_goes e g))
    (λ g. subst (Tells a) (sym (told_waits a e come busy g)) (tells_waits _ e come busy g refl))))
    (λ early. subst (Tells a) (sym (told_early a e early)) (tells_early e early)))
    (λ d.
    let n = eqb-false (ask_answer a).code 0 d in
    subst (Tells a) (sym (refused_second (ask_answer a) _ (Told.Refused (ask_answer a)) n)) (tells_refusal (ask_answer a) n refl))

module _ {a : Asking} where
  by_refusal : {r : Answer} → Tells a (Told.Refused r) → Refused r × (ask_answer a ≡ r)
  by_refusal (tells_refusal r n e) = (n, e)

  pub by_early : Tells a Told.NotReleased → slot_asked a < (facts a).phase a.place
  by_early (tells_early e early) = early

  pub by_had : Tells a Told.Finished → Released a × (steps_had a a.place ≡ (facts a).len a.place)
  by_had (tells_had e come all) = (come, all)

  pub by_goes : Tells a Told.Granted → Done (ask_answer a) × (among (goes a) a.place ≡ true)
  by_goes (tells_goes e g) = (e, g)

  -- the call is done where the answer is, and then one of the four is told
  pub told_done : {told : Told} → Tells a told → Done (answer_of told) → Done (ask_answer a) × OneOfFour told
  told_done (tells_refusal r n e) d = absurd (n d)
  told_done (tells_early e early) d = (e, inl refl)
  told_done (tells_had e come all) d = (e, inr (inl refl))
  told_done (tells_goes e g) d = (e, inr (inr (inl refl)))
  told_done (tells_waits h e come busy g is) d = (e, inr (inr (inr (h, refl))))

pub refused_told : (a : Asking) (r : Answer) → (ask_of a ≡ Told.Refused r) ↔ (Refused r × (ask_answer a ≡ r))
unfolding ask_of
refused_told a r = (
  λ q. by_refusal (subst (Tells a) q (tells a)),
  λ (n, e). refused_second (ask_answer a) _ _ (λ z. n (ap (λ (x : Answer). x.code) (sym e) ∙ z)) ∙ ap Told.Refused e,
)

-- what is told is read back from its answer
pub read_back : {a : Asking} {told : Told} → Tells a told → told_by (answer_of told) ≡ told
unfolding is_done told_by
read_back (tells_refusal r n e) = rw (ne_eqb r.code 0 n)
read_back (tells_early e early) = refl
read_back (tells_had e come all) = refl
read_back (tells_goes e g) = refl
read_back (tells_waits h e come busy g is) =
    let n : ℕ = (answer_of (Told.WaitingOn h)).number in
    let rest : n - (answer_of (Told.WaitingOn 0)).number ≡ h = omega arith in
    rw (
      ne_eqb n (answer_of Told.NotReleased).number (λ z. omega arith),
      ne_eqb n (answer_of Told.Finished).number (λ z. omega arith),
      ne_eqb n (answer_of Told.Granted).number (λ z. omega arith),
    )
    (ap Told.WaitingOn rest)
