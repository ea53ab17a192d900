-- Codes 10, 12 and 11, where a search through the places or the flows found one, and where it found none; and the three in their order. Leans on the
-- trade's Answers. Assumes nothing.
use Prim.Native.Nat.{ℕ, ◌≤◌, ◌<◌}
use mathlib.Core.Path.{◌≡◌, refl, sym, ◌∙◌, ap}
use mathlib.Core.Bool.{Bool, true, false, cond, ◌&&◌}
use mathlib.Core.Logic.{⊎_elim}
use mathlib.Core.List.{List, []}
use native.Mathlib.Omega.{arith}
use borrow.Author.Rules.{rules}
use Rattle.std.specs.Ordering.{is_lt, nat_cmp}
use lib.Dec.{eqb, ltb}
use lib.ListN.{get_or}
use borrow.Author.Tests.{lt-ltb, le-ltb, ltb-true, ltb-false, eq-eqb, ne_eqb, eqb-true, eqb-false, not-false}
use Rattle.trade.specs.Limits.{most_flows, last_slot, end_of_clock}
use Rattle.trade.specs.Facts.{Facts, facts_of, facts_in, flow_in}
use Rattle.trade.specs.Run.{idle_of}
use Rattle.trade.specs.Slot.{State, Releases, released}
use Rattle.trade.specs.Answers.{done, refused, is_done, given}
use Rattle.trade.specs.SlotCodes.{bad_place, overrun, code10, code11, code12}
use Rattle.trade.specs.declared.answer.Answer.{Answer}
use Rattle.trade.specs.declared.clock.Slot.{Slot}
use Rattle.trade.specs.declared.state.Run.{Run}
use Rattle.trade.proofs.First.{bool_cases, lt_or_ge}
use Rattle.trade.proofs.Answers.{given_passed, given_first_at, given_first_none, given_first_passed, given_first_same}
use Rattle.slot.specs.States.{place_of, state_of, slot_in}
use Rattle.slot.specs.Release.{released_at}
use Rattle.area.specs.Refusals.{bad_place_at, overrun_at, run_answer}
use Rattle.area.specs.Dues.{due_by}

-- a slot is earlier than another by its number
pub earlier : (a b : ℕ) → is_lt (nat_cmp a b) ≡ ltb a b
earlier a b = search rules

module _ (f : Facts) (r : Releases) (s : State) where
  pub code10_late : end_of_clock < s.slot → code10 f r s ≡ refused 10 0
  unfolding code10
  code10_late h = rw (lt-ltb end_of_clock s.slot h)

  pub code10_at :
      (i : ℕ) → s.slot ≤ end_of_clock → i < most_flows → ((j : ℕ) → j < i → bad_place f r s j ≡ false) → bad_place f r s i ≡ true → code10 f r s ≡ refused 10 i
  unfolding code10
  code10_at i h l before bad = rw (le-ltb end_of_clock s.slot h) (given_first_at 10 (bad_place f r s) most_flows i l before bad)

  pub code10_none : s.slot ≤ end_of_clock → ((j : ℕ) → j < most_flows → bad_place f r s j ≡ false) → code10 f r s ≡ done 0
  unfolding code10
  code10_none h none = rw (le-ltb end_of_clock s.slot h) (given_first_none 10 (bad_place f r s) most_flows none)

  pub code11_at :
      (i : ℕ) → i < f.flows → ((j : ℕ) → j < i → overrun f r s j ≡ false) → overrun f r s i ≡ true → code11 f r s ≡ refused 11 i
  unfolding code11
  code11_at i l before bad = given_first_at 11 (overrun f r s) f.flows i l before bad

  pub code11_none : ((j : ℕ) → j < f.flows → overrun f r s j ≡ false) → code11 f r s ≡ done 0
  unfolding code11
  code11_none none = given_first_none 11 (overrun f r s) f.flows none

-- what the code asks of one place, or of one flow
module _ (flows : ℕ) (records : List ℕ) (firsts : List Slot) (run : Run) (i : ℕ) where
  abbrev facts : Facts
  facts = facts_in 0 flows [] records []

  pub place_shown :
      bad_place_at facts (get_or firsts i (record { 0 = 0 })) run.slot (get_or run.flows i (idle_of 0)) i ≡ bad_place facts (due_by facts firsts run) (state_of run) i
  unfolding bad_place_at bad_place state_of place_of slot_in
  place_shown = refl

  pub overrun_shown :
      overrun_at (flow_in records i) (get_or firsts i (record { 0 = 0 })) run.slot (get_or run.flows i (idle_of 0)) ≡ overrun facts (due_by facts firsts run) (state_of run) i
  unfolding overrun overrun_at released released_at state_of place_of slot_in flow_in facts_of
  overrun_shown = refl

-- codes 10, 12 and 11, each where those before it have passed
module _ (f : Facts) (r : Releases) (s : State) where
  pub run_malformed : ((code10 f r s).code ≡ 0 → ⊥) → run_answer f r s ≡ code10 f r s
  unfolding run_answer is_done
  run_malformed n = rw (ne_eqb (code10 f r s).code 0 n)

  pub run_ended : (code10 f r s).code ≡ 0 → s.slot ≡ end_of_clock → run_answer f r s ≡ refused 12 0
  unfolding run_answer is_done code12 given
  run_ended e h = rw (eq-eqb (code10 f r s).code 0 e, eq-eqb s.slot end_of_clock h)

  pub run_overrun : (code10 f r s).code ≡ 0 → (s.slot ≡ end_of_clock → ⊥) → run_answer f r s ≡ code11 f r s
  unfolding run_answer is_done code12 given
  run_overrun e n = rw (eq-eqb (code10 f r s).code 0 e, ne_eqb s.slot end_of_clock n)

  -- what a run that passes all three has passed
  pub run_passed : (run_answer f r s).code ≡ 0 → ((code10 f r s).code ≡ 0) × ((code12 s).code ≡ 0)
  unfolding run_answer is_done
  run_passed e =
      ⊎_elim
      (λ (d : eqb (code10 f r s).code 0 ≡ true).
      ⊎_elim (λ (n : eqb (code12 s).code 0 ≡ true). (eqb-true (code10 f r s).code 0 d, eqb-true (code12 s).code 0 n))
      (λ (n : eqb (code12 s).code 0 ≡ false).
      absurd (eqb-false (code12 s).code 0 n (sym (ap (λ (x : Answer). x.code) (ended d n)) ∙ e)))
      (bool_cases (eqb (code12 s).code 0)))
      (λ (d : eqb (code10 f r s).code 0 ≡ false).
      let n = eqb-false (code10 f r s).code 0 d in absurd (n (sym (ap (λ (x : Answer). x.code) (run_malformed n)) ∙ e)))
      (bool_cases (eqb (code10 f r s).code 0))
    where
      ended : eqb (code10 f r s).code 0 ≡ true → eqb (code12 s).code 0 ≡ false → run_answer f r s ≡ code12 s
      ended d n = rw (d, n)

  pub slot_runs : (run_answer f r s).code ≡ 0 → s.slot ≤ last_slot
  unfolding code10 code12
  slot_runs e =
      let (ten, twelve) = run_passed e in
      let early : ltb end_of_clock s.slot ≡ false = not_late ten in
      omega (arith, ltb-false end_of_clock s.slot early, eqb-false s.slot end_of_clock (given_passed 11 _ 0 twelve))
    where
      not_late : (code10 f r s).code ≡ 0 → ltb end_of_clock s.slot ≡ false
      not_late z =
          ⊎_elim
          (λ (h : ltb end_of_clock s.slot ≡ true). absurd (omega (arith, sym (ap (λ (x : Answer). x.code) (code10_late f r s (ltb-true end_of_clock s.slot h))) ∙ z)))
          (λ h. h)
          (bool_cases (ltb end_of_clock s.slot))

  -- so its unused places are 0
  pub places_good : (run_answer f r s).code ≡ 0 → (i : ℕ) → i < most_flows → bad_place f r s i ≡ false
  unfolding code10
  places_good e =
      given_first_passed 9 (bad_place f r s) most_flows
      (rw (le-ltb end_of_clock s.slot (omega (arith, slot_runs e))) at (run_passed e).0)

  pub unused_zero : (run_answer f r s).code ≡ 0 → (i : ℕ) → i < most_flows → f.flows ≤ i → s.done i ≡ 0
  unfolding bad_place
  unused_zero e i h l = eqb-true (s.done i) 0 (not-false _ (rw (le-ltb i f.flows l) at (places_good e i h)))

  -- a run that no flow and no unused place gives a reason to refuse, in a slot that runs, passes all three
  pub run_clear :
      s.slot ≤ last_slot
      → ((i : ℕ) → i < f.flows → bad_place f r s i ≡ false)
      → ((i : ℕ) → f.flows ≤ i → i < most_flows → s.done i ≡ 0)
      → ((i : ℕ) → i < f.flows → overrun f r s i ≡ false)
      → run_answer f r s ≡ done 0
  unfolding bad_place
  run_clear early good unused timely =
      run_overrun (ap (λ (x : Answer). x.code) (code10_none f r s (omega arith) places)) (λ e. omega arith) ∙ code11_none f r s timely
    where
      places : (i : ℕ) → i < most_flows → bad_place f r s i ≡ false
      places i h =
          ⊎_elim (good i)
          (λ (l : f.flows ≤ i). rw (le-ltb i f.flows l, eq-eqb (s.done i) 0 (unused i l h)))
          (lt_or_ge i f.flows)

-- releases that say the same of each flow refuse a run alike
module _ (f : Facts) (r q : Releases) (s : State) (begun : (i : ℕ) → i < f.flows → r.begun i ≡ q.begun i) (due : (i : ℕ) → i < f.flows → r.due i ≡ q.due i) where
  bad_same : (i : ℕ) → bad_place f r s i ≡ bad_place f q s i
  unfolding bad_place
  bad_same i =
      ⊎_elim (λ (l : i < f.flows). rw (lt-ltb i f.flows l, begun i l)) (λ (l : f.flows ≤ i). rw (le-ltb i f.flows l)) (lt_or_ge i f.flows)

  ten_same : code10 f r s ≡ code10 f q s
  unfolding code10
  ten_same =
      ap (λ (x : Answer). cond (ltb end_of_clock s.slot) (refused 10 0) x)
      (given_first_same 10 (bad_place f r s) (bad_place f q s) most_flows most_flows refl (λ i h. bad_same i))

  eleven_same : code11 f r s ≡ code11 f q s
  unfolding code11 overrun
  eleven_same =
      given_first_same 11 (overrun f r s) (overrun f q s) f.flows f.flows refl (λ i h. ap (λ (b : Bool). b && ltb (s.done i) (f.len i)) (due i h))

  pub answer_same : run_answer f r s ≡ run_answer f q s
  unfolding run_answer
  answer_same = λ t. cond (is_done (ten_same t)) (cond (is_done (code12 s)) (eleven_same t) (code12 s)) (ten_same t)
