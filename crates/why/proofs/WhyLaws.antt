-- What is told of a flow, by the parts that the code has of it: the flows that go and what they send; the run that was read from an area; and the
-- rules in their order. Leans on the trade's Why, on the slot's ChoiceLaws and on the run's laws. Assumes nothing.
use Prim.Native.Nat.{ℕ, ◌≤◌, ◌<◌}
use mathlib.Core.Path.{◌≡◌, refl, sym, ◌∙◌, ap, ap₂}
use mathlib.Core.Bool.{true, false, ◌&&◌, ◌||◌}
use mathlib.Core.List.{List, []}
use mathlib.Core.Logic.{⊎_elim}
use native.Mathlib.Omega.{arith}
use borrow.Author.Tests.{lt-ltb, lt-leb, le-leb, ltb-true}
use lib.Dec.{leb}
use Rattle.trade.specs.Limits.{most_flows}
use Rattle.trade.specs.First.{first, sum_to}
use Rattle.trade.specs.Bytes.{bit}
use Rattle.trade.specs.Layout.{field}
use Rattle.trade.specs.Facts.{Facts, facts_in, facts_of, first_step, disturbs_in}
use Rattle.trade.specs.Conflict.{conflict}
use Rattle.trade.specs.Slot.{State, releases_of, done_now, unfinished, next_step, greedy, granted_by, granted, among}
use Rattle.trade.specs.Answers.{refused}
use Rattle.trade.specs.Area.{state_in}
use Rattle.trade.specs.Why.{blocks, why}
use Rattle.trade.specs.declared.node.Transmission.{Transmission}
use Rattle.trade.specs.declared.answer.Answer.{Answer}
use Rattle.trade.specs.declared.clock.Slot.{Slot}
use Rattle.trade.specs.declared.state.Run.{Run}
use Rattle.trade.specs.declared.told.Told.TheVariants.{Refused, WaitingOn}
use Rattle.trade.proofs.First.{bool_cases, first_cong}
use Rattle.trade.proofs.Answers.{done_first, refused_second}
use Rattle.trade.proofs.SlotLaws.{going_below}
use Rattle.trade.proofs.Why.{begun_is, tells_waiting, blocked_above, blocker_is, why_same}
use Rattle.nodes.specs.Network.{Within}
use Rattle.plans.specs.Plan.{plan_step}
use Rattle.sections.specs.Formed.{Formed}
use Rattle.slot.specs.States.{none_due, state_of, slot_in}
use Rattle.slot.specs.Choice.{next_of, sent_at, Chooses}
use Rattle.slot.specs.declared.choice.Choice.{Choice}
use Rattle.slot.proofs.ChoiceLaws.{turn_next, next_within}
use Rattle.area.specs.Area.{HeldIn}
use Rattle.area.specs.Dues.{FirstReleases, AfterReleases}
use Rattle.run.specs.Calls.{slot_answer}
use Rattle.run.proofs.RunSlotLaws.{done_is, granted_is}
use Rattle.why.specs.Told.{Blockers, begun_by, told_in}

-- OF ONE FLOW, whose first release has come
module _ (flows : ℕ) (rows records steps : List ℕ) (formed : Formed flows rows records steps) (state : State) (place : ℕ) (there : place < flows) where
  abbrev facts : Facts
  facts = facts_in 0 flows rows records steps

  module _ (choice : Choice) (chosen : Chooses facts state choice) where
    -- its bit says whether it is granted
    pub goes_is : (i : ℕ) → bit choice.places i ≡ among (granted facts (begun_by true) state) i
    unfolding granted_by greedy unfinished next_step done_now
    goes_is i = chosen.goes i

    -- what is sent is in the network
    sends_is : (h : ℕ) → bit choice.places h ≡ true → sent_at choice.sent h ≡ next_step facts none_due state h
    sends_is h e = chosen.sends h ∙ rw (sym (chosen.goes h) ∙ e) refl

    sends_within : (h : ℕ) → bit choice.places h ≡ true → Within rows (sent_at choice.sent h)
    unfolding granted_by unfinished done_now facts_of
    sends_within h e =
        let (below, work) = going_below (greedy facts none_due state) (unfinished facts none_due state) flows h (sym (chosen.goes h) ∙ e) in
        rw (sends_is h e) (next_within flows rows records steps state formed h below (ltb-true (state.done h) (field records h 4) work))

    module _ (step : Transmission) (busy : state.done place < field records place 4) (is : step ≡ plan_step steps (sum_to (λ i. field records i 4) place) (field records place 4) (state.done place)) where
      step_is : step ≡ next_step facts none_due state place
      unfolding next_of first_step facts_of
      step_is = is ∙ turn_next flows rows records steps state formed place there busy

      pub may_block : Blockers rows choice step place
      may_block =
          record {
            places = omega (arith, formed.most);
            sent = chosen.size;
            asked = rw step_is (next_within flows rows records steps state formed place there busy);
            sends = sends_within;
          }

      -- a place above blocks as its definition says
      blocks_is :
          (h : ℕ)
          → (bit choice.places h && conflict (disturbs_in rows) (sent_at choice.sent h) step) ≡ blocks facts (begun_by true) state place h
      unfolding blocks next_step done_now facts_of
      blocks_is h =
          ⊎_elim
          (λ (e : bit choice.places h ≡ true).
          ap₂ ◌&&◌ (goes_is h) (ap₂ (conflict (disturbs_in rows)) (sends_is h e) step_is))
          (λ (e : bit choice.places h ≡ false). rw (e, sym (goes_is h) ∙ e) refl)
          (bool_cases (bit choice.places h))

      module _ (waits : bit choice.places place ≡ false) where
        open_still : unfinished facts (begun_by true) state place ≡ true
        unfolding unfinished done_now facts_of
        open_still = lt-ltb (state.done place) (field records place 4) busy

        left_out : among (granted facts (begun_by true) state) place ≡ false
        left_out = sym (goes_is place) ∙ waits

        in_flows : place < facts.flows
        unfolding facts_of
        in_flows = there

        abbrev found : ℕ
        found = first (λ h. bit choice.places h && conflict (disturbs_in rows) (sent_at choice.sent h) step) place

        same_first : found ≡ first (blocks facts (begun_by true) state place) place
        same_first = first_cong _ (blocks facts (begun_by true) state place) place (λ h l. blocks_is h)

        pub found_above : found < place
        found_above = rw same_first (blocked_above facts (begun_by true) state place in_flows open_still left_out)

        pub told_waiting : why facts (begun_by true) state place ≡ WaitingOn found
        told_waiting =
            tells_waiting facts (begun_by true) state place refl open_still left_out
            ∙ ap WaitingOn (blocker_is facts (begun_by true) state place in_flows open_still left_out ∙ sym same_first)

-- IN THE RUN that an area holds: it has begun if its first release has come, and what is told of the run after its releases is told of it
module _
    (flows : ℕ) (rows records steps area : List ℕ) (few : flows ≤ most_flows) (run : Run) (held : HeldIn area run) (after : Run)
    (made : AfterReleases (facts_in 0 flows [] records []) run after) (firsts : List Slot) (phases : FirstReleases (facts_in 0 flows [] records []) firsts)
    (place : ℕ) (there : place < flows)
  where
    abbrev all : Facts
    all = facts_in 0 flows rows records steps

    first_come : leb (slot_in firsts place) after.slot.0 ≡ ((releases_of all (state_in area)).due place || (releases_of all (state_in area)).begun place)
    unfolding facts_of
    first_come =
        ap₂ leb (phases.phases place there) (made.slot ∙ held.slot)
        ∙ sym (begun_is all all.phase (state_in area).slot place)

    pub told_is :
        why all (begun_by (leb (slot_in firsts place) after.slot.0)) (state_of after) place
        ≡ why all (releases_of all (state_in area)) (state_in area) place
    unfolding granted_by greedy unfinished next_step done_now state_of facts_of
    told_is =
        why_same all (begun_by (leb (slot_in firsts place) after.slot.0)) (releases_of all (state_in area)) (state_of after) (state_in area) place there first_come
        (done_is flows rows records steps area few run held after made) (granted_is flows rows records steps area few run held after made)

-- THE RULES of the slot and of the place
module _ (f : Facts) (area : List ℕ) (place : ℕ) where
  pub slot_refused : (r : Answer) → r ≡ slot_answer f area → (r.code ≡ 0 → ⊥) → Refused r ≡ told_in f area place
  unfolding told_in
  slot_refused r e n =
      ap Refused e ∙ sym (refused_second (slot_answer f area) _ (Refused (slot_answer f area)) (λ z. n (ap (λ (a : Answer). a.code) e ∙ z)))

  pub place_refused : (slot_answer f area).code ≡ 0 → f.flows ≤ place → Refused (refused 15 0) ≡ told_in f area place
  unfolding told_in
  place_refused z l = sym (done_first (slot_answer f area) _ _ z ∙ rw (le-leb f.flows place l) refl)

  pub place_told : (slot_answer f area).code ≡ 0 → place < f.flows → why f (releases_of f (state_in area)) (state_in area) place ≡ told_in f area place
  unfolding told_in
  place_told z l = sym (done_first (slot_answer f area) _ _ z ∙ rw (lt-leb f.flows place l) refl)
