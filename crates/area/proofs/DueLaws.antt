-- One look at every flow of a slot, one flow at a time: what is seen of the flows passed is their releases, and whether a rule may refuse
-- the run. Leans on the slot's Places and on RefusalsLaws. Assumes nothing.
use Prim.Native.Nat.{ℕ, ◌+◌, ◌-◌, ◌%◌, ◌≤◌, ◌<◌}
use mathlib.Core.Path.{◌≡◌, refl, sym, ◌∙◌, ap}
use mathlib.Core.Bool.{Bool, true, false, ◌&&◌, ◌||◌}
use mathlib.Core.List.{List, []}
use native.Mathlib.Omega.{arith}
use lib.Dec.{eqb, leb, ltb}
use lib.ListN.{length, get_or, set, length-set, replicate}
use borrow.Author.Count.{below_more}
use borrow.Author.Tests.{lt-ltb, ltb-false}
use Rattle.trade.specs.Limits.{most_flows, last_slot}
use Rattle.trade.specs.Answers.{done}
use Rattle.trade.specs.Layout.{field}
use Rattle.trade.specs.Facts.{Facts, facts_of, facts_in, flow_in}
use Rattle.trade.specs.Run.{idle_of}
use Rattle.trade.specs.Slot.{State, Releases, released, releases_of, done_now}
use Rattle.trade.specs.declared.clock.Slot.{Slot}
use Rattle.trade.specs.SlotCodes.{bad_place, overrun}
use Rattle.trade.specs.declared.flow.Flow.{Flow}
use Rattle.trade.specs.declared.state.Progress.{Progress}
use Rattle.trade.specs.declared.state.Run.{Run}
use Rattle.trade.proofs.First.{or_false}
use Rattle.slot.proofs.Places.{stored, unstored, slots_none, slot_stored, slot_unstored}
use Rattle.slot.specs.States.{place_of, state_of, slot_in}
use Rattle.slot.specs.Release.{released_at}
use Rattle.area.specs.Refusals.{bad_at, run_answer}
use Rattle.area.specs.Dues.{due_by, FirstReleases, AfterReleases}
use Rattle.area.proofs.RefusalsLaws.{run_clear, answer_same}

module _ (flows : ℕ) (records : List ℕ) (run : Run) where
  -- what the records say, and the run as a state
  abbrev facts : Facts
  facts = facts_in 0 flows [] records []

  abbrev state : State
  state = state_of run

  abbrev due : Releases
  due = releases_of facts state

  -- no rule refuses the run at a flow
  abbrev Clear : ℕ → Type 0
  Clear k = (bad_place facts due state k ≡ false) × (overrun facts due state k ≡ false)

  -- what is seen of the first i flows, where there was a doubt before, or none
  pub record Seen (before : Bool) (i : ℕ) (places : List Progress) (firsts : List Slot) (doubt : Bool) : Type 0 where
    pub size : length places ≡ length run.flows
    pub room : length firsts ≡ most_flows
    pub phases : (k : ℕ) → k < i → slot_in firsts k ≡ field records k 1
    pub others : (k : ℕ) → i ≤ k → slot_in firsts k ≡ 0
    pub passed : (k : ℕ) → k < i → place_of places k ≡ done_now due state k
    pub ahead : (k : ℕ) → i ≤ k → place_of places k ≡ place_of run.flows k
    pub clear : doubt ≡ false → (before ≡ false) × ((k : ℕ) → k < i → Clear k)

  pub seen_none : (before : Bool) → Seen before 0 run.flows (replicate most_flows (record { 0 = 0 })) before
  seen_none before =
      record {
        size = refl;
        room = refl;
        phases = λ k h. absurd (omega arith);
        others = λ k h. slots_none k;
        passed = λ k h. absurd (omega arith);
        ahead = λ k h. refl;
        clear = λ e. (e, λ k h. absurd (omega arith));
      }

  -- one flow more, by its record
  module _
      (before : Bool) (i : ℕ) (places : List Progress) (firsts : List Slot) (doubt : Bool)
      (so : Seen before i places firsts doubt) (few : i < most_flows) (taken : i < flows)
      (flow : Flow) (own : flow ≡ flow_in records i)
    where
      -- its first release, and how far it is
      abbrev first : Slot
      first = record { 0 = flow.phase }

      abbrev p : Progress
      p = get_or run.flows i (idle_of 0)

      abbrev released_now : Bool
      released_now = released_at first.0 flow.period run.slot.0

      abbrev bad : Bool
      bad = bad_at flow first run.slot p

      due_now : due.due i ≡ released_now
      unfolding released released_at facts_of flow_in state_of
      due_now = ap (λ (w : Flow). released_at w.phase w.period run.slot.0) (sym own)

      good_now : bad ≡ false → bad_place facts due state i ≡ false
      unfolding bad_place bad_at state_of place_of facts_of flow_in
      good_now e = rw (lt-ltb i flows taken) (rw own at e)

      -- its first release is kept
      firsts_next : (k : ℕ) → k < i + 1 → slot_in (set firsts i first) k ≡ field records k 1
      unfolding flow_in
      firsts_next =
          below_more _ _ (λ k h. slot_unstored firsts i k first (λ e. omega arith) ∙ so.phases k h)
          (slot_stored firsts i first (omega (arith, so.room)) ∙ ap (λ (w : Flow). w.phase) own)

      others_next : (k : ℕ) → i + 1 ≤ k → slot_in (set firsts i first) k ≡ 0
      others_next k h = slot_unstored firsts i k first (λ e. omega arith) ∙ so.others k (omega arith)

      room_next : length (set firsts i first) ≡ most_flows
      room_next = length-set firsts i first ∙ so.room

      -- it stays as it is,
      pub seen_stays : released_now ≡ false → Seen before (i + 1) places (set firsts i first) (doubt || bad)
      unfolding done_now overrun state_of
      seen_stays n =
          record {
            size = so.size;
            room = room_next;
            phases = firsts_next;
            others = others_next;
            passed = below_more _ _ so.passed (so.ahead i (omega arith) ∙ rw (due_now, n));
            ahead = λ k h. so.ahead k (omega arith);
            clear =
                λ e.
                let (none, good) = or_false doubt bad e in
                let (early, all) = so.clear none in
                (early, below_more _ _ all (good_now good, rw (due_now, n)));
          }

      -- or is released, and has its steps done set to 0
      pub seen_released :
          released_now ≡ true
          → i < length places
          → Seen before (i + 1) (set places i (idle_of 0)) (set firsts i first) ((doubt || bad) || ltb p.done.0 flow.len)
      unfolding done_now overrun state_of place_of facts_of flow_in
      seen_released d room =
          record {
            size = length-set places i (idle_of 0) ∙ so.size;
            room = room_next;
            phases = firsts_next;
            others = others_next;
            passed =
                below_more _ _ (λ k h. unstored places i k (idle_of 0) (λ e. omega arith) ∙ so.passed k h)
                (stored places i (idle_of 0) room ∙ rw (due_now, d));
            ahead = λ k h. unstored places i k (idle_of 0) (λ e. omega arith) ∙ so.ahead k (omega arith);
            clear =
                λ e.
                let (fine, finished) = or_false (doubt || bad) (ltb p.done.0 flow.len) e in
                let (none, good) = or_false doubt bad fine in
                let (early, all) = so.clear none in
                (early, below_more _ _ all (good_now good, rw (due_now, d) (ap (λ (w : Flow). ltb p.done.0 w.len) (sym own) ∙ finished)));
          }

  -- once all flows are seen, no doubt is left where no rule refuses the run
  pub seen_clear :
      (stray : Bool) (places : List Progress) (firsts : List Slot) (doubt : Bool)
      → Seen (ltb last_slot run.slot.0 || stray) flows places firsts doubt
      → (stray ≡ false → (k : ℕ) → flows ≤ k → k < most_flows → place_of run.flows k ≡ 0)
      → doubt ≡ false
      → run_answer facts due state ≡ done 0
  unfolding facts_of state_of
  seen_clear stray places firsts doubt so unused e =
      let (early, all) = so.clear e in
      let (soon, straight) = or_false (ltb last_slot run.slot.0) stray early in
      run_clear facts due state (ltb-false last_slot run.slot.0 soon) (λ k h. (all k h).0) (unused straight) (λ k h. (all k h).1)

  -- and what is due is known
  module _ (before : Bool) (places : List Progress) (firsts : List Slot) (doubt : Bool) (so : Seen before flows places firsts doubt) where
    pub seen_after : (slot : Slot) → slot ≡ run.slot → AfterReleases facts run (record { slot = slot; flows = places })
    unfolding facts_of state_of
    seen_after slot stays = record { slot = ap (λ (v : Slot). v.0) stays; size = so.size; places = so.passed; others = so.ahead }

    pub seen_firsts : FirstReleases facts firsts
    unfolding facts_of
    seen_firsts = record { size = so.room; phases = so.phases; others = so.others }

    -- the rules read the first releases as they read the phases
    pub seen_answer : run_answer facts (due_by facts firsts run) state ≡ run_answer facts due state
    unfolding released facts_of state_of
    seen_answer =
        answer_same facts (due_by facts firsts run) due state (λ i h. ap (λ (v : ℕ). ltb v run.slot.0) (so.phases i h))
        (λ i h. ap (λ (v : ℕ). leb v run.slot.0 && eqb ((run.slot.0 - v) % field records i 2) 0) (so.phases i h))
