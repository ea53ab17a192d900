-- A slot over the sections of a book: the run that was read is the area's, what is due in it is due by the phases, the flows chosen are
-- those granted, and the run that is written goes on from it. Leans on the trade's Prefix, on the slot's laws and the area's. Assumes
-- nothing.
use Prim.Native.Nat.{ℕ, suc, ◌+◌, ◌-◌, ◌*◌, ◌/◌, ◌≤◌, ◌<◌}
use mathlib.Core.Path.{◌≡◌, refl, sym, ◌∙◌, ap, ap₂}
use mathlib.Core.Bool.{Bool, true, false, cond}
use mathlib.Core.Logic.{⊎_elim}
use mathlib.Core.List.{List, [], ◌∷◌, ◌++◌}
use native.Mathlib.Nat.{add-zero}
use native.Mathlib.Omega.{arith}
use lib.Dec.{ltb}
use lib.ListN.{length}
use borrow.Author.Tests.{lt-ltb, le-ltb, ltb-true}
use Rattle.trade.specs.Limits.{most_flows, grant_bytes, end_of_clock}
use Rattle.trade.specs.Bytes.{two_bytes, four_bytes, bit, over}
use Rattle.trade.specs.Layout.{field}
use Rattle.trade.specs.Facts.{Facts, facts_of, facts_in, flow_in, step_of}
use Rattle.trade.specs.Interference.{one}
use Rattle.trade.specs.Slot.{State, Releases, released, instance_at, releases_of, done_now, unfinished, next_step, greedy, granted_by, granted, among, next_state_by, next_state, grant_of, grants_of}
use Rattle.trade.specs.Area.{state_in, area_of}
use Rattle.trade.specs.Answers.{done, refused, is_done}
use Rattle.trade.specs.Refusals.{answer_of}
use Rattle.trade.specs.SlotCodes.{bad_place, overrun, code10, code11, code12}
use Rattle.trade.specs.declared.answer.Answer.{Answer}
use Rattle.trade.specs.declared.clock.Slot.{Slot}
use Rattle.trade.specs.declared.refusal.Refusal.{Refusal}
use Rattle.trade.specs.declared.state.Run.{Run}
use Rattle.trade.proofs.First.{bool_cases, lt_or_ge}
use Rattle.trade.proofs.Answers.{given_first_same}
use Rattle.trade.proofs.Refusals.{refuses}
use Rattle.trade.proofs.Area.{place_byte}
use Rattle.trade.proofs.SlotLaws.{going_below}
use Rattle.trade.proofs.Alike.{alike_self}
use Rattle.trade.proofs.Prefix.{Level, greedy_local, alike_granted, grants_among}
use Rattle.sections.specs.Formed.{Formed}
use Rattle.slot.specs.States.{place_of, state_of, slot_in, once_made, none_due, bytes_of}
use Rattle.slot.specs.Choice.{sent_at, Chooses}
use Rattle.slot.specs.declared.choice.Choice.{Choice}
use Rattle.slot.specs.Release.{instance_by}
use Rattle.slot.specs.Granting.{places_in, grant_by, grant_for, Granting, Grants}
use Rattle.slot.specs.declared.granting.Outcome.{Outcome}
use Rattle.slot.proofs.Places.{area_same}
use Rattle.slot.proofs.GrantingLaws.{places_chosen, places_past, going_few}
use Rattle.area.specs.Area.{HeldIn}
use Rattle.area.specs.Refusals.{run_answer}
use Rattle.area.specs.Dues.{FirstReleases, AfterReleases}
use Rattle.area.proofs.RefusalsLaws.{slot_runs, unused_zero}
use Rattle.run.specs.Calls.{slot_answer, slot_granted, RunsSlot}

module _
    (flows : ℕ) (rows records steps area : List ℕ) (few : flows ≤ most_flows)
    (run : Run) (held : HeldIn area run)
  where
    -- what the sections say, and what their records alone do
    abbrev facts : Facts
    facts = facts_in 0 flows rows records steps

    abbrev part : Facts
    part = facts_in 0 flows [] records []

    -- the run of the area, and what is due in its slot
    abbrev state : State
    state = state_in area

    abbrev due : Releases
    due = releases_of facts state

    -- what is due in the run that was read
    abbrev read : Releases
    read = releases_of part (state_of run)

    bad_read : (i : ℕ) → i < most_flows → bad_place part read (state_of run) i ≡ bad_place facts due state i
    unfolding bad_place facts_of state_of
    bad_read i h =
        ⊎_elim (λ (l : i < flows). rw (lt-ltb i flows l, held.slot, held.places i h))
        (λ (l : flows ≤ i). rw (le-ltb i flows l, held.places i h))
        (lt_or_ge i flows)

    overrun_read : (i : ℕ) → i < flows → overrun part read (state_of run) i ≡ overrun facts due state i
    unfolding overrun released facts_of state_of
    overrun_read i h = rw (held.slot, held.places i (omega arith))

    ten : code10 part read (state_of run) ≡ code10 facts due state
    unfolding code10 state_of
    ten =
        ap₂ (λ (v : ℕ) (r : Answer). cond (ltb end_of_clock v) (refused 10 0) r) held.slot
        (given_first_same 10 (bad_place part read (state_of run)) (bad_place facts due state) most_flows most_flows refl bad_read)

    twelve : code12 (state_of run) ≡ code12 state
    unfolding code12 state_of
    twelve = rw held.slot

    eleven : code11 part read (state_of run) ≡ code11 facts due state
    unfolding code11 facts_of
    eleven = given_first_same 11 (overrun part read (state_of run)) (overrun facts due state) flows flows refl overrun_read

    -- the run that an area holds is refused as the run that was read from it
    pub read_answer : run_answer part read (state_of run) ≡ slot_answer facts area
    unfolding run_answer
    read_answer = λ t. cond (is_done (ten t)) (cond (is_done (twelve t)) (eleven t) (twelve t)) (ten t)

    -- where it is refused, both buffers stay
    pub stopped : (room : List ℕ) (refusal : Refusal) → answer_of refusal ≡ run_answer part read (state_of run) → RunsSlot facts area room (answer_of refusal) area room
    stopped room refusal e =
        record {
          refused = λ n. (e ∙ read_answer, refl, refl);
          answer = λ z. absurd (runs z);
          area = λ z. absurd (runs z);
          grants = λ z. absurd (runs z);
        }
      where
        runs : (slot_answer facts area).code ≡ 0 → ⊥
        runs z = refuses refusal (ap (λ (r : Answer). r.code) (e ∙ read_answer) ∙ z)

    -- the run after its releases
    module _ (after : Run) (made : AfterReleases part run after) where
      pub done_is : (i : ℕ) → i < flows → place_of after.flows i ≡ done_now due state i
      unfolding done_now released facts_of state_of
      done_is i h = made.places i h ∙ rw (held.slot, held.places i (omega arith))

      level : Level flows (once_made due) due (state_of after) state
      unfolding done_now state_of
      level = record { done = done_is; instance = λ i h. refl }

      next_is : (i : ℕ) → i < flows → next_step facts none_due (state_of after) i ≡ next_step facts due state i
      unfolding next_step done_now state_of
      next_is i h = ap (step_of facts i) (done_is i h)

      -- the same flows go
      pub granted_is : granted facts none_due (state_of after) ≡ slot_granted facts area
      unfolding granted_by greedy unfinished next_step done_now facts_of
      granted_is = alike_granted greedy greedy_local flows facts facts (alike_self flows facts) (once_made due) due (state_of after) state level refl refl

      module _ (choice : Choice) (chosen : Chooses facts (state_of after) choice) where
        goes_is : (i : ℕ) → bit choice.places i ≡ among (slot_granted facts area) i
        goes_is i = chosen.goes i ∙ ap (λ (is : List ℕ). among is i) granted_is

        busy : (i : ℕ) → bit choice.places i ≡ true → (i < flows) × (place_of after.flows i < field records i 4)
        unfolding granted_by unfinished done_now state_of facts_of
        busy i e =
            let (below, work) = going_below (greedy facts none_due (state_of after)) (unfinished facts none_due (state_of after)) flows i (sym (chosen.goes i) ∙ e) in
            (below, ltb-true (place_of after.flows i) (field records i 4) work)

        -- of the places, none is past the flows
        places_are : places_in choice.places most_flows ≡ slot_granted facts area
        unfolding granted_by facts_of
        places_are =
            let n : ℕ = most_flows - flows in
            let e : flows + n ≡ most_flows = omega arith in
            rw e at (places_past choice.places flows n (λ i l. none_past i l))
            ∙ places_chosen (greedy facts due state) (unfinished facts due state) choice.places flows goes_is flows (omega arith)
          where
            none_past : (i : ℕ) → flows ≤ i → bit choice.places i ≡ false
            none_past i l =
                ⊎_elim (λ (e : bit choice.places i ≡ true). absurd (omega (arith, (busy i e).0))) (λ e. e) (bool_cases (bit choice.places i))

        pub grants_asked :
            Formed flows rows records steps
            → (slot_answer facts area).code ≡ 0
            → choice.places < 4294967296
            → (room : ℕ)
            → grant_bytes * flows ≤ room
            → Granting records after choice room
        unfolding granted_by facts_of
        grants_asked formed passes fits room h =
            record {
              places = fits;
              recorded = λ i e. omega (arith, (busy i e).0, formed.recorded);
              period = λ i e. (formed.fields i (busy i e).0).period.0;
              unfinished = λ i e. omega (arith, (busy i e).1, (formed.fields i (busy i e).0).len.1);
              sent = chosen.size;
              size = made.size ∙ held.size;
              slot = rw (made.slot, held.slot) (slot_runs facts due state passes);
              grants = omega (arith, ap length places_are, going_few (greedy facts due state) (unfinished facts due state) flows, h);
            }

        module _ (passes : (slot_answer facts area).code ≡ 0) (firsts : List Slot) (phases : FirstReleases part firsts) (room : List ℕ) (out : Outcome) (left : List ℕ) (gave : Grants records firsts after choice room out left) where
          first_is : (i : ℕ) → i < flows → slot_in firsts i ≡ field records i 1
          unfolding facts_of
          first_is i h = phases.phases i h

          grant_is : (i : ℕ) → among (slot_granted facts area) i ≡ true → grant_for records firsts after choice i ≡ grant_of facts due state i
          unfolding grant_for grant_by bytes_of instance_by flow_in grant_of instance_at granted_by facts_of slot_in place_of
          grant_is i m =
              let h : i < flows = (going_below (greedy facts due state) (unfinished facts due state) flows i m).0 in
              let sends : sent_at choice.sent i ≡ next_step facts due state i =
              chosen.sends i ∙ rw (sym (chosen.goes i) ∙ goes_is i ∙ m) (next_is i h) in
              let v = ap₂ (λ (v w : ℕ). (v - w) / field records i 2) (made.slot ∙ held.slot) (first_is i h) in
              λ t.
              two_bytes (field records i 0)
              ++ four_bytes (v t)
              ++ (done_is i h t ∷ (sends t).sender.0 ∷ (sends t).receiver.0 ∷ [])

          -- an unused place stays 0
          stays : (i : ℕ) → i < most_flows → flows ≤ i → place_of after.flows i + one (bit choice.places i) ≡ 0
          unfolding one facts_of
          stays i h l =
              ⊎_elim (λ (e : bit choice.places i ≡ true). absurd (omega (arith, (busy i e).0)))
              (λ (e : bit choice.places i ≡ false).
              rw (e, add-zero (place_of after.flows i)) (made.others i l ∙ held.places i h ∙ unused_zero facts due state passes i h l))
              (bool_cases (bit choice.places i))

          slot_is : (state_of out.run).slot ≡ (next_state facts due state).slot
          unfolding state_of next_state_by
          slot_is = gave.slot ∙ ap suc (made.slot ∙ held.slot)

          places_out : (i : ℕ) → i < most_flows → (state_of out.run).done i ≡ place_byte flows (next_state facts due state) i
          unfolding state_of next_state_by
          places_out i h =
              ⊎_elim
              (λ (l : i < flows). rw (lt-ltb i flows l) (gave.places i ∙ ap₂ (λ (d : ℕ) (b : Bool). d + one b) (done_is i l) (goes_is i)))
              (λ (l : flows ≤ i). rw (le-ltb i flows l) (gave.places i ∙ stays i h l))
              (lt_or_ge i flows)

          pub ran : RunsSlot facts area room (done out.count) (over (area_of most_flows (state_of out.run)) area) left
          unfolding facts_of
          ran =
              record {
                refused = λ n. absurd (n passes);
                answer = λ z. ap done (gave.count ∙ ap length places_are);
                area = λ z. ap (λ (bytes : List ℕ). over bytes area) (area_same flows (state_of out.run) (next_state facts due state) slot_is places_out);
                grants =
                    λ z.
                    gave.grants
                    ∙ ap (λ (bytes : List ℕ). over bytes room)
                    (ap (grants_of (grant_for records firsts after choice)) places_are
                    ∙ grants_among (grant_for records firsts after choice) (grant_of facts due state) (slot_granted facts area) grant_is);
              }
