-- It is told why: by the call that the definitions describe, beside their advance, and so by every two that meet their contracts. Leans on
-- Asked and Grants. Assumes nothing.
use Prim.Native.Nat.{ℕ, ◌≤◌, ◌<◌}
use mathlib.Core.Path.{◌≡◌, sym, ◌∙◌, ap, ap₂, subst}
use mathlib.Core.Bool.{Bool, true, false, ◌&&◌}
use mathlib.Core.Logic.{◌↔◌}
use native.Mathlib.Omega.{arith}
use lib.ListN.{length, get_or}
use borrow.Author.Tests.{le-leb, lt-leb}
use Rattle.trade.specs.Bytes.{over}
use Rattle.trade.specs.Conflict.{conflict}
use Rattle.trade.specs.Answers.{done, refused}
use Rattle.trade.specs.Codes.{code15_removing}
use Rattle.trade.specs.Slot.{next_step, greedy, among}
use Rattle.trade.specs.Calls.{Advancing, Advanced, flows_granted, flows_granted_by, advance_answer, next_area, grants_in, grants_in_by, advance_by}
use Rattle.trade.specs.Why.{blocks, answer_of, Asking, asked_due, ask_answer, ask_of}
use Rattle.trade.specs.declared.answer.Answer.{Answer}
use Rattle.trade.specs.declared.state.Grant.{Grant}
use Rattle.trade.specs.declared.node.Transmission.{Transmission}
use Rattle.trade.specs.declared.told.Told.{Told}
use Rattle.trade.proofs.First.{not_both, and_true, first_before, first_holds, first_unique}
use Rattle.trade.proofs.Order.{among_at, place_of}
use Rattle.trade.proofs.Answers.{given_true, given_false}
use Rattle.trade.proofs.Valid.{same_flow}
use Rattle.trade.proofs.SlotLaws.{greedy_refuses}
use Rattle.trade.proofs.Why.{blocked_above, blocker_is}
use Rattle.response.proofs.Cases.{by_test, by_order}
use Rattle.response.proofs.Granted.{granted_below, granted_unfinished, granted_free}
use Rattle.promise.specs.Demands.{planner, Done, Refused, Always, grant_at, step_grant}
use Rattle.promise.specs.Why.{asks, slot_asked, next_grant, Released, Unfinished, SameSlot, Beside, GrantsFlow, Blocks, WaitsOn, TellsWhy}
use Rattle.promise.proofs.Meets.{by_definition, by_meeting}
use Rattle.promise.proofs.Exact.{planner_keeps_demand_2}
use Rattle.promise.proofs.Grants.{slot_grant}
use Rattle.promise.proofs.Asked.{handed, place_rule, ask_refused, ask_place, advance_done, facts, run, goes, Runs, runs, ask_listed, told_early, told_had, works, told_goes, told_waits, Tells, tells_waits, tells, by_early, by_had, by_goes, told_done, refused_told, read_back}

-- what is asked about, and the advance of its slot
module _ (a : Asking) (advanced : Advanced) (same : SameSlot planner.advance a advanced) where
  answer_is : advanced.answer ≡ advance_answer (handed a same.grants)
  unfolding advance_by
  answer_is = ap (λ (given : Advanced). given.answer) same.gives

  -- THE REFUSALS
  ask_done : Done (ask_answer a) → Done advanced.answer
  ask_done e = rw answer_is (advance_done a same.grants same.room e)

  place_decides : Done advanced.answer → ask_answer a ≡ place_rule a
  place_decides e = ask_place a same.grants same.room (rw answer_is at e)

  listed_done : Done advanced.answer → a.place < (facts a).flows → Done (ask_answer a)
  unfolding code15_removing
  listed_done e h = ap (λ (r : Answer). r.code) (place_decides e ∙ given_false 15 _ 0 (lt-leb (facts a).flows a.place h))

  unlisted : Done advanced.answer → (facts a).flows ≤ a.place → ask_answer a ≡ refused 15 0
  unfolding code15_removing
  unlisted e h = place_decides e ∙ given_true 15 _ 0 (le-leb (facts a).flows a.place h)

  as_advance : Refused advanced.answer → ask_of a ≡ Told.Refused advanced.answer
  as_advance n = (refused_told a advanced.answer).1 (n, ask_refused a same.grants same.room (rw answer_is at n) ∙ sym answer_is)

  by_place : Done advanced.answer → (r : Answer) → (ask_of a ≡ Told.Refused r) ↔ ((r ≡ refused 15 0) × ((facts a).flows ≤ a.place))
  by_place e r = (
    λ q.
        let (n, is) = (refused_told a r).0 q in
        by_order (facts a).flows a.place (λ past. (sym is ∙ unlisted e past, past))
        (λ listed. absurd (n (ap (λ (x : Answer). x.code) (sym is) ∙ listed_done e listed))),
    λ (is, past). (refused_told a r).1 (λ z. omega (arith, ap (λ (x : Answer). x.code) is), unlisted e past ∙ sym is),
  )

  -- THE GRANTS of an advance that is done: it counts the flows that go, and grant j is the next step of the j-th
  module _ (e : Done advanced.answer) where
    slot_runs : Runs a
    slot_runs = runs a same.grants (rw answer_is at e)

    leaves :
        let x : Advancing = handed a same.grants in
        advanced ≡ record { answer = done (length (flows_granted x)); area = over (next_area x) a.area; grants = over (grants_in x) same.grants }
    leaves = planner_keeps_demand_2.grants (handed a same.grants) advanced same.gives (rw answer_is at e)

    counts_goes : advanced.answer.number ≡ length (goes a)
    unfolding flows_granted_by
    counts_goes = ap (λ (given : Advanced). given.answer.number) leaves

    grant_is : (j : ℕ) → j < length (goes a) → grant_at advanced.grants j ≡ next_grant a (get_or (goes a) j 0)
    unfolding over grants_in_by flows_granted_by
    grant_is j h =
        ap (λ (given : Advanced). grant_at given.grants j) leaves
        ∙ slot_grant greedy (facts a) slot_runs.valid (slot_asked a) slot_runs.clock (run a) _ j h

    -- a flow that goes has a grant
    goes_granted : (i : ℕ) → among (goes a) i ≡ true → (j : ℕ) × GrantsFlow a advanced i j
    unfolding step_grant
    goes_granted i g =
        let (j, h, is) = place_of (goes a) i g in (
          j,
          record {
            listed = granted_below greedy (facts a) (asked_due a) (run a) i g;
            done = e;
            counted = omega (arith, counts_goes);
            id = ap (λ (grant : Grant). grant.id) (grant_is j h) ∙ ap (facts a).id is;
          },
        )

  -- and a flow that has a grant goes, since no other has its id; the grant is its next step
  granted_goes : (i j : ℕ) → GrantsFlow a advanced i j → (among (goes a) i ≡ true) × (grant_at advanced.grants j ≡ next_grant a i)
  unfolding step_grant
  granted_goes i j g =
      let e : Done advanced.answer = g.done in
      let k : ℕ = get_or (goes a) j 0 in
      let h : j < length (goes a) = omega (arith, g.counted, counts_goes e) in
      let m : among (goes a) k ≡ true = among_at (goes a) j h in
      let is : k ≡ i
      = same_flow (facts a) (slot_runs e).valid k i (granted_below greedy (facts a) (asked_due a) (run a) k m) g.listed
      (sym (ap (λ (grant : Grant). grant.id) (grant_is e j h)) ∙ g.id) in
      (ap (among (goes a)) (sym is) ∙ m, grant_is e j h ∙ ap (next_grant a) is)

  -- it has been released, since it is idle before
  by_grant : (ask_of a ≡ Told.Granted) ↔ ((j : ℕ) × GrantsFlow a advanced a.place j)
  by_grant = (
    λ q. let (e, g) = by_goes (subst (Tells a) q (tells a)) in goes_granted (ask_done e) a.place g,
    λ (j, g).
        let (m, is) = granted_goes a.place j g in
        let busy : Unfinished a = granted_unfinished greedy (facts a) (asked_due a) (run a) a.place m in
        let come : Released a
        = by_order ((facts a).phase a.place) (slot_asked a) (λ come. come)
        (λ early. absurd (omega (arith, (slot_runs g.done).idle a.place g.listed early))) in
        told_goes a (listed_done g.done g.listed) come busy m,
  )

  -- THE BLOCKERS are those of the definition
  abbrev blocks_it : ℕ → Bool
  blocks_it = blocks (facts a) (asked_due a) (run a) a.place

  abbrev meets : Transmission → Bool
  meets t = conflict (facts a).disturbs t (next_grant a a.place).transmission

  blocks_goes : (h : ℕ) → Blocks a advanced h → (among (goes a) h ≡ true) × (meets (next_grant a h).transmission ≡ true)
  blocks_goes h b =
      let (g, is) = granted_goes h b.grant b.granted in
      (g, ap (λ (grant : Grant). meets grant.transmission) (sym is) ∙ b.conflicts)

  blocks_true : (h : ℕ) → Blocks a advanced h → blocks_it h ≡ true
  unfolding blocks next_step step_grant
  blocks_true h b = let (g, c) = blocks_goes h b in ap₂ ◌&&◌ g c

  true_blocks : Done advanced.answer → (h : ℕ) → blocks_it h ≡ true → Blocks a advanced h
  unfolding blocks next_step step_grant
  true_blocks e h t =
      let (g, c) = and_true (among (goes a) h) (meets (next_grant a h).transmission) t in
      let (j, grants) = goes_granted e h g in
      record {
        grant = j;
        granted = grants;
        conflicts = ap (λ (grant : Grant). meets grant.transmission) (granted_goes h j grants).1 ∙ c;
      }

  -- a flow that goes has none above it
  blocked_stays : (h : ℕ) → h < a.place → Blocks a advanced h → among (goes a) a.place ≡ false
  unfolding next_step step_grant
  blocked_stays h above b =
      let (g, c) = blocks_goes h b in
      by_test (among (goes a) a.place)
      (λ m. absurd (not_both c (granted_free greedy (facts a) (asked_due a) (run a) greedy_refuses h a.place above g m)))
      (λ n. n)

  by_waits : {h : ℕ} → Tells a (Told.WaitingOn h) → WaitsOn a advanced h
  by_waits (tells_waits h e come busy g is) =
      let listed : a.place < (facts a).flows = ask_listed a e in
      let above : h < a.place
      = omega (
        arith,
        blocked_above (facts a) (asked_due a) (run a) a.place listed (works a e come busy) g,
        blocker_is (facts a) (asked_due a) (run a) a.place listed (works a e come busy) g,
      ) in
      record {
        listed = listed;
        released = come;
        unfinished = busy;
        above = above;
        blocks = true_blocks (ask_done e) h (rw is (first_holds blocks_it (facts a).flows (omega arith)));
        first = λ k before b. not_both (blocks_true k b) (first_before blocks_it (facts a).flows k (omega arith));
      }

  by_blocker : (h : ℕ) → (ask_of a ≡ Told.WaitingOn h) ↔ WaitsOn a advanced h
  by_blocker h = (
    λ q. by_waits (subst (Tells a) q (tells a)),
    λ w.
        let e : Done advanced.answer = w.blocks.granted.done in
        told_waits a (listed_done e w.listed) w.released w.unfinished (blocked_stays h w.above w.blocks)
        ∙ ap Told.WaitingOn
        (first_unique blocks_it (facts a).flows h (omega (arith, w.above, w.listed))
        (λ k before. by_test (blocks_it k) (λ t. absurd (w.first k before (true_blocks e k t))) (λ n. n))
        (λ l. blocks_true h w.blocks)),
  )

  one_named :
      Done (answer_of (ask_of a))
      → Released a
      → Unfinished a
      → ((j : ℕ) → GrantsFlow a advanced a.place j → ⊥)
      → (h : ℕ) × (ask_of a ≡ Told.WaitingOn h)
  one_named d come busy none =
      let e = (told_done (tells a) d).0 in
      by_test (among (goes a) a.place) (λ g. let (j, grants) = goes_granted (ask_done e) a.place g in absurd (none j grants))
      (λ g. (_, told_waits a e come busy g))

-- IT IS TOLD WHY by the call that the definitions describe, beside their advance,
pub planner_tells_why : TellsWhy planner.advance asks
planner_tells_why =
    record {
      refuses = by_definition ask_of _ refused_told;
      refuses_as_advance = by_definition ask_of _ as_advance;
      refuses_place = by_definition ask_of _ by_place;
      one = by_definition ask_of _ (λ a d. (told_done (tells a) d).1);
      not_released = by_definition ask_of _ (λ a d. (λ q. by_early (subst (Tells a) q (tells a)), told_early a (told_done (tells a) d).0));
      finished =
          by_definition ask_of _
          (λ a d. (
            λ q. by_had (subst (Tells a) q (tells a)),
            λ (come, all). told_had a (told_done (tells a) d).0 come (omega arith),
          ));
      granted = by_definition ask_of _ by_grant;
      waiting = by_definition ask_of _ by_blocker;
      named = by_definition ask_of _ one_named;
      next = by_definition ask_of _ (λ a advanced same i j g. (granted_goes a advanced same i j g).1);
      known = by_definition ask_of _ (λ a. read_back (tells a));
    }

-- and so by every call that meets its contract, beside every advance that meets its own
module _
    {advance : Advancing → Advanced → Type 0} {ask : Asking → Told → Type 0}
    (advances : Always advance planner.advance) (answers : Always ask asks)
  where
    beside : {so : Asking → Told → Advanced → Type 0} → Beside planner.advance asks so → Beside advance ask so
    beside h a told c advanced same =
        h a told (answers a told c) advanced (record { grants = same.grants; room = same.room; gives = advances _ advanced same.gives })

    pub tells_why : TellsWhy advance ask
    tells_why =
        let d : TellsWhy planner.advance asks = planner_tells_why in
        record {
          refuses = by_meeting answers d.refuses;
          refuses_as_advance = beside d.refuses_as_advance;
          refuses_place = beside d.refuses_place;
          one = by_meeting answers d.one;
          not_released = by_meeting answers d.not_released;
          finished = by_meeting answers d.finished;
          granted = beside d.granted;
          waiting = beside d.waiting;
          named = beside d.named;
          next = beside d.next;
          known = by_meeting answers d.known;
        }
