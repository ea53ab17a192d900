-- The choice in record order, one flow at a time: the set holds what the flows that go among those taken send, and the places are theirs.
-- Leans on the trade's Slot. Assumes nothing.
use Prim.Native.Nat.{ℕ, suc, ◌+◌, ◌^◌, ◌≤◌, ◌<◌}
use mathlib.Core.Path.{◌≡◌, refl, sym, ◌∙◌, ap}
use mathlib.Core.Bool.{Bool, true, false, cond, not, ◌&&◌, or-true, or-false}
use mathlib.Core.Logic.{⊎_elim}
use mathlib.Core.List.{List, [], ◌∷◌, ◌++◌, map, map-append}
use native.Mathlib.Omega.{arith}
use lib.Dec.{eqb, ltb}
use lib.Bits.{bit_or}
use lib.ListN.{length, replicate, length-set}
use lib.ListN as lists
use lib.Seq.{get_or-set_same, get_or-set_other}
use borrow.Author.Tests.{lt-ltb, le-ltb, ltb-true, eqb-true, eqb-false}
use Rattle.std.specs.Prelude.{Some, None}
use Rattle.trade.specs.Limits.{most_flows}
use Rattle.trade.specs.Bytes.{bit}
use Rattle.trade.specs.Layout.{field}
use Rattle.trade.specs.Facts.{Facts, facts_of, facts_in, first_step, step_of}
use Rattle.trade.specs.Slot.{State, going, greedy, granted_by, among, done_now, unfinished, next_step}
use Rattle.trade.specs.declared.node.Transmission.{Transmission}
use Rattle.trade.proofs.First.{bool_cases, and_true, lt_or_ge}
use Rattle.trade.proofs.SlotLaws.{going_goes, going_stays, among_last, among_more}
use Rattle.nodes.specs.Network.{Within}
use Rattle.nodes.specs.Grants.{Holds, Fresh, clashes_with}
use Rattle.nodes.specs.declared.grants.GrantSet.{GrantSet}
use Rattle.nodes.proofs.MaskLaws.{bit_none, bit_or_lem, bit_only}
use Rattle.plans.specs.Plan.{steps_in, no_step, plan_step}
use Rattle.sections.specs.Formed.{Formed}
use Rattle.sections.proofs.FormedLaws.{plan_ends}
use Rattle.slot.specs.States.{none_due}
use Rattle.slot.specs.Choice.{next_of, goes_now, Turning, Turned, sent_at, Chooses}
use Rattle.slot.specs.declared.choice.Turn.{Turn}
use Rattle.slot.proofs.Places.{repeated}

-- what is given under a test tells how the test came out
test_failed : {A : Type 0} (b : Bool) (x : A) → None ≡ cond b (Some x) None → b ≡ false
test_failed true x e = cc
test_failed false x e = refl

test_held : {A : Type 0} (b : Bool) (x y : A) → Some y ≡ cond b (Some x) None → (b ≡ true) × (y ≡ x)
test_held true x y e = (refl, cc)
test_held false x y e = (cc, cc)

module _ (flows : ℕ) (rows records steps : List ℕ) (state : State) where
  -- what the sections say, and the flows that go, of the first i
  abbrev facts : Facts
  facts = facts_in 0 flows rows records steps

  abbrev goers : ℕ → List ℕ
  goers i = going (greedy facts none_due state) (unfinished facts none_due state) i

  -- what is made of flows that go: the set, their places, and what they send
  pub record MadeOf (goes : List ℕ) (set : GrantSet) (places : ℕ) (sent : List Transmission) : Type 0 where
    pub holds : Holds rows set (map (next_step facts none_due state) goes)
    pub there : (k : ℕ) → bit places k ≡ among goes k
    pub size : length sent ≡ most_flows
    pub sends : (k : ℕ) → sent_at sent k ≡ cond (among goes k) (next_step facts none_due state k) no_step

  -- of the first i flows, those that go
  abbrev pub Chosen : ℕ → GrantSet → ℕ → List Transmission → Type 0
  Chosen i set places sent = MadeOf (goers i) set places sent

  pub chosen_none : (none : GrantSet) → Fresh none → Chosen 0 none 0 (replicate most_flows no_step)
  unfolding going among sent_at
  chosen_none none fresh = record { holds = fresh.holds rows; there = bit_none; size = refl; sends = λ k. repeated most_flows k no_step }

  pub chosen_all : (set : GrantSet) (places : ℕ) (sent : List Transmission) → Chosen flows set places sent → Chooses facts state (record { places = places; sent = sent })
  unfolding granted_by facts_of
  chosen_all set places sent so = record { goes = so.there; size = so.size; sends = so.sends }

  -- the step that a flow's turn may take
  module _ (formed : Formed flows rows records steps) (i : ℕ) (taken : i < flows) where
    abbrev turn : Turn
    turn = record { start = first_step facts i; len = field records i 4; done = record { 0 = state.done i } }

    pub turn_next : state.done i < field records i 4 → next_of steps turn ≡ next_step facts none_due state i
    unfolding next_of plan_step next_step done_now step_of first_step facts_of
    turn_next h =
        rw (
          lt-ltb (state.done i) (field records i 4) h,
          lt-ltb (first_step facts i + state.done i) (steps_in steps) (omega (arith, plan_ends records i flows taken, formed.planned)),
        )

    pub next_within : state.done i < field records i 4 → Within rows (next_step facts none_due state i)
    unfolding next_step done_now step_of first_step facts_of
    next_within h = formed.within (first_step facts i + state.done i) (omega (arith, plan_ends records i flows taken))

    pub turn_asks : Turning rows steps turn
    turn_asks h = rw (turn_next h) (next_within h)

    -- one turn
    module _ (set : GrantSet) (places : ℕ) (sent : List Transmission) (so : Chosen i set places sent) where
      -- the flow goes: it is unfinished, and the rule does not have it wait
      abbrev picked : Bool
      picked = unfinished facts none_due state i && not (greedy facts none_due state (goers i) i)

      busy : picked ≡ true → state.done i < field records i 4
      unfolding unfinished done_now facts_of
      busy e =
          ltb-true (state.done i) (field records i 4)
          (and_true (unfinished facts none_due state i) (not (greedy facts none_due state (goers i) i)) e).0

      goes_as : goes_now rows steps turn set ≡ picked
      unfolding goes_now unfinished greedy Holds done_now facts_of
      goes_as =
          ⊎_elim
          (λ (l : state.done i < field records i 4).
          ap (λ (b : Bool). ltb (state.done i) (field records i 4) && not b)
          (ap (clashes_with rows set) (turn_next l) ∙ so.holds (next_step facts none_due state i) (next_within l)))
          (λ (h : field records i 4 ≤ state.done i). rw (le-ltb (state.done i) (field records i 4) h))
          (lt_or_ge (state.done i) (field records i 4))

      module _ (left : GrantSet) where
        pub chosen_waits : Turned rows steps turn set None left → Chosen (suc i) left places sent
        chosen_waits turned =
            let e : picked ≡ false = sym goes_as ∙ test_failed _ _ turned.sends in
            let stay : goers (suc i) ≡ goers i = going_stays (greedy facts none_due state) (unfinished facts none_due state) i e in
            rw (stay, turned.waits (goes_as ∙ e)) so

        module _ (step : Transmission) (turned : Turned rows steps turn set (Some step) left) where
          e : picked ≡ true
          e = sym goes_as ∙ (test_held _ _ _ turned.sends).0

          next : next_of steps turn ≡ next_step facts none_due state i
          next = turn_next (busy e)

          placed : (k : ℕ) → bit (bit_or places (2 ^ i)) k ≡ among (goers i ++ (i ∷ [])) k
          placed k =
              ⊎_elim
              (λ (q : eqb i k ≡ true).
              let same : i ≡ k = eqb-true i k q in
              rw (bit_or_lem, bit_only i k, q, or-true (bit places k)) (sym (among_last (goers i) i) ∙ ap (λ (j : ℕ). among (goers i ++ (i ∷ [])) j) same))
              (λ (q : eqb i k ≡ false).
              rw (bit_or_lem, bit_only i k, q, or-false (bit places k)) (so.there k ∙ sym (among_more (goers i) i k (eqb-false i k q))))
              (bool_cases (eqb i k))

          sends_next : (k : ℕ) → sent_at (lists.set sent i step) k ≡ cond (among (goers i ++ (i ∷ [])) k) (next_step facts none_due state k) no_step
          unfolding sent_at
          sends_next k =
              ⊎_elim
              (λ (q : eqb i k ≡ true).
              let same : i ≡ k = eqb-true i k q in
              rw (← same, among_last (goers i) i)
              (get_or-set_same sent i step no_step (omega (arith, so.size, formed.most)) ∙ (test_held _ _ _ turned.sends).1 ∙ next))
              (λ (q : eqb i k ≡ false).
              rw (among_more (goers i) i k (eqb-false i k q))
              (get_or-set_other sent i k step no_step (λ z. eqb-false i k q (sym z)) ∙ so.sends k))
              (bool_cases (eqb i k))

          pub chosen_goes : Chosen (suc i) left (bit_or places (2 ^ i)) (lists.set sent i step)
          chosen_goes =
              let more : goers (suc i) ≡ goers i ++ (i ∷ []) = going_goes (greedy facts none_due state) (unfinished facts none_due state) i e in
              rw more
              (record {
                holds =
                    rw (map-append (next_step facts none_due state) (goers i) (i ∷ []), ← next)
                    ((turned.more (goes_as ∙ e)).holds (map (next_step facts none_due state) (goers i)) so.holds);
                there = placed;
                size = length-set sent i step ∙ so.size;
                sends = sends_next;
              })
