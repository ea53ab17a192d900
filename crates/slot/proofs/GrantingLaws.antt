-- The grants of the flows that go, one flow at a time: those given so far are those of the places passed, in the buffer and in number, and
-- each of these flows is one step on. Leans on Places, on the nodes' LowestLaws, and on the trade's Slot. Assumes nothing.
use Prim.Native.Nat.{ℕ, zero, suc, ◌+◌, ◌-◌, ◌*◌, ◌≤◌, ◌<◌}
use mathlib.Core.Path.{◌≡◌, refl, sym, ◌∙◌, ap}
use mathlib.Core.Bool.{Bool, true, false, not, ◌&&◌, and-true, and-false}
use mathlib.Core.Logic.{◌⊎◌, inl, inr, ⊎_elim}
use mathlib.Core.List.{List, [], ◌∷◌, ◌++◌, append-nil}
use native.Mathlib.Nat.{add-zero}
use native.Mathlib.Numerals.{add-one}
use native.Mathlib.Omega.{arith}
use lib.Dec.{leb}
use lib.Bits.{bit_and}
use lib.ListN.{length, get_or, set, take, drop, length-set, length-append}
use lib.Seq.{take-length}
use borrow.Author.Tests.{le-leb, lt-leb, leb-true, eq-eqb, ne_eqb}
use borrow.Rule.Slice.PartMut.{put_mid}
use Rattle.trade.specs.Limits.{most_flows, grant_bytes}
use Rattle.trade.specs.Bytes.{bit, two_bytes, four_bytes, over}
use Rattle.trade.specs.Facts.{flow_in}
use Rattle.trade.specs.Interference.{one}
use Rattle.trade.specs.Slot.{Rule, going, among, grants_of}
use Rattle.trade.specs.declared.clock.Slot.{Slot}
use Rattle.trade.specs.declared.state.Grant.{Grant}
use Rattle.trade.specs.declared.state.Progress.{Progress}
use Rattle.trade.specs.declared.state.Run.{Run}
use Rattle.trade.proofs.First.{bool_cases, and_true, lt_or_ge}
use Rattle.trade.proofs.SlotLaws.{going_goes, going_stays, going_stands, going_below, among_last, grants_append, length_grants}
use Rattle.trade.proofs.Bytes.{length_over}
use Rattle.nodes.proofs.MaskLaws.{bit_none}
use Rattle.nodes.proofs.LowestLaws.{Lowest}
use Rattle.numbers.specs.Pasting.{pasted_at}
use Rattle.numbers.proofs.PastingLaws.{pasted, pasted_next}
use Rattle.slot.specs.States.{place_of, bytes_of}
use Rattle.slot.specs.Choice.{sent_at}
use Rattle.slot.specs.Granting.{grant_by, grant_for, places_in, Granting, Grants}
use Rattle.slot.specs.declared.choice.Choice.{Choice}
use Rattle.slot.proofs.Places.{stored, unstored}

-- the grants of one flow more stand behind those of the others
grants_last : (grant : ℕ → List ℕ) (is : List ℕ) (i : ℕ) → grants_of grant (is ++ (i ∷ [])) ≡ grants_of grant is ++ grant i
unfolding grants_of
grants_last grant is i = grants_append grant is (i ∷ []) ∙ ap (λ (l : List ℕ). grants_of grant is ++ l) (append-nil (grant i))

-- no more flows go than are taken
pub going_few : (waits : Rule) (work : ℕ → Bool) (k : ℕ) → length (going waits work k) ≤ k
unfolding going
going_few waits work zero = omega arith
going_few waits work (suc k) =
    ⊎_elim
    (λ e. rw (going_goes waits work k e, length-append (going waits work k) (k ∷ [])) (omega (arith, going_few waits work k)))
    (λ e. rw (going_stays waits work k e) (omega (arith, going_few waits work k)))
    (bool_cases (work k && not (waits (going waits work k) k)))

-- what a part that starts at a place has in front is put into the whole
pasted_over :
    (at : ℕ) (src d : List ℕ)
    → at + length src ≤ length d
    → put_mid at (length d - at) d (over src (take (length d - at) (drop at d))) ≡ pasted_at at src d
unfolding over
pasted_over at src d h =
    sym (ap (λ (s : List ℕ). put_mid at (length d - at) d (s ++ drop (length src) (take (length d - at) (drop at d)))) (take-length src))
    ∙ pasted at src d h

-- one place more: in the set, or not
places_more : (set k : ℕ) → bit set k ≡ true → places_in set (suc k) ≡ places_in set k ++ (k ∷ [])
unfolding places_in
places_more set k e = going_goes (λ above i. false) (bit set) k (rw e)

places_same : (set k : ℕ) → bit set k ≡ false → places_in set (suc k) ≡ places_in set k
unfolding places_in
places_same set k e = going_stays (λ above i. false) (bit set) k (rw e)

-- where a set has the places of those that go under a rule, these are they
pub places_chosen :
    (waits : Rule) (work : ℕ → Bool) (set m : ℕ)
    → ((i : ℕ) → bit set i ≡ among (going waits work m) i)
    → (k : ℕ)
    → k ≤ m
    → places_in set k ≡ going waits work k
unfolding places_in going
places_chosen waits work set m chosen zero h = refl
places_chosen waits work set m chosen (suc k) h = step (places_chosen waits work set m chosen k (omega arith)) (bool_cases (work k && not (waits (going waits work k) k)))
  where
    at : bit set k ≡ among (going waits work (suc k)) k
    at = chosen k ∙ going_stands waits work (suc k) m k (omega arith) h

    not_yet : among (going waits work k) k ≡ false
    not_yet =
        ⊎_elim (λ (q : among (going waits work k) k ≡ true). absurd (omega (arith, (going_below waits work k k q).0))) (λ q. q) (bool_cases (among (going waits work k) k))

    step :
        places_in set k ≡ going waits work k
        → ((work k && not (waits (going waits work k) k)) ≡ true) ⊎ ((work k && not (waits (going waits work k) k)) ≡ false)
        → places_in set (suc k) ≡ going waits work (suc k)
    step before (inl e) =
        let more : going waits work (suc k) ≡ going waits work k ++ (k ∷ []) = going_goes waits work k e in
        places_more set k (at ∙ ap (λ (hs : List ℕ). among hs k) more ∙ among_last (going waits work k) k) ∙ ap (λ (hs : List ℕ). hs ++ (k ∷ [])) before ∙ sym more
    step before (inr e) =
        let stay : going waits work (suc k) ≡ going waits work k = going_stays waits work k e in
        places_same set k (at ∙ ap (λ (hs : List ℕ). among hs k) stay ∙ not_yet) ∙ before ∙ sym stay

-- places past which none is in the set are all there are
pub places_past : (set k n : ℕ) → ((i : ℕ) → k ≤ i → bit set i ≡ false) → places_in set (k + n) ≡ places_in set k
places_past set k zero none = ap (places_in set) (add-zero k)
places_past set k (suc n) none =
    let e : k + suc n ≡ suc (k + n) = omega arith in
    ap (places_in set) e ∙ places_same set (k + n) (none (k + n) (omega arith)) ∙ places_past set k n none

-- fewer places are passed before than after
places_fewer : (set k m : ℕ) → k ≤ m → length (places_in set k) ≤ length (places_in set m)
places_fewer set k zero h = let e : k ≡ 0 = omega arith in rw e (omega arith)
places_fewer set k (suc m) h =
    ⊎_elim (λ (l : m < k). let e : k ≡ suc m = omega arith in rw e (omega arith)) (λ (l : k ≤ m). omega (arith, places_fewer set k m l, more))
    (lt_or_ge m k)
  where
    more : length (places_in set m) ≤ length (places_in set (suc m))
    more =
        ⊎_elim (λ (e : bit set m ≡ true). rw (places_more set m e, length-append (places_in set m) (m ∷ [])) (omega arith))
        (λ (e : bit set m ≡ false). rw (places_same set m e) (omega arith))
        (bool_cases (bit set m))

module _ (records : List ℕ) (firsts : List Slot) (run : Run) (choice : Choice) (lent : List ℕ) where
  abbrev grant : ℕ → List ℕ
  grant = grant_for records firsts run choice

  abbrev goes : ℕ
  goes = choice.places

  nine : (i : ℕ) → length (grant i) ≡ grant_bytes
  unfolding grant_for bytes_of two_bytes four_bytes
  nine i = refl

  -- what has been given to the flows of some places
  pub record GivenTo (is : List ℕ) (count : ℕ) (grants : List ℕ) : Type 0 where
    pub number : count ≡ length is
    pub wrote : grants ≡ over (grants_of grant is) lent

  pub record Given (k : ℕ) (places : List Progress) (count : ℕ) (grants : List ℕ) : Type 0 where
    pub given : GivenTo (places_in goes k) count grants
    pub size : length places ≡ length run.flows
    pub passed : (j : ℕ) → j < k → place_of places j ≡ place_of run.flows j + one (bit goes j)
    pub ahead : (j : ℕ) → k ≤ j → place_of places j ≡ place_of run.flows j

  pub given_none : Given 0 run.flows 0 lent
  unfolding places_in going grants_of over
  given_none =
      record {
        given = record { number = refl; wrote = refl };
        size = refl;
        passed = λ j h. absurd (omega arith);
        ahead = λ j h. refl;
      }

  -- a place that is not in the set is passed by, and so are several
  given_past : (k : ℕ) (places : List Progress) (count : ℕ) (grants : List ℕ) → bit goes k ≡ false → Given k places count grants → Given (suc k) places count grants
  unfolding one
  given_past k places count grants e so =
      record {
        given = rw (places_same goes k e) so.given;
        size = so.size;
        passed = λ j h. ⊎_elim (λ (l : j < k). so.passed j l) (λ (l : k ≤ j). own j (omega arith)) (lt_or_ge j k);
        ahead = λ j h. so.ahead j (omega arith);
      }
    where
      own : (j : ℕ) → j ≡ k → place_of places j ≡ place_of run.flows j + one (bit goes j)
      own j q = rw (q, e, add-zero (place_of run.flows k)) (so.ahead k (omega arith))

  given_on :
      (k n : ℕ) (places : List Progress) (count : ℕ) (grants : List ℕ)
      → ((j : ℕ) → k ≤ j → j < k + n → bit goes j ≡ false)
      → Given k places count grants
      → Given (k + n) places count grants
  given_on k zero places count grants none so = rw (add-zero k) so
  given_on k (suc n) places count grants none so =
      let e : k + suc n ≡ suc (k + n) = omega arith in
      rw e (given_past (k + n) places count grants (none (k + n) (omega arith) (omega arith)) (given_on k n places count grants (λ j l h. none j l (omega arith)) so))

  -- what is left of the set: its places from one on
  abbrev pub Left : ℕ → ℕ → Type 0
  Left k rest = (j : ℕ) → bit rest j ≡ (bit goes j && leb k j)

  pub left_all : Left 0 goes
  left_all j = rw (le-leb 0 j (omega arith)) (sym (and-true (bit goes j)))

  module _ (k rest p : ℕ) (left : Left k rest) (low : Lowest rest p) where
    here : (bit goes p ≡ true) × (leb k p ≡ true)
    here = and_true (bit goes p) (leb k p) (sym (left p) ∙ low.set)

    between : (j : ℕ) → k ≤ j → j < p → bit goes j ≡ false
    between j l h = sym (and-true (bit goes j)) ∙ rw (← le-leb k j l) (sym (left j) ∙ low.below j h)

    pub left_next : Left (suc p) (bit_and rest (rest - 1))
    left_next j =
        low.cleared j
        ∙ ⊎_elim
        (λ (h : p < j).
        rw (left j, le-leb (suc p) j (omega arith), le-leb k j (omega (arith, leb-true k p here.1)), ne_eqb p j (λ e. omega arith)) (and-true (bit goes j && true)))
        (λ (h : j ≤ p).
        rw (lt-leb (suc p) j (omega arith))
        (⊎_elim (λ (l : j < p). rw (low.below j l) (sym (and-false (bit goes j))))
        (λ (l : p ≤ j). let e : p ≡ j = omega arith in rw (eq-eqb p j e) (and-false (bit rest j) ∙ sym (and-false (bit goes j)))) (lt_or_ge j p)))
        (lt_or_ge p j)

    module _ (asked : Granting records run choice (length lent)) (few : p < most_flows) (places : List Progress) (count : ℕ) (grants : List ℕ) (so : Given k places count grants) where
      -- the flows between are passed by
      reached : Given p places count grants
      reached =
          let n : ℕ = p - k in
          let e : k + n ≡ p = omega (arith, leb-true k p here.1) in
          rw e at (given_on k (p - k) places count grants (λ j l h. between j l (omega arith)) so)

      pub flow_goes : bit goes p ≡ true
      flow_goes = here.0

      pub flow_done : place_of places p ≡ place_of run.flows p
      flow_done = reached.ahead p (omega arith)

      all_lent : grant_bytes * length (places_in goes (suc p)) ≤ length lent
      all_lent = omega (arith, places_fewer goes (suc p) most_flows (omega arith), asked.grants)

      one_more : length (places_in goes (suc p)) ≡ count + 1
      one_more = ap length (places_more goes p flow_goes) ∙ length-append (places_in goes p) (p ∷ []) ∙ ap (λ (n : ℕ). n + 1) (sym reached.given.number)

      pub same_room : length grants ≡ length lent
      same_room =
          ap length reached.given.wrote
          ∙ length_over (grants_of grant (places_in goes p)) lent
          (omega (arith, length_grants grant nine (places_in goes p), all_lent, one_more, reached.given.number))

      pub given_room : grant_bytes * count + grant_bytes ≤ length grants
      given_room = omega (arith, same_room, all_lent, one_more)

      pub given_few : count < most_flows
      unfolding places_in
      given_few = omega (arith, one_more, going_few (λ above i. false) (bit goes) (suc p))

      -- its grant stands behind the others
      module _ (g : Grant)
          (same : g ≡ grant_by (flow_in records p) (get_or firsts p (record { 0 = 0 })) run.slot (record { 0 = place_of places p }) (sent_at choice.sent p))
          (last : List ℕ) (put : last ≡ over (bytes_of g) (take (length grants - grant_bytes * count) (drop (grant_bytes * count) grants))) where
        abbrev after : List ℕ
        after = put_mid (grant_bytes * count) (length grants - grant_bytes * count) grants last

        bytes : bytes_of g ≡ grant p
        unfolding grant_for place_of
        bytes = ap bytes_of (same ∙ ap (λ (d : ℕ). grant_by (flow_in records p) (get_or firsts p (record { 0 = 0 })) run.slot (record { 0 = d }) (sent_at choice.sent p)) flow_done)

        wrote : after ≡ pasted_at (grant_bytes * count) (grant p) grants
        wrote =
            ap (put_mid (grant_bytes * count) (length grants - grant_bytes * count) grants)
            (put ∙ ap (λ (l : List ℕ). over l (take (length grants - grant_bytes * count) (drop (grant_bytes * count) grants))) bytes)
            ∙ pasted_over (grant_bytes * count) (grant p) grants (omega (arith, given_room, nine p))

        pub given_goes : Given (suc p) (set places p (record { done = record { 0 = place_of places p + 1 } })) (count + 1) after
        unfolding one
        given_goes =
            record {
              given =
                  rw (places_more goes p flow_goes)
                  (record {
                    number = ap (λ (n : ℕ). n + 1) reached.given.number ∙ sym (length-append (places_in goes p) (p ∷ []));
                    wrote =
                        wrote
                        ∙ (λ t. pasted_at (grant_bytes * reached.given.number t) (grant p) (reached.given.wrote t))
                        ∙ ap (λ (n : ℕ). pasted_at n (grant p) (over (grants_of grant (places_in goes p)) lent)) (sym (length_grants grant nine (places_in goes p)))
                        ∙ pasted_next (grants_of grant (places_in goes p)) (grant p) lent
                        ∙ ap (λ (l : List ℕ). over l lent) (sym (grants_last grant (places_in goes p) p));
                  });
              size = length-set places p (record { done = record { 0 = place_of places p + 1 } }) ∙ so.size;
              passed =
                  λ j h.
                  ⊎_elim (λ (l : j < p). unstored places p j _ (λ q. omega arith) ∙ reached.passed j l) (λ (l : p ≤ j). own j (omega arith)) (lt_or_ge j p);
              ahead = λ j h. unstored places p j _ (λ q. omega arith) ∙ reached.ahead j (omega arith);
            }
          where
            own : (j : ℕ) → j ≡ p → place_of (set places p (record { done = record { 0 = place_of places p + 1 } })) j ≡ place_of run.flows j + one (bit goes j)
            own j q =
                rw (q, flow_goes)
                (stored places p (record { done = record { 0 = place_of places p + 1 } }) (omega (arith, so.size, asked.size))
                ∙ ap (λ (n : ℕ). n + 1) flow_done)

  -- once none is left, the slot has run
  module _ (k rest : ℕ) (left : Left k rest) (none : rest ≡ 0) (few : k ≤ most_flows) (asked : Granting records run choice (length lent)) (places : List Progress) (count : ℕ) (grants : List ℕ) (so : Given k places count grants) where
    nothing : (j : ℕ) → k ≤ j → bit goes j ≡ false
    nothing j l = sym (and-true (bit goes j)) ∙ rw (← le-leb k j l) (sym (left j) ∙ ap (λ (n : ℕ). bit n j) none ∙ bit_none j)

    all : Given most_flows places count grants
    all = let e : k + (most_flows - k) ≡ most_flows = omega arith in rw e at (given_on k (most_flows - k) places count grants (λ j l h. nothing j l) so)

    pub given_length : length grants ≡ length lent
    given_length =
        ap length all.given.wrote
        ∙ length_over (grants_of grant (places_in goes most_flows)) lent (omega (arith, length_grants grant nine (places_in goes most_flows), asked.grants))

    pub given_all : Grants records firsts run choice lent (record { run = record { slot = record { 0 = run.slot.0 + 1 }; flows = places }; count = count }) grants
    unfolding one
    given_all =
        record {
          slot = add-one run.slot.0;
          size = so.size;
          places =
              λ j.
              ⊎_elim (λ (h : j < most_flows). all.passed j h)
              (λ (h : most_flows ≤ j). rw (nothing j (omega arith), add-zero (place_of run.flows j)) (all.ahead j h)) (lt_or_ge j most_flows);
          count = all.given.number;
          grants = all.given.wrote;
        }
