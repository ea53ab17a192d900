-- One slot. Whatever the rule of waiting, the flows that go are unfinished flows in record order; under the greedy rule no two of
-- their steps conflict, and an unfinished flow is left out only if it conflicts with a grant of a flow above it. Leans on Conflict.
-- Assumes nothing.
use Prim.Native.Nat.{ℕ, zero, suc, ◌*◌, ◌≤◌, ◌<◌}
use mathlib.Core.Path.{◌≡◌, refl, sym, ◌∙◌, ap}
use mathlib.Core.Bool.{Bool, true, false, not, ◌&&◌, ◌||◌}
use mathlib.Core.Logic.{◌⊎◌, inl, inr, ⊎_elim}
use mathlib.Core.List.{List, [], ◌∷◌, ◌++◌, map, map-append, append_assoc}
use native.Mathlib.Omega.{arith}
use lib.Dec.{eqb}
use lib.ListN.{length, length-append}
use borrow.Author.Tests.{eqb-true, eqb-false, eq-eqb, ne_eqb, not-true}
use Rattle.trade.specs.Limits.{grant_bytes}
use Rattle.trade.specs.Facts.{Facts}
use Rattle.trade.specs.Conflict.{conflict, conflicts_with, conflict_free}
use Rattle.trade.specs.Slot.{State, Releases, unfinished, next_step, Rule, going, Waits, greedy, granted_by, granted, among, grants_of}
use Rattle.trade.specs.declared.node.Transmission.{Transmission}
use Rattle.trade.proofs.First.{bool_cases, not_both, and_true, or_cases, or_right, lt_or_ge}
use Rattle.trade.proofs.Conflict.{free_snoc}

-- who is among a list with one more at its end
pub among_last : (hs : List ℕ) (k : ℕ) → among (hs ++ (k ∷ [])) k ≡ true
unfolding among
among_last [] k = rw (eq-eqb k k refl)
among_last (h ∷ hs) k = ⊎_elim (λ (e : eqb h k ≡ true). rw e) (λ (e : eqb h k ≡ false). rw e (among_last hs k)) (bool_cases (eqb h k))

pub among_more : (hs : List ℕ) (k i : ℕ) → (k ≡ i → ⊥) → among (hs ++ (k ∷ [])) i ≡ among hs i
unfolding among
among_more [] k i n = rw (ne_eqb k i n)
among_more (h ∷ hs) k i n = ap (λ (b : Bool). eqb h i || b) (among_more hs k i n)

-- how the list grows: the next flow goes, or it does not
pub going_goes : (waits : Rule) (work : ℕ → Bool) (k : ℕ) → (work k && not (waits (going waits work k) k)) ≡ true → going waits work (suc k) ≡ going waits work k ++ (k ∷ [])
unfolding going
going_goes waits work k e = rw e

pub going_stays : (waits : Rule) (work : ℕ → Bool) (k : ℕ) → (work k && not (waits (going waits work k) k)) ≡ false → going waits work (suc k) ≡ going waits work k
unfolding going
going_stays waits work k e = rw e

-- taking one more flow changes nothing for the others
pub going_other : (waits : Rule) (work : ℕ → Bool) (k i : ℕ) → (k ≡ i → ⊥) → among (going waits work (suc k)) i ≡ among (going waits work k) i
going_other waits work k i n =
    ⊎_elim (λ e. rw (going_goes waits work k e) (among_more (going waits work k) k i n))
    (λ e. ap (λ (hs : List ℕ). among hs i) (going_stays waits work k e))
    (bool_cases (work k && not (waits (going waits work k) k)))

-- a flow that goes is one of those taken, and has work
pub going_below : (waits : Rule) (work : ℕ → Bool) (k i : ℕ) → among (going waits work k) i ≡ true → (i < k) × (work i ≡ true)
unfolding going among
going_below waits work zero i e = absurd (not_both e refl)
going_below waits work (suc k) i e =
    step (λ q. going_below waits work k i q) (bool_cases (work k && not (waits (going waits work k) k))) (bool_cases (eqb k i))
  where
    step :
        (among (going waits work k) i ≡ true → (i < k) × (work i ≡ true))
        → ((work k && not (waits (going waits work k) k)) ≡ true) ⊎ ((work k && not (waits (going waits work k) k)) ≡ false)
        → (eqb k i ≡ true) ⊎ (eqb k i ≡ false)
        → (i < suc k) × (work i ≡ true)
    step before (inl d) (inl q) =
        let w : k ≡ i = eqb-true k i q in
        (omega arith, rw (← w) (and_true (work k) (not (waits (going waits work k) k)) d).0)
    step before (inr d) (inl q) =
        let r = before (sym (ap (λ (hs : List ℕ). among hs i) (going_stays waits work k d)) ∙ e) in
        (omega (arith, r.0), r.1)
    step before d (inr q) =
        let r = before (sym (going_other waits work k i (eqb-false k i q)) ∙ e) in
        (omega (arith, r.0), r.1)

-- one of a list whose transmission conflicts
pub conflicts_one :
    (disturbs : ℕ → ℕ → Bool) (next : ℕ → Transmission) (hs : List ℕ) (t : Transmission)
    → conflicts_with disturbs (map next hs) t ≡ true
    → (h : ℕ) × (among hs h ≡ true) × (conflict disturbs (next h) t ≡ true)
unfolding conflicts_with among
conflicts_one disturbs next [] t e = absurd (not_both e refl)
conflicts_one disturbs next (x ∷ hs) t e =
    step (λ q. conflicts_one disturbs next hs t q) (or_cases (conflict disturbs (next x) t) (conflicts_with disturbs (map next hs) t) e)
  where
    step :
        (conflicts_with disturbs (map next hs) t ≡ true → (h : ℕ) × (among hs h ≡ true) × (conflict disturbs (next h) t ≡ true))
        → (conflict disturbs (next x) t ≡ true) ⊎ (conflicts_with disturbs (map next hs) t ≡ true)
        → (h : ℕ) × ((eqb x h || among hs h) ≡ true) × (conflict disturbs (next h) t ≡ true)
    step rest (inl q) = (x, ap (λ (b : Bool). b || among hs x) (eq-eqb x x refl), q)
    step rest (inr q) = let r = rest q in (r.0, or_right (eqb x r.0) (among hs r.0) r.1, r.2)

-- a flow with work is left out only if the rule had it wait for those above it that go
pub left_out :
    (waits : Rule) (work : ℕ → Bool) (k i : ℕ)
    → i < k
    → work i ≡ true
    → among (going waits work k) i ≡ false
    → waits (going waits work i) i ≡ true
unfolding going
left_out waits work zero i l w n = absurd (omega arith)
left_out waits work (suc k) i l w n =
    step (λ s. left_out waits work k i s w) (bool_cases (waits (going waits work k) k)) (bool_cases (eqb k i))
  where
    step :
        (i < k → among (going waits work k) i ≡ false → waits (going waits work i) i ≡ true)
        → (waits (going waits work k) k ≡ true) ⊎ (waits (going waits work k) k ≡ false)
        → (eqb k i ≡ true) ⊎ (eqb k i ≡ false)
        → waits (going waits work i) i ≡ true
    step before (inl d) (inl q) = let e : k ≡ i = eqb-true k i q in rw e at d
    step before (inr d) (inl q) =
        let e : k ≡ i = eqb-true k i q in
        let both : (work k && not (waits (going waits work k) k)) ≡ true = rw (d, e, w) in
        absurd (not_both (rw (← e, going_goes waits work k both) (among_last (going waits work k) k)) n)
    step before d (inr q) =
        before (omega (arith, eqb-false k i q)) (sym (going_other waits work k i (eqb-false k i q)) ∙ n)

-- what the first flows do stands, however many follow
pub going_stands : (waits : Rule) (work : ℕ → Bool) (j k i : ℕ) → i < j → j ≤ k → among (going waits work k) i ≡ among (going waits work j) i
going_stands waits work j zero i l h = absurd (omega arith)
going_stands waits work j (suc k) i l h =
    step (λ s. going_stands waits work j k i l s) (lt_or_ge k j)
  where
    step : (j ≤ k → among (going waits work k) i ≡ among (going waits work j) i) → (k < j) ⊎ (j ≤ k) → among (going waits work (suc k)) i ≡ among (going waits work j) i
    step before (inl s) = let e : suc k ≡ j = omega arith in ap (λ (n : ℕ). among (going waits work n) i) e
    step before (inr s) = going_other waits work k i (omega arith) ∙ before s

-- under any rule that has a flow wait whose step conflicts with a grant, no two grants conflict
pub going_free :
    (disturbs : ℕ → ℕ → Bool) (next : ℕ → Transmission) (waits : Rule) (work : ℕ → Bool)
    → ((above : List ℕ) (i : ℕ) → waits above i ≡ false → conflicts_with disturbs (map next above) (next i) ≡ false)
    → (k : ℕ)
    → conflict_free disturbs (map next (going waits work k)) ≡ true
unfolding conflict_free going
going_free disturbs next waits work refuses zero = refl
going_free disturbs next waits work refuses (suc k) =
    step (going_free disturbs next waits work refuses k) (bool_cases (work k && not (waits (going waits work k) k)))
  where
    step :
        conflict_free disturbs (map next (going waits work k)) ≡ true
        → ((work k && not (waits (going waits work k) k)) ≡ true) ⊎ ((work k && not (waits (going waits work k) k)) ≡ false)
        → conflict_free disturbs (map next (going waits work (suc k))) ≡ true
    step before (inl d) =
        let free = refuses (going waits work k) k (not-true (waits (going waits work k) k) (and_true (work k) (not (waits (going waits work k) k)) d).1) in
        rw (d, map-append next (going waits work k) (k ∷ [])) (free_snoc disturbs (map next (going waits work k)) (next k) before free)
    step before (inr d) = rw d before

-- a rule of waiting that refuses conflicts: it has a flow wait whose next step conflicts with a grant already made
abbrev pub Refuses : Waits → Type 0
Refuses waits =
    (f : Facts) (r : Releases) (s : State) (above : List ℕ) (i : ℕ)
    → waits f r s above i ≡ false
    → conflicts_with f.disturbs (map (next_step f r s) above) (next_step f r s i) ≡ false

-- under such a rule the grants of a slot are conflict-free
pub refusing_free :
    (waits : Waits)
    → Refuses waits
    → (f : Facts) (r : Releases) (s : State)
    → conflict_free f.disturbs (map (next_step f r s) (granted_by waits f r s)) ≡ true
unfolding granted_by
refusing_free waits refuses f r s =
    going_free f.disturbs (next_step f r s) (waits f r s) (unfinished f r s) (refuses f r s) f.flows

-- THE GREEDY RULE refuses conflicts, so the grants of a slot are conflict-free
pub greedy_refuses : Refuses greedy
unfolding greedy
greedy_refuses f r s above i n = n

pub grants_free :
    (f : Facts) (r : Releases) (s : State) → conflict_free f.disturbs (map (next_step f r s) (granted f r s)) ≡ true
grants_free = refusing_free greedy greedy_refuses

-- a flow with work is left out only if it conflicts with a grant of a flow above it
pub record Blocked (f : Facts) (r : Releases) (s : State) (i : ℕ) : Type 0 where
  pub by : ℕ
  pub above : by < i
  pub goes : among (granted f r s) by ≡ true
  pub conflicts : conflict f.disturbs (next_step f r s by) (next_step f r s i) ≡ true

pub left_out_blocked :
    (f : Facts) (r : Releases) (s : State) (i : ℕ)
    → i < f.flows
    → unfinished f r s i ≡ true
    → among (granted f r s) i ≡ false
    → Blocked f r s i
unfolding granted_by greedy
left_out_blocked f r s i l w n =
    let waits : Rule = greedy f r s in
    let work : ℕ → Bool = unfinished f r s in
    let (by, goes, conflicts)
    = conflicts_one f.disturbs (next_step f r s) (going waits work i) (next_step f r s i) (left_out waits work f.flows i l w n) in
    let (above, busy) = going_below waits work i by goes in
    record {
      by = by;
      above = above;
      goes = going_stands waits work i f.flows by above (omega arith) ∙ goes;
      conflicts = conflicts;
    }

-- the grants of some flows, and of others behind them
pub grants_append : (grant : ℕ → List ℕ) (is js : List ℕ) → grants_of grant (is ++ js) ≡ grants_of grant is ++ grants_of grant js
unfolding grants_of
grants_append grant [] js = refl
grants_append grant (i ∷ is) js =
    ap (λ (l : List ℕ). grant i ++ l) (grants_append grant is js) ∙ sym (append_assoc (grant i) (grants_of grant is) (grants_of grant js))

pub length_grants :
    (grant : ℕ → List ℕ) → ((i : ℕ) → length (grant i) ≡ grant_bytes) → (is : List ℕ) → length (grants_of grant is) ≡ grant_bytes * length is
unfolding grants_of
length_grants grant nine [] = refl
length_grants grant nine (i ∷ is) =
    omega (arith, length-append (grant i) (grants_of grant is), nine i, length_grants grant nine is)
