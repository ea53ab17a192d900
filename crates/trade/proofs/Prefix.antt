-- THE PREFIX LAW OF THE GRANTS: where two books are alike on their first k flows, and two runs of them level on these, the same of them
-- go, with the same bytes, by every rule of waiting that reads no more; so in every slot of their runs from the start. Of one book, the
-- law says that a slot reads no more of a run. Leans on Alike and Slot. Assumes nothing.
use Prim.Native.Nat.{ℕ, zero, suc, ◌+◌, ◌≤◌, ◌<◌}
use mathlib.Core.Path.{◌≡◌, refl, sym, ◌∙◌, ap, ap₂}
use mathlib.Core.Bool.{Bool, true, false, not, ◌&&◌, ◌||◌}
use mathlib.Core.Logic.{◌⊎◌, inl, inr, ⊎_elim}
use mathlib.Core.List.{List, [], ◌∷◌, ◌++◌, map, append_assoc, append-nil}
use native.Mathlib.Omega.{arith}
use lib.Dec.{eqb, ltb}
use borrow.Author.Tests.{ltb-true, eq-eqb, eqb-true, eqb-false}
use Rattle.trade.specs.Facts.{Facts, step_of}
use Rattle.trade.specs.Conflict.{conflict, conflicts_with}
use Rattle.trade.specs.Interference.{one, matrix}
use Rattle.trade.specs.Slot.{State, at_start, Releases, released, instance_at, periodic, done_now, unfinished, next_step, Rule, going, Waits, greedy, granted_by, among, next_state_by, run_by, grant_of, grants_of}
use Rattle.trade.specs.declared.node.Transmission.{Transmission}
use Rattle.trade.proofs.First.{bool_cases, not_both, lt_or_ge, or_right}
use Rattle.trade.proofs.SlotLaws.{among_more, going_goes, going_stays, going_below, going_stands}
use Rattle.trade.proofs.Alike.{Alike}

-- transmissions that conflict alike at each flow of a list conflict alike with the list
conflicts_among :
    (d e : ℕ → ℕ → Bool) (next other : ℕ → Transmission) (t u : Transmission) (hs : List ℕ)
    → ((h : ℕ) → among hs h ≡ true → conflict d (next h) t ≡ conflict e (other h) u)
    → conflicts_with d (map next hs) t ≡ conflicts_with e (map other hs) u
unfolding among conflicts_with
conflicts_among d e next other t u [] same = refl
conflicts_among d e next other t u (h ∷ hs) same =
    ap₂ (λ (x y : Bool). x || y) (same h (rw (eq-eqb h h refl)))
    (conflicts_among d e next other t u hs (λ j m. same j (or_right (eqb h j) (among hs j) m)))

-- grants that are the same at each flow of a list are the same bytes
pub grants_among :
    (g h : ℕ → List ℕ) (is : List ℕ) → ((i : ℕ) → among is i ≡ true → g i ≡ h i) → grants_of g is ≡ grants_of h is
unfolding among grants_of
grants_among g h [] e = refl
grants_among g h (i ∷ is) e =
    ap₂ (λ (x xs : List ℕ). x ++ xs) (e i (rw (eq-eqb i i refl)))
    (grants_among g h is (λ j m. e j (or_right (eqb i j) (among is j) m)))

-- the flows that go are those of the first k, and behind them those that are not
pub record Behind (waits : Rule) (work : ℕ → Bool) (k n : ℕ) : Type 0 where
  pub rest : List ℕ
  pub joined : going waits work n ≡ going waits work k ++ rest
  pub past : (i : ℕ) → among rest i ≡ true → (k ≤ i) × (i < n)

pub going_behind : (waits : Rule) (work : ℕ → Bool) (k n : ℕ) → k ≤ n → Behind waits work k n
unfolding among
going_behind waits work k zero h =
    let e : zero ≡ k = omega arith in record { rest = []; joined = ap (going waits work) e ∙ sym (append-nil (going waits work k)); past = λ i m. absurd (not_both m refl) }
going_behind waits work k (suc n) h =
    ⊎_elim (λ (l : n < k). let e : suc n ≡ k = omega arith in record { rest = []; joined = ap (going waits work) e ∙ sym (append-nil (going waits work k)); past = λ i m. absurd (not_both m refl) })
    (λ (l : k ≤ n). step l (going_behind waits work k n l)) (lt_or_ge n k)
  where
    last : (l : k ≤ n) (b : Behind waits work k n) (i : ℕ) → among (b.rest ++ (n ∷ [])) i ≡ true → (eqb n i ≡ true) ⊎ (eqb n i ≡ false) → (k ≤ i) × (i < suc n)
    last l b i m (inl e) = (omega (arith, eqb-true n i e), omega (arith, eqb-true n i e))
    last l b i m (inr e) = let old = b.past i (sym (among_more b.rest n i (eqb-false n i e)) ∙ m) in (old.0, omega (arith, old.1))

    step : k ≤ n → Behind waits work k n → Behind waits work k (suc n)
    step l b =
        ⊎_elim
        (λ (goes : (work n && not (waits (going waits work n) n)) ≡ true).
        record {
          rest = b.rest ++ (n ∷ []);
          joined = going_goes waits work n goes ∙ ap (λ (is : List ℕ). is ++ (n ∷ [])) b.joined ∙ append_assoc (going waits work k) b.rest (n ∷ []);
          past = λ i m. last l b i m (bool_cases (eqb n i));
        })
        (λ (stays : (work n && not (waits (going waits work n) n)) ≡ false).
        record { rest = b.rest; joined = going_stays waits work n stays ∙ b.joined; past = λ i m. ((b.past i m).0, omega (arith, (b.past i m).1)) })
        (bool_cases (work n && not (waits (going waits work n) n)))

-- where the same flows below k have work, and rules agree on those that do, the same ones go
going_same :
    (waits rule : Rule) (work busy : ℕ → Bool) (k : ℕ)
    → ((i : ℕ) → i < k → work i ≡ busy i)
    → ((i : ℕ) → i < k → work i ≡ true → waits (going waits work i) i ≡ rule (going waits work i) i)
    → going waits work k ≡ going rule busy k
unfolding going
going_same waits rule work busy zero w r = refl
going_same waits rule work busy (suc k) w r =
    step (going_same waits rule work busy k (λ i h. w i (omega arith)) (λ i h. r i (omega arith))) (bool_cases (work k))
  where
    step :
        going waits work k ≡ going rule busy k
        → (work k ≡ true) ⊎ (work k ≡ false)
        → going waits work (suc k) ≡ going rule busy (suc k)
    step before (inl e) = rw (← w k (omega arith), e, r k (omega arith) e, before)
    step before (inr e) = rw (← w k (omega arith), e) before

-- two runs are abreast on the first k flows: in the slot, and in the steps done by each
pub record Abreast (k : ℕ) (s u : State) : Type 0 where
  pub slot : s.slot ≡ u.slot
  pub done : (i : ℕ) → i < k → s.done i ≡ u.done i

-- they are level on these in what is due: in the steps done by each after the releases, and in its latest instance
pub record Level (k : ℕ) (r q : Releases) (s u : State) : Type 0 where
  pub done : (i : ℕ) → i < k → done_now r s i ≡ done_now q u i
  pub instance : (i : ℕ) → i < k → r.instance i ≡ q.instance i

-- runs that are abreast are level where the same is due, and where what is due is periodic by the same first releases
pub level_same : (k : ℕ) (r : Releases) (s u : State) → Abreast k s u → Level k r r s u
unfolding done_now
level_same k r s u b = record { done = λ i h. rw (b.done i h); instance = λ i h. refl }

pub level_periodic :
    (k : ℕ) (f g : Facts) (firsts others : ℕ → ℕ) (slot : ℕ) (s u : State)
    → Alike k f g
    → ((i : ℕ) → i < k → firsts i ≡ others i)
    → Abreast k s u
    → Level k (periodic f firsts slot) (periodic g others slot) s u
unfolding done_now released instance_at
level_periodic k f g firsts others slot s u a same b =
    record {
      done = λ i h. rw (same i h, a.period i h, b.done i h);
      instance = λ i h. rw (same i h, a.period i h);
    }

-- a rule of waiting that reads of the books and the runs only what is alike and level: of a flow that has work, and of those above it
-- that go
abbrev pub Local : Waits → Type 0
Local waits =
    (k : ℕ) (f g : Facts) (r q : Releases) (s u : State)
    → Alike k f g
    → Level k r q s u
    → (above : List ℕ) (i : ℕ)
    → i < k
    → unfinished f r s i ≡ true
    → ((h : ℕ) → among above h ≡ true → (h < i) × (unfinished f r s h ≡ true))
    → waits f r s above i ≡ waits g q u above i

module _ (k : ℕ) (f g : Facts) (a : Alike k f g) (r q : Releases) (s u : State) (b : Level k r q s u) where
  -- the same of the first k flows have work, and the same next step
  pub alike_work : (i : ℕ) → i < k → unfinished f r s i ≡ unfinished g q u i
  unfolding unfinished
  alike_work i h = ap₂ ltb (b.done i h) (a.len i h)

  left : (i : ℕ) → unfinished f r s i ≡ true → done_now r s i < f.len i
  unfolding unfinished
  left i w = ltb-true (done_now r s i) (f.len i) w

  pub alike_next : (i : ℕ) → i < k → unfinished f r s i ≡ true → next_step f r s i ≡ next_step g q u i
  unfolding next_step
  alike_next i h w = a.steps i (done_now r s i) h (left i w) ∙ ap (step_of g i) (b.done i h)

  pub alike_conflict :
      (h i : ℕ)
      → h < k
      → i < k
      → unfinished f r s h ≡ true
      → unfinished f r s i ≡ true
      → conflict f.disturbs (next_step f r s h) (next_step f r s i) ≡ conflict g.disturbs (next_step g q u h) (next_step g q u i)
  unfolding next_step matrix
  alike_conflict h i h< i< v w =
      a.conflicts h i (done_now r s h) (done_now r s i) h< i< (left h v) (left i w)
      ∙ ap₂ (λ (c d : ℕ). matrix g h i c d) (b.done h h<) (b.done i i<)

  -- and a grant of one that has is the same bytes
  pub alike_grant : (i : ℕ) → i < k → unfinished f r s i ≡ true → grant_of f r s i ≡ grant_of g q u i
  unfolding grant_of
  alike_grant i h w = rw (alike_next i h w, b.done i h, a.id i h, b.instance i h)

-- THE GREEDY RULE is local
pub greedy_local : Local greedy
unfolding greedy
greedy_local k f g r q s u a b above i h w before =
    conflicts_among f.disturbs g.disturbs (next_step f r s) (next_step g q u) (next_step f r s i) (next_step g q u i) above
    (λ j m. let (below, busy) = before j m in alike_conflict k f g a r q s u b j i (omega arith) h busy w)

module _
    (waits : Waits)
    (local : Local waits)
    (k : ℕ)
    (f g : Facts)
    (a : Alike k f g)
    (r q : Releases)
    (s u : State)
    (b : Level k r q s u)
  where
    alike_going : going (waits f r s) (unfinished f r s) k ≡ going (waits g q u) (unfinished g q u) k
    alike_going =
        going_same (waits f r s) (waits g q u) (unfinished f r s) (unfinished g q u) k (alike_work k f g a r q s u b)
        (λ i h w.
        local k f g r q s u a b (going (waits f r s) (unfinished f r s) i) i h w (going_below (waits f r s) (unfinished f r s) i))

    -- THE SAME OF THE FIRST k FLOWS GO, however many follow, and what comes after is abreast
    module _ (m : k ≤ f.flows) (n : k ≤ g.flows) where
      pub alike_among : (i : ℕ) → i < k → among (granted_by waits f r s) i ≡ among (granted_by waits g q u) i
      unfolding granted_by
      alike_among i h =
          going_stands (waits f r s) (unfinished f r s) k f.flows i h m
          ∙ ap (λ (is : List ℕ). among is i) alike_going
          ∙ sym (going_stands (waits g q u) (unfinished g q u) k g.flows i h n)

      pub alike_on : s.slot ≡ u.slot → Abreast k (next_state_by waits f r s) (next_state_by waits g q u)
      unfolding next_state_by
      alike_on slot =
          record {
            slot = ap suc slot;
            done = λ i h. ap₂ (λ (d : ℕ) (goes : Bool). d + one goes) (b.done i h) (alike_among i h);
          }

    -- where no others follow, the slot is the same
    module _ (m : f.flows ≡ k) (n : g.flows ≡ k) where
      pub alike_granted : granted_by waits f r s ≡ granted_by waits g q u
      unfolding granted_by
      alike_granted =
          ap (going (waits f r s) (unfinished f r s)) m ∙ alike_going ∙ ap (going (waits g q u) (unfinished g q u)) (sym n)

      pub alike_grants : grants_of (grant_of f r s) (granted_by waits f r s) ≡ grants_of (grant_of g q u) (granted_by waits g q u)
      unfolding granted_by
      alike_grants =
          grants_among (grant_of f r s) (grant_of g q u) (granted_by waits f r s)
          (λ i e.
          let (below, busy) = going_below (waits f r s) (unfinished f r s) f.flows i e in
          alike_grant k f g a r q s u b i (omega arith) busy)
          ∙ ap (grants_of (grant_of g q u)) alike_granted

-- those of the first k that go
abbrev pub front_of : Waits → ℕ → Facts → Releases → State → List ℕ
front_of waits k f r s = going (waits f r s) (unfinished f r s) k

-- the same of the first k flows go, in the same order, and their grants are the same bytes
pub record SameFront (waits : Waits) (k : ℕ) (f g : Facts) (r q : Releases) (s u : State) : Type 0 where
  pub goes : front_of waits k f r s ≡ front_of waits k g q u
  pub bytes : grants_of (grant_of f r s) (front_of waits k f r s) ≡ grants_of (grant_of g q u) (front_of waits k g q u)

-- THE FIRST k FLOWS DECIDE THEIR OWN GRANTS, in every slot of the run from the start
module _ (waits : Waits) (local : Local waits) (k : ℕ) (f g : Facts) (a : Alike k f g) (m : k ≤ f.flows) (n : k ≤ g.flows) where
  abbrev run_of : Facts → ℕ → State
  run_of h t = run_by waits h (periodic h h.phase) t

  level_on : (t : ℕ) → Abreast k (run_of f t) (run_of g t) → Level k (periodic f f.phase t) (periodic g g.phase t) (run_of f t) (run_of g t)
  level_on t b = level_periodic k f g f.phase g.phase t (run_of f t) (run_of g t) a a.phase b

  pub prefix_abreast : (t : ℕ) → Abreast k (run_of f t) (run_of g t)
  unfolding run_by at_start
  prefix_abreast zero = record { slot = refl; done = a.len }
  prefix_abreast (suc t) =
      let b : Abreast k (run_of f t) (run_of g t) = prefix_abreast t in
      alike_on waits local k f g a (periodic f f.phase t) (periodic g g.phase t) (run_of f t) (run_of g t) (level_on t b) m n b.slot

  pub prefix_runs : (t : ℕ) → SameFront waits k f g (periodic f f.phase t) (periodic g g.phase t) (run_of f t) (run_of g t)
  prefix_runs t =
      let r : Releases = periodic f f.phase t in
      let q : Releases = periodic g g.phase t in
      let b = level_on t (prefix_abreast t) in
      let same = alike_going waits local k f g a r q (run_of f t) (run_of g t) b in
      record {
        goes = same;
        bytes =
            grants_among (grant_of f r (run_of f t)) (grant_of g q (run_of g t)) (front_of waits k f r (run_of f t))
            (λ i e.
            let (below, busy) = going_below (waits f r (run_of f t)) (unfinished f r (run_of f t)) k i e in
            alike_grant k f g a r q (run_of f t) (run_of g t) b i below busy)
            ∙ ap (grants_of (grant_of g q (run_of g t))) same;
      }
