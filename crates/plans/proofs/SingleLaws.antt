-- A plan whose repeated steps stand once: where its steps stand, and one more of them written. Leans on the trade's Facts. Assumes nothing.
use Prim.Native.Nat.{ℕ, zero, suc, ◌+◌, ◌-◌, ◌*◌, ◌/◌, ◌%◌, ◌≤◌, ◌<◌}
use mathlib.Core.Path.{◌≡◌, refl, sym, ◌∙◌, ap, ap₂}
use mathlib.Core.Bool.{true, false}
use mathlib.Core.List.{List}
use mathlib.Core.Logic.{◌⊎◌, ⊎_elim, inl, inr}
use native.Mathlib.Omega.{arith}
use lib.ListN.{length, get_or, set, length-set}
use lib.Seq.{ext_get_or, get_or-set_same, get_or-set_other}
use borrow.Author.Tests.{eqb-true}
use Rattle.trade.specs.Limits.{step_bytes}
use Rattle.trade.specs.Facts.{step_in}
use Rattle.trade.specs.declared.node.Transmission.{Transmission}
use Rattle.trade.proofs.First.{lt_or_ge, bool_cases, not_both, and_true}
use Rattle.plans.specs.Single.{same, again, singles, place_of, SingledTo}
use Rattle.plans.proofs.StepsLaws.{sent}

-- two steps that go from the same node to the same are the same
same_steps : (u v : Transmission) → same u v ≡ true → u ≡ v
same_steps u v e =
    let p = and_true _ _ e in ap₂ sent (eqb-true u.sender.0 v.sender.0 p.0) (eqb-true u.receiver.0 v.receiver.0 p.1)

module _ (plan : List ℕ) where
  pub singles_none : singles plan 0 ≡ 0
  unfolding singles
  singles_none = refl

  -- one step more
  pub singles_again : (k : ℕ) → again plan k ≡ true → singles plan (suc k) ≡ singles plan k
  unfolding singles
  singles_again k e = rw e refl

  pub singles_new : (k : ℕ) → again plan k ≡ false → singles plan (suc k) ≡ suc (singles plan k)
  unfolding singles
  singles_new k e = rw e refl

  pub singles_next : (k : ℕ) → (singles plan k ≤ singles plan (suc k)) × (singles plan (suc k) ≤ suc (singles plan k))
  singles_next k =
      ⊎_elim
      (λ (e : again plan k ≡ true). (omega (arith, singles_again k e), omega (arith, singles_again k e)))
      (λ (e : again plan k ≡ false). (omega (arith, singles_new k e), omega (arith, singles_new k e)))
      (bool_cases (again plan k))

  -- the first step is no repeat
  pub singles_some : (k : ℕ) → 1 ≤ singles plan (suc k)
  unfolding singles again
  singles_some zero = omega arith
  singles_some (suc k) = omega (arith, singles_some k, (singles_next (suc k)).0)

  pub singles_most : (k : ℕ) → singles plan k ≤ k
  unfolding singles
  singles_most zero = omega arith
  singles_most (suc k) = omega (arith, singles_most k, (singles_next k).1)

  singles_later : (d i : ℕ) → singles plan i ≤ singles plan (i + d)
  singles_later zero i = let e : i + 0 ≡ i = omega arith in rw e (omega arith)
  singles_later (suc d) i = let e : i + suc d ≡ suc (i + d) = omega arith in rw e (omega (arith, singles_later d i, (singles_next (i + d)).0))

  -- each of the first k steps has a place among them, the next the same or the one behind it
  pub place_below : (i k : ℕ) → i < k → place_of plan i < singles plan k
  place_below i k h =
      let e : suc i + (k - suc i) ≡ k = omega arith in omega (arith, rw e at (singles_later (k - suc i) (suc i)), singles_some i)

  pub place_next : (i : ℕ) → (place_of plan (suc i) ≡ place_of plan i) ⊎ (place_of plan (suc i) ≡ suc (place_of plan i))
  place_next i =
      ⊎_elim
      (λ (e : again plan (suc i) ≡ true). inl (omega (arith, singles_again (suc i) e)))
      (λ (e : again plan (suc i) ≡ false). inr (omega (arith, singles_new (suc i) e, singles_some i)))
      (bool_cases (again plan (suc i)))

  -- and each place a step
  pub place_onto : (k p : ℕ) → p < singles plan k → (i : ℕ) × (i < k) × (place_of plan i ≡ p)
  unfolding singles
  place_onto zero p h = absurd (omega arith)
  place_onto (suc k) p h =
      ⊎_elim (λ (l : p < singles plan k). let f = place_onto k p l in (f.0, omega (arith, f.1), f.2))
      (λ (l : singles plan k ≤ p). (k, omega arith, omega (arith, h, (singles_next k).1))) (lt_or_ge p (singles plan k))

  pub singled_none : (before : List ℕ) → SingledTo plan 0 before before
  singled_none before = record { size = refl; steps = λ i h. absurd (omega arith); others = λ x h. refl }

  -- a step that is the same as the one before it
  pub singled_again : (k : ℕ) (before after : List ℕ) → again plan k ≡ true → SingledTo plan k before after → SingledTo plan (suc k) before after
  unfolding again
  singled_again zero before after e s = absurd (not_both e refl)
  singled_again (suc k) before after e s =
      record {
        size = s.size;
        steps = λ i h. ⊎_elim (λ (l : i < suc k). s.steps i l) (λ (l : suc k ≤ i). here i (omega arith)) (lt_or_ge i (suc k));
        others = λ x h. s.others x (omega (arith, singles_again (suc k) e));
      }
    where
      here : (i : ℕ) → i ≡ suc k → step_in after (place_of plan i) ≡ step_in plan i
      here i q =
          let p : place_of plan (suc k) ≡ place_of plan k = omega (arith, singles_again (suc k) e) in
          rw (q, p) (s.steps k (omega arith) ∙ same_steps (step_in plan k) (step_in plan (suc k)) e)

  -- a step that is not, written behind the others
  pub singled_new :
      (k : ℕ) (before after : List ℕ)
      → again plan k ≡ false
      → step_bytes * singles plan k + 1 < length after
      → SingledTo plan k before after
      → SingledTo plan (suc k) before (set (set after (step_bytes * singles plan k) (step_in plan k).sender.0) (step_bytes * singles plan k + 1) (step_in plan k).receiver.0)
  unfolding step_in
  singled_new k before after e room s =
      record {
        size = length-set (set after at a) (at + 1) b ∙ length-set after at a ∙ s.size;
        steps = λ i h. ⊎_elim (old i) (λ (l : k ≤ i). here i (omega arith)) (lt_or_ge i k);
        others = λ x h. apart x (inr (omega (arith, singles_new k e))) ∙ s.others x (omega (arith, singles_new k e));
      }
    where
      at : ℕ
      at = step_bytes * singles plan k

      a : ℕ
      a = (step_in plan k).sender.0

      b : ℕ
      b = (step_in plan k).receiver.0

      put : List ℕ
      put = set (set after at a) (at + 1) b

      apart : (x : ℕ) → (x < at) ⊎ (at + 1 < x) → get_or put x 0 ≡ get_or after x 0
      apart x h =
          get_or-set_other (set after at a) (at + 1) x b 0 (λ q. ⊎_elim (λ (l : x < at). omega arith) (λ (l : at + 1 < x). omega arith) h)
          ∙ get_or-set_other after at x a 0 (λ q. ⊎_elim (λ (l : x < at). omega arith) (λ (l : at + 1 < x). omega arith) h)

      old : (i : ℕ) → i < k → step_in put (place_of plan i) ≡ step_in plan i
      old i h =
          ap₂ sent (apart (step_bytes * place_of plan i) (inl (omega (arith, place_below i k h))))
          (apart (step_bytes * place_of plan i + 1) (inl (omega (arith, place_below i k h))))
          ∙ s.steps i h

      here : (i : ℕ) → i ≡ k → step_in put (place_of plan i) ≡ step_in plan i
      here i q =
          let p : place_of plan k ≡ singles plan k = omega (arith, singles_new k e) in
          rw (q, p)
          (ap₂ sent
          (get_or-set_other (set after at a) (at + 1) at b 0 (λ z. omega arith) ∙ get_or-set_same after at a 0 (omega arith))
          (get_or-set_same (set after at a) (at + 1) b 0 (rw (length-set after at a) room)))

  -- they leave one content
  pub singled_unique : (k : ℕ) (before a b : List ℕ) → SingledTo plan k before a → SingledTo plan k before b → a ≡ b
  unfolding step_in
  singled_unique k before a b p q = ext_get_or 0 a b (p.size ∙ sym q.size) (λ x l. ⊎_elim (within x) (behind x) (lt_or_ge x (step_bytes * singles plan k)))
    where
      behind : (x : ℕ) → step_bytes * singles plan k ≤ x → get_or a x 0 ≡ get_or b x 0
      behind x h = p.others x h ∙ sym (q.others x h)

      within : (x : ℕ) → x < step_bytes * singles plan k → get_or a x 0 ≡ get_or b x 0
      within x h =
          let at = place_onto k (x / step_bytes) (omega arith) in
          let here : step_in a (x / step_bytes) ≡ step_in b (x / step_bytes) = rw (← at.2) (p.steps at.0 at.1 ∙ sym (q.steps at.0 at.1)) in
          ⊎_elim
          (λ (e : x % step_bytes < 1). let first : x ≡ step_bytes * (x / step_bytes) = omega arith in rw first (ap (λ (u : Transmission). u.sender.0) here))
          (λ (e : 1 ≤ x % step_bytes). let second : x ≡ step_bytes * (x / step_bytes) + 1 = omega arith in rw second (ap (λ (u : Transmission). u.receiver.0) here))
          (lt_or_ge (x % step_bytes) 1)
