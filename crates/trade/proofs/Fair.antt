-- The fair count: each flow is carried in up to its own bound, and facts and costs that agree have the same. Leans on Alike. Assumes nothing.
use Prim.Native.Nat.{ℕ, zero, suc, ◌+◌, ◌≤◌, ◌<◌}
use mathlib.Core.Path.{◌≡◌, refl, sym, ◌∙◌, ap}
use mathlib.Core.Logic.{⊎_elim}
use mathlib.Core.List.{[], ◌∷◌, ◌++◌}
use native.Mathlib.Omega.{arith}
use lib.ListN.{length, get_or, length-append, get_or-append}
use lib.Seq.{get_or-append-add}
use Rattle.trade.specs.Facts.{Facts}
use Rattle.trade.specs.Interference.{interference}
use Rattle.trade.specs.Bound.{bound_by, bound_given, bounds_above, fairly, measure}
use Rattle.trade.proofs.First.{lt_or_ge}
use Rattle.trade.proofs.Alike.{Alike, SameTimes, SameMeasure, times_self, alike_times, bound_times, interference_alike}

module _ (f : Facts) (cost : ℕ → ℕ → ℕ) where
  length_above : (k : ℕ) → length (bounds_above f cost k) ≡ k
  unfolding bounds_above
  length_above zero = refl
  length_above (suc k) = length-append (bounds_above f cost k) _ ∙ omega (arith, length_above k)

  -- each stands in its place
  pub above_at : (k h : ℕ) → h < k → get_or (bounds_above f cost k) h 0 ≡ (fairly f cost).carry h
  unfolding bounds_above
  above_at zero h l = absurd (omega arith)
  above_at (suc k) h l =
      ⊎_elim
      (λ (b : h < k). get_or-append (bounds_above f cost k) _ 0 h (omega (arith, length_above k)) ∙ above_at k h b)
      (λ (b : k ≤ h).
      let e : k ≡ h = omega arith in
      let at : h ≡ length (bounds_above f cost k) + 0 = omega (arith, length_above k) in
      ap (λ (n : ℕ). get_or (bounds_above f cost k ++ (bound_given f cost (bounds_above f cost k) k ∷ [])) n 0) at
      ∙ get_or-append-add (bounds_above f cost k) (bound_given f cost (bounds_above f cost k) k ∷ []) 0 0
      ∙ ap (fairly f cost).carry e)
      (lt_or_ge h k)

  -- and a flow is carried in up to its bound by this very measure
  pub fair_carry : (h : ℕ) → (fairly f cost).carry h ≡ bound_by f (fairly f cost) h
  fair_carry h =
      bound_times (suc h) f f (times_self (suc h) f) (record { cost = cost; carry = λ k. get_or (bounds_above f cost h) k 0 }) (fairly f cost)
      (record { cost = λ l k p b. refl; carry = λ l k p b. above_at h k (omega arith) }) h (omega arith)

-- facts that say the same of the times of their first k flows, and costs that agree on them, have the same measure there
module _ (k : ℕ) (f g : Facts) (t : SameTimes k f g) (cost other : ℕ → ℕ → ℕ) (same : (l h : ℕ) → l < k → h < l → cost l h ≡ other l h) where
  fair_below : (n h : ℕ) → h < n → h < k → (fairly f cost).carry h ≡ (fairly g other).carry h
  fair_below zero h l b = absurd (omega arith)
  fair_below (suc n) h l b =
      fair_carry f cost h
      ∙ bound_times (suc h) f g (times_less t) (fairly f cost) (fairly g other)
      (record { cost = λ i j p q. same i j (omega arith) q; carry = λ i j p q. fair_below n j (omega arith) (omega arith) }) h (omega arith)
      ∙ sym (fair_carry g other h)
    where
      times_less : SameTimes k f g → SameTimes (suc h) f g
      times_less t =
          record {
            len = λ i p. t.len i (omega arith);
            period = λ i p. t.period i (omega arith);
            deadline = λ i p. t.deadline i (omega arith);
          }

  pub fair_same : SameMeasure k (fairly f cost) (fairly g other)
  fair_same = record { cost = same; carry = λ l h p b. fair_below (suc h) h (omega arith) (omega arith) }

-- alike facts have the same measure
pub measure_alike : (k : ℕ) (f g : Facts) → Alike k f g → SameMeasure k (measure f) (measure g)
measure_alike k f g a =
    fair_same k f g (alike_times a) (interference f) (interference g) (λ l h p b. interference_alike k f g a l h p (omega arith))
