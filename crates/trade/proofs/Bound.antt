-- By any measure, the bound is admissible and nothing smaller is; facts are accepted exactly when every flow has an admissible R. Leans
-- on First. Assumes nothing.
use Prim.Native.Nat.{ℕ, suc, ◌≤◌, ◌<◌}
use mathlib.Core.Path.{◌≡◌}
use mathlib.Core.Bool.{true, false, not, ◌&&◌}
use mathlib.Core.Logic.{◌↔◌, ⊎_elim}
use native.Mathlib.Omega.{arith}
use lib.Dec.{leb}
use borrow.Author.Tests.{leb-true, leb-false, le-leb, not-true, not-false}
use Rattle.trade.specs.First.{first, some}
use Rattle.trade.specs.Facts.{Facts}
use Rattle.trade.specs.Bound.{Measure, slots_needed, Admissible, admissible, bound_by, boundless_by, accepted_by}
use Rattle.trade.proofs.First.{bool_cases, not_both, and_true, lt_or_ge, first_before, first_holds, some_false, some_none}

module _ (f : Facts) (μ : Measure) where
  -- the test is the rule
  pub admissible_rule : (l R : ℕ) → admissible f μ l R ≡ true → Admissible f μ l R
  unfolding admissible
  admissible_rule l R e =
      let p = and_true (leb (f.len l) R && leb R (f.deadline l)) (leb (slots_needed f μ l R) R) e in
      let q = and_true (leb (f.len l) R) (leb R (f.deadline l)) p.0 in
      record { plan = leb-true _ _ q.0; deadline = leb-true _ _ q.1; enough = leb-true _ _ p.1 }

  pub admissible_test : (l R : ℕ) → Admissible f μ l R → admissible f μ l R ≡ true
  unfolding admissible
  admissible_test l R a = rw (le-leb _ _ a.plan, le-leb _ _ a.deadline, le-leb _ _ a.enough)

  -- the bound, where it is within the deadline, is admissible
  pub bound_admissible : (l : ℕ) → bound_by f μ l ≤ f.deadline l → Admissible f μ l (bound_by f μ l)
  unfolding bound_by
  bound_admissible l h =
      admissible_rule l (first (admissible f μ l) (suc (f.deadline l)))
      (first_holds (admissible f μ l) (suc (f.deadline l)) (omega arith))

  -- and nothing smaller is
  pub bound_smallest : (l R : ℕ) → Admissible f μ l R → bound_by f μ l ≤ R
  unfolding bound_by
  bound_smallest l R a =
      ⊎_elim
      (λ (h : R < first (admissible f μ l) (suc (f.deadline l))).
      absurd (not_both (admissible_test l R a) (first_before (admissible f μ l) (suc (f.deadline l)) R h)))
      (λ h. h)
      (lt_or_ge R (first (admissible f μ l) (suc (f.deadline l))))

  -- a flow has no bound exactly where none is within its deadline
  pub boundless_false : (l : ℕ) → boundless_by f μ l ≡ false → bound_by f μ l ≤ f.deadline l
  unfolding boundless_by
  boundless_false l e = leb-true _ _ (not-false _ e)

  pub boundless_true : (l : ℕ) → boundless_by f μ l ≡ true → f.deadline l < bound_by f μ l
  unfolding boundless_by
  boundless_true l e = leb-false _ _ (not-true _ e)

  -- accepted exactly when every flow has an admissible R
  pub accepted_exactly : (accepted_by f μ ≡ true) ↔ ((l : ℕ) → l < f.flows → (R : ℕ) × Admissible f μ l R)
  unfolding accepted_by
  accepted_exactly = (has, holds)
    where
      has : not (some (boundless_by f μ) f.flows) ≡ true → (l : ℕ) → l < f.flows → (R : ℕ) × Admissible f μ l R
      has e l h = (
        bound_by f μ l,
        bound_admissible l (boundless_false l (some_false (boundless_by f μ) f.flows (not-true _ e) l h)),
      )

      bounded : (l : ℕ) → (R : ℕ) × Admissible f μ l R → boundless_by f μ l ≡ false
      bounded l a =
          ⊎_elim
          (λ (e : boundless_by f μ l ≡ true). absurd (omega (arith, boundless_true l e, bound_smallest l a.0 a.1, a.1.deadline)))
          (λ e. e)
          (bool_cases (boundless_by f μ l))

      holds : ((l : ℕ) → l < f.flows → (R : ℕ) × Admissible f μ l R) → not (some (boundless_by f μ) f.flows) ≡ true
      holds a = rw (some_none (boundless_by f μ) f.flows (λ l h. bounded l (a l h)))
