-- A bound falls, or stays, where a term of its sum does: where a flow above has a longer period, a shorter carry-in or a smaller
-- cost, by any measure. Leans on Instances, Bound and Fair. Assumes nothing.
use Prim.Native.Nat.{ℕ, zero, suc, ◌*◌, ◌≤◌, ◌<◌}
use mathlib.Core.Path.{◌≡◌, refl}
use mathlib.Core.Logic.{⊎_elim}
use native.Mathlib.Omega.{arith}
use native.Mathlib.Nat.{add-le-add, mul-le-mul}
use Rattle.trade.specs.Facts.{Facts}
use Rattle.trade.specs.Bound.{Measure, instances, slots_needed, Admissible, admissible, bound_by, deadlined, fairly}
use Rattle.trade.proofs.First.{lt_or_ge, first_within}
use Rattle.trade.proofs.Sums.{sum_mono}
use Rattle.trade.proofs.Instances.{instances_mono}
use Rattle.trade.proofs.Bound.{bound_admissible, bound_smallest}
use Rattle.trade.proofs.Fair.{fair_carry}

-- a bound is at most D + 1
bound_most : (f : Facts) (μ : Measure) (l : ℕ) → bound_by f μ l ≤ suc (f.deadline l)
unfolding bound_by
bound_most f μ l = first_within (admissible f μ l) (suc (f.deadline l))

-- flow l needs no more, within any number of slots, by one set of facts and measure than flow k by another
module _
    (f g : Facts) (μ ν : Measure) (l k : ℕ)
    (deadline : f.deadline l ≡ g.deadline k)
    (len : f.len l ≤ g.len k)
    (less : (R : ℕ) → slots_needed f μ l R ≤ slots_needed g ν k R)
  where
    -- what is admissible by more is admissible by less
    pub admissible_lower : (R : ℕ) → Admissible g ν k R → Admissible f μ l R
    admissible_lower R p =
        record {
          plan = omega (arith, len, p.plan);
          deadline = omega (arith, deadline, p.deadline);
          enough = omega (arith, less R, p.enough);
        }

    pub bound_lower : bound_by f μ l ≤ bound_by g ν k
    bound_lower =
        ⊎_elim (λ (h : g.deadline k < bound_by g ν k). omega (arith, bound_most f μ l, deadline))
        (λ (h : bound_by g ν k ≤ g.deadline k). bound_smallest f μ l (bound_by g ν k) (admissible_lower (bound_by g ν k) (bound_admissible g ν k h)))
        (lt_or_ge (g.deadline k) (bound_by g ν k))

-- the slots that a flow above may take are no more
pub term_mono :
    (R carry other period shorter cost more : ℕ)
    → 1 ≤ shorter
    → shorter ≤ period
    → carry ≤ other
    → cost ≤ more
    → instances R carry period * cost ≤ instances R other shorter * more
term_mono R carry other period shorter cost more some longer less cheaper =
    mul-le-mul (instances_mono R R carry other period shorter some longer (omega arith) less) cheaper

-- flow l has no more above it, or of its own, by one set of facts and measure than by another
pub record Lighter (f g : Facts) (μ ν : Measure) (l : ℕ) : Type 0 where
  pub deadline : f.deadline l ≡ g.deadline l
  pub len : f.len l ≤ g.len l
  pub period : (h : ℕ) → h < l → (1 ≤ g.period h) × (g.period h ≤ f.period h)
  pub carries : (h : ℕ) → h < l → μ.carry h ≤ ν.carry h
  pub costs : (h : ℕ) → h < l → μ.cost l h ≤ ν.cost l h

module _ (f g : Facts) (μ ν : Measure) (l : ℕ) (a : Lighter f g μ ν l) where
  needed_mono : (R : ℕ) → slots_needed f μ l R ≤ slots_needed g ν l R
  unfolding slots_needed
  needed_mono R =
      add-le-add a.len
      (sum_mono (λ (h : ℕ). instances R (μ.carry h) (f.period h) * μ.cost l h)
      (λ (h : ℕ). instances R (ν.carry h) (g.period h) * ν.cost l h) l
      (λ h b.
      term_mono R (μ.carry h) (ν.carry h) (f.period h) (g.period h) (μ.cost l h) (ν.cost l h) (a.period h b).0 (a.period h b).1 (a.carries h b)
      (a.costs h b)))

  pub bound_mono : bound_by f μ l ≤ bound_by g ν l
  bound_mono = bound_lower f g μ ν l l a.deadline a.len needed_mono

-- by the same facts and costs, a shorter carry-in
pub carry_mono :
    (f : Facts) (cost : ℕ → ℕ → ℕ) (carry other : ℕ → ℕ) (l : ℕ)
    → ((h : ℕ) → h < l → 1 ≤ f.period h)
    → ((h : ℕ) → h < l → carry h ≤ other h)
    → bound_by f (record { cost = cost; carry = carry }) l ≤ bound_by f (record { cost = cost; carry = other }) l
carry_mono f cost carry other l period carries =
    bound_mono f f (record { cost = cost; carry = carry }) (record { cost = cost; carry = other }) l
    (record {
      deadline = refl;
      len = omega arith;
      period = λ h b. (period h b, omega arith);
      carries = carries;
      costs = λ h b. omega arith;
    })

-- THE FAIR COUNT: where the deadline count gives every flow above a bound, no bound rises
module _ (f : Facts) (cost : ℕ → ℕ → ℕ) (periods : (h : ℕ) → h < f.flows → 1 ≤ f.period h) where
  fair_below :
      (n l : ℕ)
      → l < n
      → l < f.flows
      → ((h : ℕ) → h < l → bound_by f (deadlined f cost) h ≤ f.deadline h)
      → bound_by f (fairly f cost) l ≤ bound_by f (deadlined f cost) l
  fair_below zero l b p has = absurd (omega arith)
  fair_below (suc n) l b p has =
      carry_mono f cost (fairly f cost).carry f.deadline l (λ h q. periods h (omega arith))
      (λ h q. omega (arith, fair_carry f cost h, fair_below n h (omega arith) (omega arith) (λ k r. has k (omega arith)), has h q))

  pub fair_lower :
      (l : ℕ)
      → l < f.flows
      → ((h : ℕ) → h < l → bound_by f (deadlined f cost) h ≤ f.deadline h)
      → bound_by f (fairly f cost) l ≤ bound_by f (deadlined f cost) l
  fair_lower l p has = fair_below (suc l) l (omega arith) p has

  -- so what it accepts is accepted
  pub fair_accepts :
      ((l : ℕ) → l < f.flows → bound_by f (deadlined f cost) l ≤ f.deadline l)
      → (l : ℕ)
      → l < f.flows
      → bound_by f (fairly f cost) l ≤ f.deadline l
  fair_accepts has l p = omega (arith, fair_lower l p (λ h q. has h (omega arith)), has l p)
