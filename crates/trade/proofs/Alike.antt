-- Facts that say the same of their first k flows: by measures that agree on them, these flows have the same bounds, whatever stands
-- below them. Leans on Conflict, Interference, Sums and Valid.
-- Assumes nothing.
use Prim.Native.Nat.{ℕ, suc, ◌+◌, ◌<◌}
use mathlib.Core.Path.{◌≡◌, refl, ◌∙◌, ap, ap₂}
use mathlib.Core.Bool.{not}
use mathlib.Core.List.{List}
use native.Mathlib.Omega.{arith}
use lib.Dec.{leb}
use Rattle.trade.specs.Limits.{most_flows}
use Rattle.trade.specs.First.{first, list_to}
use Rattle.trade.specs.Bytes.{padded}
use Rattle.trade.specs.Facts.{Facts, facts_of, facts_in, first_step, step_of}
use Rattle.trade.specs.Conflict.{conflict}
use Rattle.trade.specs.Interference.{matrix, worst_path, interference}
use Rattle.trade.specs.Bound.{Measure, by_interference, by_deadline, slots_needed, admissible, bound_by, boundless_by, code9_by}
use Rattle.trade.specs.Calls.{bounds_by}
use Rattle.trade.proofs.First.{first_cong}
use Rattle.trade.proofs.Sums.{sum_cong, list_to_same}
use Rattle.trade.proofs.Conflict.{conflict_same}
use Rattle.trade.proofs.Interference.{paths_agree}
use Rattle.trade.proofs.Answers.{given_first_same}
use Rattle.trade.proofs.Valid.{Placed}

-- the first k flows have the same records and the same plans, and any two steps of theirs conflict alike
pub record Alike (k : ℕ) (f g : Facts) : Type 0 where
  pub id : (i : ℕ) → i < k → f.id i ≡ g.id i
  pub phase : (i : ℕ) → i < k → f.phase i ≡ g.phase i
  pub period : (i : ℕ) → i < k → f.period i ≡ g.period i
  pub deadline : (i : ℕ) → i < k → f.deadline i ≡ g.deadline i
  pub len : (i : ℕ) → i < k → f.len i ≡ g.len i
  pub steps : (i j : ℕ) → i < k → j < f.len i → step_of f i j ≡ step_of g i j
  pub conflicts :
      (l h i j : ℕ) → l < k → h < k → i < f.len l → j < f.len h → matrix f l h i j ≡ matrix g l h i j

-- the first k flows have the same plan lengths, periods and deadlines: all that a bound reads of the facts
pub record SameTimes (k : ℕ) (f g : Facts) : Type 0 where
  pub len : (i : ℕ) → i < k → f.len i ≡ g.len i
  pub period : (i : ℕ) → i < k → f.period i ≡ g.period i
  pub deadline : (i : ℕ) → i < k → f.deadline i ≡ g.deadline i

pub times_self : (k : ℕ) (f : Facts) → SameTimes k f f
times_self k f = record { len = λ i h. refl; period = λ i h. refl; deadline = λ i h. refl }

pub alike_times : {k : ℕ} {f g : Facts} → Alike k f g → SameTimes k f g
alike_times a = record { len = a.len; period = a.period; deadline = a.deadline }

-- facts are alike themselves
pub alike_self : (k : ℕ) (f : Facts) → Alike k f f
alike_self k f =
    record {
      id = λ i h. refl;
      phase = λ i h. refl;
      period = λ i h. refl;
      deadline = λ i h. refl;
      len = λ i h. refl;
      steps = λ i j h l. refl;
      conflicts = λ l h i j p q u v. refl;
    }

-- and so are those of the same sections with other counts
pub alike_counts :
    (k n m n' m' : ℕ) (rows records steps : List ℕ) → Alike k (facts_in n m rows records steps) (facts_in n' m' rows records steps)
unfolding facts_of matrix step_of first_step
alike_counts k n m n' m' rows records steps =
    record {
      id = λ i h. refl;
      phase = λ i h. refl;
      period = λ i h. refl;
      deadline = λ i h. refl;
      len = λ i h. refl;
      steps = λ i j h l. refl;
      conflicts = λ l h i j p q u v. refl;
    }

-- so the same steps conflict alike where they are placed among nodes that disturb one another alike
pub conflicts_placed :
    (k n : ℕ) (f g : Facts)
    → ((x y : ℕ) → x < n → y < n → f.disturbs x y ≡ g.disturbs x y)
    → ((i j : ℕ) → i < k → j < f.len i → Placed n (step_of f i j))
    → ((i j : ℕ) → i < k → j < f.len i → step_of f i j ≡ step_of g i j)
    → (l h i j : ℕ)
    → l < k
    → h < k
    → i < f.len l
    → j < f.len h
    → matrix f l h i j ≡ matrix g l h i j
unfolding matrix
conflicts_placed k n f g disturbs placed steps l h i j p q u v =
    conflict_same n f.disturbs g.disturbs (step_of f l i) (step_of f h j) disturbs (placed l i p u) (placed h j q v)
    ∙ ap₂ (conflict g.disturbs) (steps l i p u) (steps h j q v)

-- measures that agree on the pairs of the first k flows
pub record SameMeasure (k : ℕ) (μ ν : Measure) : Type 0 where
  pub cost : (l h : ℕ) → l < k → h < l → μ.cost l h ≡ ν.cost l h
  pub carry : (l h : ℕ) → l < k → h < l → μ.carry h ≡ ν.carry h

-- THE FIRST k FLOWS DECIDE THEIR OWN BOUNDS, by their times and their measure
module _ (k : ℕ) (f g : Facts) (t : SameTimes k f g) (μ ν : Measure) (same : SameMeasure k μ ν) where
  needed_times : (l R : ℕ) → l < k → slots_needed f μ l R ≡ slots_needed g ν l R
  unfolding slots_needed
  needed_times l R p =
      ap₂ ◌+◌ (t.len l p)
      (sum_cong _ _ l (λ h b. rw (same.carry l h p b, t.period h (omega arith), same.cost l h p b)))

  pub bound_times : (l : ℕ) → l < k → bound_by f μ l ≡ bound_by g ν l
  unfolding bound_by admissible
  bound_times l p =
      first_cong _ _ (suc (f.deadline l)) (λ R h. rw (needed_times l R p, t.len l p, t.deadline l p))
      ∙ ap (λ (d : ℕ). first (admissible g ν l) (suc d)) (t.deadline l p)

  pub boundless_times : (l : ℕ) → l < k → boundless_by f μ l ≡ boundless_by g ν l
  unfolding boundless_by
  boundless_times l p = ap₂ (λ (r d : ℕ). not (leb r d)) (bound_times l p) (t.deadline l p)

module _ (k : ℕ) (f g : Facts) (a : Alike k f g) where
  pub interference_alike : (l h : ℕ) → l < k → h < k → interference f l h ≡ interference g l h
  unfolding interference
  interference_alike l h p q =
      paths_agree (matrix f l h) (matrix g l h) (f.len l) (f.len h) (λ i j u v. a.conflicts l h i j p q u v)
      ∙ ap₂ (worst_path (matrix g l h)) (a.len l p) (a.len h q)

  -- so by interference the measures agree where the carry-in does, as that of the deadlines does
  pub by_interference_alike :
      (carry other : ℕ → ℕ)
      → ((l h : ℕ) → l < k → h < l → carry h ≡ other h)
      → SameMeasure k (by_interference f carry) (by_interference g other)
  by_interference_alike carry other c = record { cost = λ l h p b. interference_alike l h p (omega arith); carry = c }

  pub deadline_alike : SameMeasure k (by_deadline f) (by_deadline g)
  deadline_alike = by_interference_alike f.deadline g.deadline (λ l h p b. a.deadline h (omega arith))

  module _ (μ ν : Measure) (same : SameMeasure k μ ν) where
    pub bound_prefix : (l : ℕ) → l < k → bound_by f μ l ≡ bound_by g ν l
    bound_prefix = bound_times k f g (alike_times a) μ ν same

-- facts of the same times on all their flows have the same code 9 and bounds
module _
    (f g : Facts)
    (m : f.flows ≡ g.flows)
    (t : SameTimes f.flows f g)
    (μ ν : Measure)
    (same : SameMeasure f.flows μ ν)
  where
    pub code9_times : code9_by f μ ≡ code9_by g ν
    unfolding code9_by
    code9_times =
        given_first_same 9 (boundless_by f μ) (boundless_by g ν) f.flows g.flows m (boundless_times f.flows f g t μ ν same)

    pub bounds_times : bounds_by f μ ≡ bounds_by g ν
    unfolding bounds_by
    bounds_times =
        ap (padded most_flows)
        (list_to_same (bound_by f μ) (bound_by g ν) f.flows (bound_times f.flows f g t μ ν same)
        ∙ ap (list_to (bound_by g ν)) m)

-- and so have facts that are alike on all of them
module _
    (f g : Facts)
    (m : f.flows ≡ g.flows)
    (a : Alike f.flows f g)
    (μ ν : Measure)
    (same : SameMeasure f.flows μ ν)
  where
    pub code9_alike : code9_by f μ ≡ code9_by g ν
    code9_alike = code9_times f g m (alike_times a) μ ν same

    pub bounds_alike : bounds_by f μ ≡ bounds_by g ν
    bounds_alike = bounds_times f g m (alike_times a) μ ν same
