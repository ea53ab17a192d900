-- The search for the smallest R that is at least what is needed within it, from below. What is needed grows with R, so an R that needs
-- more rules out every one up to what it needs. Leans on the trade's First, Sums and Instances. Assumes nothing.
use Prim.Native.Nat.{ℕ, suc, ◌+◌, ◌*◌, ◌≤◌, ◌<◌}
use mathlib.Core.Path.{◌≡◌, refl, ◌∙◌, ap}
use mathlib.Core.Bool.{Bool, false, ◌&&◌, and-false}
use mathlib.Core.List.{List}
use mathlib.Core.Logic.{⊎_elim}
use native.Mathlib.Omega.{arith}
use native.Mathlib.Nat.{add-le-add, mul-le-mul, mul-le-mul_right}
use lib.Dec.{leb}
use lib.ListN.{get_or}
use borrow.Author.Tests.{le-leb, lt-leb}
use Rattle.trade.specs.Facts.{Facts}
use Rattle.trade.specs.Bound.{instances, Measure, slots_needed, admissible, bound_by}
use Rattle.trade.proofs.First.{lt_or_ge, first_unique, first_none, first_cong}
use Rattle.trade.proofs.Sums.{sum_mono, sum_cong}
use Rattle.trade.proofs.Instances.{instances_mono, instances_least}
use Rattle.bounds.specs.Terms.{Terms, needed_in, least_in, smallest_in}

module _ (needed : ℕ → ℕ) (len deadline : ℕ) where
  -- R is from L to D, and at least what is needed within it
  abbrev pub enough : ℕ → Bool
  enough R = leb len R && leb R deadline && leb (needed R) R

  -- none below r is
  abbrev pub NoneBelow : ℕ → Type 0
  NoneBelow r = (j : ℕ) → j < r → enough j ≡ false

  -- no R below L is, and past one that needs more none is up to what it needs
  pub none_at_first : NoneBelow len
  none_at_first j h = rw (lt-leb len j h)

  pub none_under : (least : ℕ) → ((r : ℕ) → len ≤ r → least ≤ needed r) → NoneBelow least
  none_under least more j h =
      ⊎_elim (λ (b : j < len). none_at_first j b)
      (λ (b : len ≤ j). rw (lt-leb (needed j) j (omega (arith, more j b))) (and-false (leb len j && leb j deadline)))
      (lt_or_ge j len)

  pub none_further : ((r s : ℕ) → r ≤ s → needed r ≤ needed s) → (r : ℕ) → NoneBelow r → NoneBelow (needed r)
  none_further grows r before j h =
      ⊎_elim (λ (b : j < r). before j b)
      (λ (b : r ≤ j). rw (lt-leb (needed j) j (omega (arith, grows r j b))) (and-false (leb len j && leb j deadline)))
      (lt_or_ge j r)

  -- so the first that is has been found, or there is none
  pub found_smallest : (r : ℕ) → len ≤ r → r ≤ deadline → needed r ≤ r → NoneBelow r → smallest_in needed len deadline ≡ r
  unfolding smallest_in
  found_smallest r l d n before =
      first_unique enough (suc deadline) r (omega arith) before (λ h. rw (le-leb len r l, le-leb r deadline d, le-leb (needed r) r n))

  pub found_none : (r : ℕ) → deadline < r → NoneBelow r → smallest_in needed len deadline ≡ deadline + 1
  unfolding smallest_in
  found_none r d before = first_none enough (suc deadline) (λ j h. before j (omega arith)) ∙ omega arith

-- what is needed that agrees has the same smallest R
pub smallest_same :
    (needed other : ℕ → ℕ) (len deadline : ℕ)
    → ((R : ℕ) → needed R ≡ other R)
    → smallest_in needed len deadline ≡ smallest_in other len deadline
unfolding smallest_in
smallest_same needed other len deadline e =
    first_cong (enough needed len deadline) (enough other len deadline) (suc deadline)
    (λ R h. ap (λ (n : ℕ). leb len R && leb R deadline && leb n R) (e R))

-- what the three lists say is needed grows with R
pub needed_grows :
    (len k : ℕ) (figures periods carries : List ℕ)
    → Terms k figures periods carries
    → (r s : ℕ)
    → r ≤ s
    → needed_in len k figures periods carries r ≤ needed_in len k figures periods carries s
unfolding needed_in
needed_grows len k figures periods carries t r s h =
    add-le-add (omega arith)
    (sum_mono (λ (i : ℕ). instances r (get_or carries i 0) (get_or periods i 0) * get_or figures i 0)
    (λ (i : ℕ). instances s (get_or carries i 0) (get_or periods i 0) * get_or figures i 0) k
    (λ i l.
    mul-le-mul
    (instances_mono r s (get_or carries i 0) (get_or carries i 0) (get_or periods i 0) (get_or periods i 0) (t.period i l).0 (omega arith) h (omega arith))
    (omega arith)))

-- and within any R is at least one instance of each flow above
pub needed_least :
    (len k : ℕ) (figures periods carries : List ℕ)
    → Terms k figures periods carries
    → (r : ℕ)
    → 1 ≤ r
    → least_in len k figures ≤ needed_in len k figures periods carries r
unfolding needed_in least_in
needed_least len k figures periods carries t r h =
    add-le-add (omega arith)
    (sum_mono (λ (i : ℕ). get_or figures i 0) (λ (i : ℕ). instances r (get_or carries i 0) (get_or periods i 0) * get_or figures i 0) k
    (λ i l. at_least_one (get_or figures i 0) (instances_least r (get_or carries i 0) (get_or periods i 0) h (t.carry i l).0 (t.period i l).0)))
  where
    at_least_one : {n : ℕ} (cost : ℕ) → 1 ≤ n → cost ≤ n * cost
    at_least_one {n} cost h = omega (arith, mul-le-mul_right cost h)

-- a bound is the smallest R that is at least the slots needed within it
pub bound_is_smallest :
    (f : Facts) (μ : Measure) (l : ℕ) → bound_by f μ l ≡ smallest_in (slots_needed f μ l) (f.len l) (f.deadline l)
unfolding bound_by admissible smallest_in
bound_is_smallest f μ l = refl

-- lists that say what the facts and the measure do give the bound
pub bound_in :
    (f : Facts) (μ : Measure) (l : ℕ) (figures periods carries : List ℕ)
    → ((h : ℕ) → h < l → get_or figures h 0 ≡ μ.cost l h)
    → ((h : ℕ) → h < l → get_or periods h 0 ≡ f.period h)
    → ((h : ℕ) → h < l → get_or carries h 0 ≡ μ.carry h)
    → smallest_in (needed_in (f.len l) l figures periods carries) (f.len l) (f.deadline l) ≡ bound_by f μ l
unfolding slots_needed needed_in
bound_in f μ l figures periods carries i p c =
    rw (bound_is_smallest f μ l)
    (smallest_same (needed_in (f.len l) l figures periods carries) (slots_needed f μ l) (f.len l) (f.deadline l)
    (λ R.
    ap (λ (n : ℕ). f.len l + n)
    (sum_cong (λ (h : ℕ). instances R (get_or carries h 0) (get_or periods h 0) * get_or figures h 0)
    (λ (h : ℕ). instances R (μ.carry h) (f.period h) * μ.cost l h) l
    (λ h b. rw (i h b, p h b, c h b)))))
