-- Laws of `sum_to`, the sum of a figure over the indices below n. Assumes nothing.
use Prim.Native.Nat.{ℕ, zero, suc, ◌+◌, ◌≤◌, ◌<◌}
use mathlib.Core.Path.{◌≡◌, refl}
use native.Mathlib.Omega.{arith}
use Rattle.response.proofs.Cases.{by_order}
use Rattle.trade.specs.First.{sum_to}

-- the sum of two figures is the sum of their sums
pub sum_add : (f g : ℕ → ℕ) (n : ℕ) → sum_to (λ i. f i + g i) n ≡ sum_to f n + sum_to g n
unfolding sum_to
sum_add f g zero = refl
sum_add f g (suc n) = omega (arith, sum_add f g n)

-- the sum is at least each of its parts
pub sum_member : (f : ℕ → ℕ) (n i : ℕ) → i < n → f i ≤ sum_to f n
unfolding sum_to
sum_member f zero i h = omega arith
sum_member f (suc n) i h =
    by_order n i (λ p. let e : i ≡ n = omega arith in rw e (omega arith)) (λ p. omega (arith, sum_member f n i p))
