-- The first index at which a test holds. Codes 5, 6, 8, 9, 10, 11 and 17 report it, and the response bound is one. Leans on nothing.
use Rattle.std.specs.Prelude.{ℕ, zero, suc, ◌+◌, max, Bool, true, false, List, [], ◌∷◌, ltb}

-- among the k indices from i on, the first at which the test holds; i + k where it holds at none
unfoldable pub first_from : (ℕ → Bool) → ℕ → ℕ → ℕ
first_from test i zero = i
first_from test i (suc k) = elim (test i) [ true ↦ i | false ↦ first_from test (suc i) k ]

-- the first index below n at which the test holds; n where it holds at none
unfoldable pub first : (ℕ → Bool) → ℕ → ℕ
first test n = first_from test 0 n

-- the test holds at some index below n
unfoldable pub some : (ℕ → Bool) → ℕ → Bool
some test n = ltb (first test n) n

-- the sum of a figure over the indices below n
unfoldable pub sum_to : (ℕ → ℕ) → ℕ → ℕ
sum_to figure zero = 0
sum_to figure (suc n) = sum_to figure n + figure n

-- the largest of a figure's values at the k indices from i on; 0 where k is 0
unfoldable pub largest_from : (ℕ → ℕ) → ℕ → ℕ → ℕ
largest_from figure i zero = 0
largest_from figure i (suc k) = max (figure i) (largest_from figure (suc i) k)

-- a figure's values at the k indices from i on, as a list
unfoldable pub list_from : (ℕ → ℕ) → ℕ → ℕ → List ℕ
list_from figure i zero = []
list_from figure i (suc k) = figure i ∷ list_from figure (suc i) k

-- a figure's values at the indices below n, as a list
unfoldable pub list_to : (ℕ → ℕ) → ℕ → List ℕ
list_to figure n = list_from figure 0 n
