-- Sums, largest values and lists over indices. Leans on First. Assumes nothing.
use Prim.Native.Nat.{ℕ, zero, suc, ◌+◌, ◌-◌, ◌*◌, ◌≤◌, ◌<◌, max}
use mathlib.Core.Path.{◌≡◌, refl, sym, ◌∙◌, ap, ap₂}
use mathlib.Core.Logic.{⊎_elim}
use native.Mathlib.Omega.{arith}
use native.Mathlib.Nat.{zero-add, add-zero, add-suc, mul-suc, add-le-add, le_trans, le-max_left, le-max_right, max-le, max-eq_left, max-eq_right}
use lib.ListN.{length, get_or}
use lib.Seq.{ext_get_or}
use Rattle.trade.specs.First.{sum_to, largest_from, list_from, list_to}
use Rattle.trade.proofs.First.{lt_or_ge}

-- figures that agree below n have the same sum, and smaller figures a smaller one
pub sum_cong : (f g : ℕ → ℕ) (n : ℕ) → ((i : ℕ) → i < n → f i ≡ g i) → sum_to f n ≡ sum_to g n
unfolding sum_to
sum_cong f g zero e = refl
sum_cong f g (suc n) e = ap₂ (λ (a b : ℕ). a + b) (sum_cong f g n (λ i h. e i (omega arith))) (e n (omega arith))

pub sum_mono : (f g : ℕ → ℕ) (n : ℕ) → ((i : ℕ) → i < n → f i ≤ g i) → sum_to f n ≤ sum_to g n
unfolding sum_to
sum_mono f g zero e = omega arith
sum_mono f g (suc n) e = add-le-add (sum_mono f g n (λ i h. e i (omega arith))) (e n (omega arith))

-- one more index adds its figure
pub sum_next : (f : ℕ → ℕ) (n : ℕ) → sum_to f (suc n) ≡ sum_to f n + f n
unfolding sum_to
sum_next f n = refl

-- figures of at most b each
pub sum_most : (f : ℕ → ℕ) (b n : ℕ) → ((i : ℕ) → i < n → f i ≤ b) → sum_to f n ≤ b * n
unfolding sum_to
sum_most f b zero h = omega arith
sum_most f b (suc n) h = rw (mul-suc b n) (add-le-add (sum_most f b n (λ i l. h i (omega arith))) (h n (omega arith)))

-- a sum over fewer indices is no larger
pub sum_le : (f : ℕ → ℕ) (m n : ℕ) → m ≤ n → sum_to f m ≤ sum_to f n
unfolding sum_to
sum_le f m zero h = let e : m ≡ 0 = omega arith in rw e (omega arith)
sum_le f m (suc n) h =
    ⊎_elim (λ (l : m < suc n). le_trans (sum_le f m n (omega arith)) (omega arith))
    (λ (g : suc n ≤ m). let e : m ≡ suc n = omega arith in rw e (omega arith))
    (lt_or_ge m (suc n))

-- a sum in two parts
pub sum_split : (f : ℕ → ℕ) (m n : ℕ) → sum_to f (m + n) ≡ sum_to f m + sum_to (λ i. f (m + i)) n
unfolding sum_to
sum_split f m zero = rw (add-zero m) (omega arith)
sum_split f m (suc n) = rw (add-suc m n, sum_split f m n) (omega arith)

pub sum_rest : (f : ℕ → ℕ) (m n : ℕ) → m ≤ n → sum_to f n ≡ sum_to f m + sum_to (λ i. f (m + i)) (n - m)
sum_rest f m n h = let e : n ≡ m + (n - m) = omega arith in ap (sum_to f) e ∙ sum_split f m (n - m)

-- no value is above the largest, a bound on every value is one on the largest, and some value is the largest
pub largest_above : (f : ℕ → ℕ) (i k c : ℕ) → i ≤ c → c < i + k → f c ≤ largest_from f i k
unfolding largest_from
largest_above f i zero c h l = absurd (omega arith)
largest_above f i (suc k) c h l =
    ⊎_elim (λ (s : i < c). le_trans (largest_above f (suc i) k c s (omega arith)) (le-max_right (f i) (largest_from f (suc i) k)))
    (λ (s : c ≤ i). let e : c ≡ i = omega arith in rw e (le-max_left (f i) (largest_from f (suc i) k)))
    (lt_or_ge i c)

pub largest_below : (f : ℕ → ℕ) (i k b : ℕ) → ((c : ℕ) → i ≤ c → c < i + k → f c ≤ b) → largest_from f i k ≤ b
unfolding largest_from
largest_below f i zero b h = omega arith
largest_below f i (suc k) b h = max-le (h i (omega arith) (omega arith)) (largest_below f (suc i) k b (λ c l u. h c (omega arith) (omega arith)))

pub largest_reached : (f : ℕ → ℕ) (i k : ℕ) → (c : ℕ) × (i ≤ c) × (c < i + suc k) × (f c ≡ largest_from f i (suc k))
unfolding largest_from
largest_reached f i zero = (i, omega arith, omega arith, sym (max-eq_left (omega arith)))
largest_reached f i (suc k) =
    let r = largest_reached f (suc i) k in
    ⊎_elim
    (λ (s : f i < largest_from f (suc i) (suc k)).
    (r.0, omega (arith, r.1), omega (arith, r.2), r.3 ∙ sym (max-eq_right (omega arith))))
    (λ (s : largest_from f (suc i) (suc k) ≤ f i). (i, omega arith, omega arith, sym (max-eq_left s)))
    (lt_or_ge (f i) (largest_from f (suc i) (suc k)))

pub largest_cong : (f g : ℕ → ℕ) (i k : ℕ) → ((c : ℕ) → i ≤ c → c < i + k → f c ≡ g c) → largest_from f i k ≡ largest_from g i k
unfolding largest_from
largest_cong f g i zero e = refl
largest_cong f g i (suc k) e =
    ap₂ (λ (a b : ℕ). max a b) (e i (omega arith) (omega arith)) (largest_cong f g (suc i) k (λ c l u. e c (omega arith) (omega arith)))

-- a list over indices: its length, and what stands at an index
pub length_list_from : (f : ℕ → ℕ) (i k : ℕ) → length (list_from f i k) ≡ k
unfolding list_from
length_list_from f i zero = refl
length_list_from f i (suc k) = ap suc (length_list_from f (suc i) k)

pub get_d_list_from : (f : ℕ → ℕ) (i k j : ℕ) → j < k → get_or (list_from f i k) j 0 ≡ f (i + j)
unfolding list_from
get_d_list_from f i zero j h = absurd (omega arith)
get_d_list_from f i (suc k) zero h = ap f (omega arith)
get_d_list_from f i (suc k) (suc j) h = get_d_list_from f (suc i) k j (omega arith) ∙ ap f (omega arith)

pub length_list_to : (f : ℕ → ℕ) (n : ℕ) → length (list_to f n) ≡ n
unfolding list_to
length_list_to f n = length_list_from f 0 n

pub get_d_list_to : (f : ℕ → ℕ) (n j : ℕ) → j < n → get_or (list_to f n) j 0 ≡ f j
unfolding list_to
get_d_list_to f n j h = get_d_list_from f 0 n j h ∙ ap f (zero-add j)

-- figures that agree below n make the same list
pub list_to_same : (f g : ℕ → ℕ) (n : ℕ) → ((i : ℕ) → i < n → f i ≡ g i) → list_to f n ≡ list_to g n
list_to_same f g n e =
    ext_get_or 0 (list_to f n) (list_to g n) (length_list_to f n ∙ sym (length_list_to g n))
    (λ i h.
    let i< : i < n = omega (arith, length_list_to f n) in
    get_d_list_to f n i i< ∙ e i i< ∙ sym (get_d_list_to g n i i<))
