-- What is computed of interference is the largest count that any choice reaches, and nothing else is. Leans on Sums. Assumes nothing.
use Prim.Native.Nat.{ℕ, zero, suc, ◌+◌, ◌-◌, ◌≤◌, ◌<◌, max}
use mathlib.Core.Path.{◌≡◌, refl, sym, ◌∙◌, ap, ap₂}
use mathlib.Core.Bool.{Bool}
use mathlib.Core.List.{List, [], ◌∷◌}
use native.Mathlib.Omega.{arith}
use native.Mathlib.Nat.{le_trans, add-le-add, add-suc, zero-add}
use Rattle.trade.specs.First.{largest_from}
use Rattle.trade.specs.Facts.{Facts}
use Rattle.trade.specs.Interference.{Matrix, one, Choice, chosen, choose, count_of, Largest, matrix, IsInterference, worst, worst_path, interference}
use Rattle.trade.proofs.Sums.{largest_above, largest_reached, largest_cong}

-- every choice counts at most the worst
pub choice_at_most : (marks : Matrix) (rows : ℕ) {i k : ℕ} {cs : List ℕ} (j : ℕ) → Choice rows i k cs → count_of marks j cs ≤ worst marks rows i j k
unfolding count_of worst
choice_at_most marks rows j chosen = omega arith
choice_at_most marks rows j (choose {i = i} {k = k} {c = c} l u rest) =
    le_trans (add-le-add (omega arith) (choice_at_most marks rows (suc j) rest))
    (largest_above (λ (d : ℕ). one (marks d j) + worst marks rows d (suc j) k) i (rows - i) c l (omega arith))

-- some choice reaches it, where l has a step to choose
pub choice_reached : (marks : Matrix) (rows i j k : ℕ) → i < rows → (cs : List ℕ) × Choice rows i k cs × (count_of marks j cs ≡ worst marks rows i j k)
unfolding count_of worst
choice_reached marks rows i j zero h = ([], chosen, refl)
choice_reached marks rows i j (suc k) h =
    let f : ℕ → ℕ = λ d. one (marks d j) + worst marks rows d (suc j) k in
    let n : rows - i ≡ suc (rows - suc i) = omega arith in
    let c = largest_reached f i (rows - suc i) in
    let r = choice_reached marks rows c.0 (suc j) k (omega (arith, c.2)) in (
      c.0 ∷ r.0,
      choose c.1 (omega (arith, c.2)) r.1,
      ap (λ (w : ℕ). one (marks c.0 j) + w) r.2 ∙ c.3 ∙ ap (λ (m : ℕ). largest_from f i m) (sym n),
    )

-- one number at most is the largest count
pub largest_unique : {marks : Matrix} {rows columns a b : ℕ} → Largest marks rows columns a → Largest marks rows columns b → a ≡ b
largest_unique p q =
    let x = p.reached in
    let y = q.reached in
    omega (arith, x.2, y.2, q.at_most x.0 x.1, p.at_most y.0 y.1)

-- what is computed is I(l,h), where l has a step to choose, and nothing else is
pub interference_largest : (f : Facts) (l h : ℕ) → 0 < f.len l → IsInterference f l h (interference f l h)
unfolding interference worst_path
interference_largest f l h p =
    record {
      at_most = λ cs c. choice_at_most (matrix f l h) (f.len l) 0 c;
      reached = choice_reached (matrix f l h) (f.len l) 0 0 (f.len h) p;
    }

pub interference_unique : (f : Facts) (l h I : ℕ) → 0 < f.len l → IsInterference f l h I → I ≡ interference f l h
interference_unique f l h I p q = largest_unique q (interference_largest f l h p)

-- past l's last step nothing is left to choose; at an earlier step, choose it or go on to the next
pub worst_past : (marks : Matrix) (rows i j k : ℕ) → rows ≤ i → worst marks rows i j k ≡ 0
unfolding worst largest_from
worst_past marks rows i j zero h = refl
worst_past marks rows i j (suc k) h = let e : rows - i ≡ 0 = omega arith in rw e

pub worst_row :
    (marks : Matrix) (rows i j k : ℕ)
    → i < rows
    → worst marks rows i j (suc k) ≡ max (one (marks i j) + worst marks rows i (suc j) k) (worst marks rows (suc i) j (suc k))
unfolding worst largest_from
worst_row marks rows i j k h = let e : rows - i ≡ suc (rows - suc i) = omega arith in rw e

-- matrices that agree at every step of l and of h, the columns of one standing so many places further, have the same worst path
pub worst_shifted :
    (marks other : Matrix) (rows d k i j : ℕ)
    → ((c b : ℕ) → c < rows → b < j + k → marks c (d + b) ≡ other c b)
    → worst marks rows i (d + j) k ≡ worst other rows i j k
unfolding worst
worst_shifted marks other rows d zero i j same = refl
worst_shifted marks other rows d (suc k) i j same =
    largest_cong _ _ i (rows - i)
    (λ c l u.
    ap₂ (λ (m : Bool) (w : ℕ). one m + w) (same c j (omega arith) (omega arith))
    (rw (← add-suc d j) (worst_shifted marks other rows d k c (suc j) (λ e b g h. same e b g (omega arith)))))

pub paths_agree :
    (marks other : Matrix) (rows columns : ℕ)
    → ((i j : ℕ) → i < rows → j < columns → marks i j ≡ other i j)
    → worst_path marks rows columns ≡ worst_path other rows columns
unfolding worst_path
paths_agree marks other rows columns e =
    worst_shifted marks other rows 0 columns 0 0 (λ c b l h. rw (zero-add b) (e c b l (omega arith)))
