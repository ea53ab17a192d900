-- Interference of a higher flow h on a flow l: first what it is, for the reader, and then as it is computed, which the bound takes.
-- Leans on Conflict and Facts.
use Rattle.std.specs.Prelude.{ℕ, zero, suc, ◌+◌, ◌-◌, ◌≤◌, ◌<◌, ◌≡◌, Bool, cond, List, [], ◌∷◌}
use Rattle.trade.specs.First.{largest_from}
use Rattle.trade.specs.Facts.{Facts, step_of}
use Rattle.trade.specs.Conflict.{conflict}

-- the conflict matrix: whether step i of l (a row) conflicts with step j of h (a column)
abbrev pub Matrix : Type 0
Matrix = ℕ → ℕ → Bool

-- a conflicting pair counts one
unfoldable pub one : Bool → ℕ
one marked = cond marked 1 0

-- a choice: for each of k steps of h in order, a step of l, the choices never going back behind step i
pub data Choice (rows : ℕ) : ℕ → ℕ → List ℕ → Type 0 where
  chosen : {i : ℕ} → Choice rows i zero []
  choose : {i k c : ℕ} {cs : List ℕ} → i ≤ c → c < rows → Choice rows c k cs → Choice rows i (suc k) (c ∷ cs)

-- its count of conflicting pairs, from step j of h on
unfoldable pub count_of : Matrix → ℕ → List ℕ → ℕ
count_of marks j [] = 0
count_of marks j (c ∷ cs) = one (marks c j) + count_of marks (suc j) cs

-- the largest count that any choice reaches: no choice counts more, and one counts as much
pub record Largest (marks : Matrix) (rows columns top : ℕ) : Type 0 where
  pub at_most : (cs : List ℕ) → Choice rows 0 columns cs → count_of marks 0 cs ≤ top
  pub reached : (cs : List ℕ) × Choice rows 0 columns cs × (count_of marks 0 cs ≡ top)

-- the matrix of flows l and h
unfoldable pub matrix : Facts → ℕ → ℕ → Matrix
matrix f l h i j = conflict f.disturbs (step_of f l i) (step_of f h j)

-- I(l,h) is the largest count for the plans of l and h. An l with no step leaves nothing to choose, and no count; a well-formed plan has a
-- step
abbrev pub IsInterference : Facts → ℕ → ℕ → ℕ → Type 0
IsInterference f l h I = Largest (matrix f l h) (f.len l) (f.len h) I

-- the count as it is computed: for each of the k steps of h from j on, in order, choose a step of l, the choices never going back behind
-- step i, and take the largest count of conflicting pairs
unfoldable pub worst : Matrix → ℕ → ℕ → ℕ → ℕ → ℕ
worst marks rows i j zero = 0
worst marks rows i j (suc k) = largest_from (λ c. one (marks c j) + worst marks rows c (suc j) k) i (rows - i)

-- the worst path through a whole matrix of so many rows and columns
unfoldable pub worst_path : Matrix → ℕ → ℕ → ℕ
worst_path marks rows columns = worst marks rows 0 0 columns

-- I(l,h) as it is computed. It is the I(l,h) above, by `interference_largest`, and no other number is, by `interference_unique`
unfoldable pub interference : Facts → ℕ → ℕ → ℕ
interference f l h = worst_path (matrix f l h) (f.len l) (f.len h)
