-- Laws of `worst`, the largest count of conflicts that any choice reaches, and that it is a potential: the one of the greedy rule.
-- Assumes nothing.
use Prim.Native.Nat.{ℕ, zero, suc, ◌-◌, ◌≤◌}
use mathlib.Core.Path.{◌≡◌, refl}
use native.Mathlib.Omega.{arith}
use Rattle.trade.specs.Interference.{Matrix, worst, worst_path}
use Rattle.trade.proofs.Interference.{worst_past, worst_row}
use Rattle.response.specs.Window.{Potential}
use Rattle.response.proofs.Cases.{by_order, never_rises}

-- so many rows and columns of marks
module _ (marks : Matrix) (rows : ℕ) where
  -- no step of h is left
  pub worst_none : (i j : ℕ) → worst marks rows i j 0 ≡ 0
  unfolding worst
  worst_none i j = refl

  -- fewer rows are no worse
  pub worst_falls : (i j k : ℕ) → worst marks rows (suc i) j k ≤ worst marks rows i j k
  worst_falls i j zero = omega (arith, worst_none (suc i) j)
  worst_falls i j (suc k) =
      by_order rows i (λ over. omega (arith, worst_past marks rows (suc i) j (suc k) (omega arith))) (λ i<. omega (arith, worst_row marks rows i j k i<))

  -- the worst count from row i and column j on is a potential, and its top is the worst path
  pub worst_potential :
      (columns : ℕ) → Potential marks rows columns (worst_path marks rows columns) (λ i j. worst marks rows i j (columns - j))
  unfolding worst_path
  worst_potential columns =
      record {
        falls = λ i j. worst_falls i j (columns - j);
        pays =
            λ i j i< j<.
            let e : columns - j ≡ suc (columns - suc j) = omega arith in
            rw e (omega (arith, worst_row marks rows i j (columns - suc j) i<));
        starts =
            λ i.
            let e : columns - 0 ≡ columns = omega arith in
            rw e (never_rises (λ n. worst marks rows n 0 columns) (λ n. worst_falls n 0 columns) 0 i (omega arith));
        ends = λ i j over. let e : columns - j ≡ 0 = omega arith in rw e (worst_none i j);
      }
