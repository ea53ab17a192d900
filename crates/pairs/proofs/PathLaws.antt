-- The interference of two flows is that of the parts of a steps section that hold their plans, and repeated steps count once. Leans on the
-- plans' StepsLaws. Assumes nothing.
use Prim.Native.Nat.{ℕ, zero, suc, ◌+◌, ◌-◌, ◌*◌, ◌≤◌, ◌<◌, max}
use mathlib.Core.Path.{◌≡◌, refl, sym, ◌∙◌, ap, ap₂}
use mathlib.Core.Bool.{Bool, false}
use mathlib.Core.List.{List}
use mathlib.Core.Logic.{◌⊎◌, ⊎_elim}
use native.Mathlib.Omega.{arith}
use lib.ListN.{length}
use Rattle.trade.specs.Limits.{step_bytes}
use Rattle.trade.specs.Layout.{Sections}
use Rattle.trade.specs.Facts.{facts_of, disturbs_in, first_step, step_of}
use Rattle.trade.specs.Conflict.{conflict}
use Rattle.trade.specs.Interference.{Matrix, one, worst, worst_path, matrix, interference}
use Rattle.trade.proofs.Sums.{largest_below}
use Rattle.trade.proofs.Interference.{worst_past, worst_row, paths_agree}
use Rattle.plans.proofs.StepsLaws.{step_plan, steps_plan}
use Rattle.plans.specs.Plan.{steps_in, plan_in}
use Rattle.pairs.specs.Columns.{marks_of}

-- the part of the steps section that holds plan i, and that the section is long enough for it
abbrev pub plan_of : Sections → ℕ → List ℕ
plan_of s i = plan_in s.steps (first_step (facts_of s) i) ((facts_of s).len i)

abbrev pub Whole : Sections → ℕ → Type 0
Whole s i = step_bytes * (first_step (facts_of s) i + (facts_of s).len i) ≤ length s.steps

-- I(l,h) is the worst path through the matrix of the two plans, read out of the sections
pub interference_plans :
    (s : Sections) (l h : ℕ)
    → Whole s l
    → Whole s h
    → interference (facts_of s) l h ≡ worst_path (marks_of s.rows (plan_of s l) (plan_of s h)) (steps_in (plan_of s l)) (steps_in (plan_of s h))
unfolding interference matrix facts_of step_of
interference_plans s l h p q =
    rw (steps_plan s.steps (first_step (facts_of s) l) ((facts_of s).len l) p, steps_plan s.steps (first_step (facts_of s) h) ((facts_of s).len h) q)
    (paths_agree (matrix (facts_of s) l h) (marks_of s.rows (plan_of s l) (plan_of s h)) ((facts_of s).len l) ((facts_of s).len h)
    (λ i j u v.
    ap₂ (conflict (disturbs_in s.rows)) (sym (step_plan s.steps (first_step (facts_of s) l) ((facts_of s).len l) i u))
    (sym (step_plan s.steps (first_step (facts_of s) h) ((facts_of s).len h) j v))))

-- a matrix in which rows that follow each other and have the same marks are one row
module _
    (marks other : Matrix)
    (rows fewer columns : ℕ)
    (at : ℕ → ℕ)
    (agree : (i j : ℕ) → i < rows → j < columns → marks i j ≡ other (at i) j)
    (inside : (i : ℕ) → i < rows → at i < fewer)
    (next : (i : ℕ) → (at (suc i) ≡ at i) ⊎ (at (suc i) ≡ suc (at i)))
    (last : (i : ℕ) → suc i ≡ rows → suc (at i) ≡ fewer)
  where
    rows_once : (k d i j : ℕ) → i + suc d ≡ rows → j + k ≡ columns → worst marks rows i j k ≡ worst other fewer (at i) j k
    unfolding worst
    rows_once zero d i j e f = refl
    rows_once (suc k) zero i j e f =
        omega (
          arith,
          rw (agree i j (omega arith) (omega arith), rows_once k zero i (suc j) e (omega arith)) at (worst_row marks rows i j k (omega arith)),
          worst_past marks rows (suc i) j (suc k) (omega arith),
          worst_row other fewer (at i) j k (inside i (omega arith)),
          worst_past other fewer (suc (at i)) j (suc k) (omega (arith, last i (omega arith))),
        )
    rows_once (suc k) (suc d) i j e f =
        let here = rw (agree i j (omega arith) (omega arith), rows_once k (suc d) i (suc j) e (omega arith)) at (worst_row marks rows i j k (omega arith)) in
        let there = rows_once (suc k) d (suc i) j (omega arith) f in
        let row = worst_row other fewer (at i) j k (inside i (omega arith)) in
        ⊎_elim (λ (s : at (suc i) ≡ at i). omega (arith, here, row, rw s at there)) (λ (s : at (suc i) ≡ suc (at i)). omega (arith, here, row, rw s at there)) (next i)

    pub path_once : 0 < rows → at 0 ≡ 0 → worst_path marks rows columns ≡ worst_path other fewer columns
    unfolding worst_path
    path_once h first = rw first at (rows_once columns (rows - 1) 0 0 (omega arith) (omega arith))

-- columns without marks behind the others add nothing
module _
    (marks other : Matrix)
    (rows columns more : ℕ)
    (there : columns ≤ more)
    (same : (i j : ℕ) → i < rows → j < columns → other i j ≡ marks i j)
    (none : (i j : ℕ) → columns ≤ j → other i j ≡ false)
  where
    nothing : (d i j : ℕ) → columns ≤ j → worst other rows i j d ≤ 0
    unfolding worst one
    nothing zero i j h = omega arith
    nothing (suc d) i j h =
        largest_below (λ (c : ℕ). one (other c j) + worst other rows c (suc j) d) i (rows - i) 0
        (λ c l u. rw (none c j h) (omega (arith, nothing d c (suc j) (omega arith))))

    on : (k d n i j : ℕ) → n ≡ rows - i → j + k ≡ columns → worst other rows i j (k + d) ≡ worst marks rows i j k
    unfolding worst
    on zero d n i j e f = let z : 0 + d ≡ d = omega arith in rw z (omega (arith, nothing d i j (omega arith)))
    on (suc k) d zero i j e f = worst_past other rows i j (suc k + d) (omega arith) ∙ sym (worst_past marks rows i j (suc k) (omega arith))
    on (suc k) d (suc n) i j e f =
        let s : suc k + d ≡ suc (k + d) = omega arith in
        rw s
        (worst_row other rows i j (k + d) (omega arith)
        ∙ ap₂ (λ (x y : ℕ). max x y)
        (ap₂ (λ (x : Bool) (y : ℕ). one x + y) (same i j (omega arith) (omega arith)) (on k d (suc n) i (suc j) e (omega arith)))
        (ap (worst other rows (suc i) j) (sym s) ∙ on (suc k) d n (suc i) j (omega arith) f)
        ∙ sym (worst_row marks rows i j k (omega arith)))

    pub columns_behind : worst_path other rows more ≡ worst_path marks rows columns
    unfolding worst_path
    columns_behind = let e : columns + (more - columns) ≡ more = omega arith in rw e at (on columns (more - columns) (rows - 0) 0 0 refl (omega arith))
