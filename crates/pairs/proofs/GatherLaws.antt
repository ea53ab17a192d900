-- The figure that the columns of a plan l give for a plan h is that of the two plans. Leans on the trade's Interference. Assumes nothing.
use Prim.Native.Nat.{ℕ, suc, ◌-◌, ◌*◌, ◌≤◌, ◌<◌}
use mathlib.Core.Path.{◌≡◌, refl, sym, ◌∙◌, ap}
use mathlib.Core.Bool.{Bool, true, false, ◌||◌, or-true}
use mathlib.Core.List.{List}
use native.Mathlib.Omega.{arith}
use borrow.Author.Tests.{ne_eqb, lt-ltb, le-ltb}
use lib.Dec.{eqb}
use lib.ListN.{length}
use Rattle.trade.specs.Limits.{most_steps, step_bytes}
use Rattle.trade.specs.Facts.{disturbs_in, step_in}
use Rattle.trade.specs.Conflict.{meet, conflict}
use Rattle.trade.specs.Interference.{worst_path}
use Rattle.trade.specs.declared.node.Transmission.{Transmission}
use Rattle.trade.proofs.Conflict.{eqb_comm, conflict_symmetric}
use Rattle.trade.proofs.Interference.{paths_agree}
use Rattle.nodes.specs.Network.{Within}
use Rattle.plans.specs.Plan.{AllWithin, steps_in}
use Rattle.pairs.specs.Columns.{marks_of, from_end, Hears, near, receiving, sending, Columns, marked_at, Narrow, matrix_by}

-- the tests of a conflict, in the order of the columns
reorder : (p q r s t u x y : Bool) → (false || false || p || q || r || s || t || u || x || y) ≡ ((p || q || (x || u)) || (r || s || (t || y)))
reorder true q r s t u x y = refl
reorder false true r s t u x y = refl
reorder false false true s t u x y = sym (or-true (x || u))
reorder false false false true t u x y = sym (or-true (x || u))
reorder false false false false true u x y = sym (or-true (x || u))
reorder false false false false false true true y = refl
reorder false false false false false true false y = refl
reorder false false false false false false true y = refl
reorder false false false false false false false y = refl

-- a transmission conflicts with another if the other's columns of its sender or of its receiver say so
module _ (rows heard : List ℕ) where
  conflict_parts :
      (t u : Transmission)
      → Within rows t
      → Within rows u
      → Hears rows heard t.sender.0
      → Hears rows heard t.receiver.0
      → conflict (disturbs_in rows) t u ≡ (sending rows heard u t.sender.0 || receiving rows heard u t.receiver.0)
  unfolding conflict meet sending receiving near
  conflict_parts t u p q sender receiver =
      let a : ℕ = t.sender.0 in
      let b : ℕ = t.receiver.0 in
      let v : ℕ = u.sender.0 in
      let w : ℕ = u.receiver.0 in
      rw (
        ne_eqb a b p.apart,
        ne_eqb v w q.apart,
        eqb_comm a v,
        eqb_comm a w,
        eqb_comm b v,
        eqb_comm b w,
        sender w q.receiver.numbered,
        receiver v q.sender.numbered,
      )
      (reorder (eqb v a) (eqb w a) (eqb v b) (eqb w b) (disturbs_in rows v b) (disturbs_in rows a w) (disturbs_in rows w a) (disturbs_in rows b v))

  module _ (h columns : List ℕ) (short : length h ≤ step_bytes * most_steps) (c : Columns rows heard h (steps_in h) columns) (all : AllWithin rows h) where
    pub marked_conflict :
        (t : Transmission) (b : ℕ)
        → Within rows t
        → Hears rows heard t.sender.0
        → Hears rows heard t.receiver.0
        → b < steps_in h
        → marked_at columns t b ≡ conflict (disturbs_in rows) t (from_end h b)
    unfolding marked_at
    marked_conflict t b p sender receiver l =
        rw (c.sent t.sender.0 b p.sender.numbered, c.received t.receiver.0 b p.receiver.numbered (omega arith), lt-ltb b (steps_in h) l)
        (sym (conflict_parts t (from_end h b) p (all (steps_in h - suc b) (omega arith)) sender receiver))

    pub columns_narrow : Narrow (steps_in h) columns
    unfolding marked_at
    columns_narrow t b p q l m = rw (c.sent t.sender.0 b p, c.received t.receiver.0 b q m, le-ltb b (steps_in h) l) refl

-- THE FIGURE BY COLUMNS
pub figure_by_columns :
    (rows heard l h columns : List ℕ)
    → length l ≤ step_bytes * most_steps
    → Columns rows heard l (steps_in l) columns
    → AllWithin rows l
    → AllWithin rows h
    → ((j : ℕ) → j < steps_in h → Hears rows heard (step_in h j).sender.0 × Hears rows heard (step_in h j).receiver.0)
    → worst_path (matrix_by columns (steps_in l) h) (steps_in l) (steps_in h) ≡ worst_path (marks_of rows l h) (steps_in l) (steps_in h)
figure_by_columns rows heard l h columns short c all other hears =
    let n : ℕ = steps_in l in
    paths_agree (matrix_by columns n h) (marks_of rows l h) n (steps_in h)
    (λ i j p q.
    let back : n - suc (n - suc i) ≡ i = omega arith in
    marked_conflict rows heard l columns short c all (step_in h j) (n - suc i) (other j (omega arith)) (hears j q).0 (hears j q).1 (omega arith)
    ∙ ap (λ (k : ℕ). conflict (disturbs_in rows) (step_in h j) (step_in l k)) back
    ∙ conflict_symmetric (disturbs_in rows) (step_in h j) (step_in l i))
