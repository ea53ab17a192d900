-- `sections::records::id_before` meets its contract: no record before j has the id. Assumes nothing.
use Prim.Native.Nat.{ℕ}
use mathlib.Core.Path.{◌≡◌, ◌∙◌, sym, ap}
use borrow.Author.Count.{below_more}
use borrow.Author.Tests.{eq-eqb, ne_eqb}
use native.Mathlib.Omega.{arith}
use lib.Dec.{eqb}
use Rattle.trade.specs.Layout.{field}
use Rattle.trade.proofs.First.{some_intro, some_none}
use Rattle.sections.proofs.records.id_before.Goals as goal

pub loop-j-init : goal.loop-j-init
loop-j-init c = (omega arith, λ k h. absurd (omega arith))

pub returns-then-id_at-id : goal.returns-then-id_at-id
returns-then-id_at-id c =
    let a = c.args in
    let j = c.loop-j.j in
    sym
    (some_intro (λ (k : ℕ). eqb (field a.records.now k 0) (field a.records.now a.i 0)) a.i j (omega arith)
    (eq-eqb _ _ (sym c.id_at.ensures ∙ c.if-id_at-id.true ∙ c.id_at-id.ensures)))

pub loop-j-preserved : goal.loop-j-preserved
loop-j-preserved c = (
  omega arith,
  below_more _ _ c.loop-j.invariant.1
      (ne_eqb _ _ (λ (e : field c.args.records.now c.loop-j.j 0 ≡ c.id_at-id.result). c.if-id_at-id.false (c.id_at.ensures ∙ e))),
)

pub returns : goal.returns
returns c =
    let a = c.args in
    sym
    (some_none (λ (k : ℕ). eqb (field a.records.now k 0) (field a.records.now a.i 0)) a.i
    (λ k h.
    ap (λ (id : ℕ). eqb (field a.records.now k 0) id) (sym c.id_at-id.ensures)
    ∙ c.loop-j.invariant.1 k (omega arith)))
