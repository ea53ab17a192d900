-- `square::kept::keep` puts line by line. The loop's invariant: the first l lines hold their figures. Assumes nothing.
use Prim.Native.Nat.{◌+◌}
use mathlib.Core.Path.{◌≡◌, refl, ◌∙◌}
use native.Mathlib.Omega.{arith}
use borrow.Author.Tests.{lt-ltb}
use lib.Dec.{ltb}
use Rattle.trade.specs.Facts.{facts_in}
use Rattle.trade.specs.Interference.{interference}
use Rattle.pairs.proofs.SpreadLaws.{zeros}
use Rattle.square.proofs.KeptLaws.{lines_more, lines_all, one_more, unused, figures_square, figures_bytes}
use Rattle.square.proofs.kept.keep.Goals as goal

pub of-heard-requires : goal.of-heard-requires
of-heard-requires c = (refl, λ y h. zeros 64 y)

pub figures_at-requires : goal.figures_at-requires
figures_at-requires c = rw c.of-heard.ensures.parts (omega arith)

pub put_line-requires : goal.put_line-requires
put_line-requires c =
    let a = c.args in
    let loop = c.loop-l in (
      loop.invariant.size,
      omega (arith, c.args.parts.formed.most),
      λ h p.
          rw (rw c.of-heard.ensures.parts at c.figures_at.ensures)
          (figures_bytes a.parts.flows a.parts.rows.now a.parts.records.now a.parts.steps.now c.args.parts.formed loop.l (omega arith) h),
    )

pub loop-l-preserved : goal.loop-l-preserved
loop-l-preserved c =
    let a = c.args in
    let loop = c.loop-l in
    lines_more a.parts.flows (interference (facts_in 0 0 a.parts.rows.now a.parts.records.now a.parts.steps.now)) _ (λ j. ltb j loop.l) (λ j. ltb j (loop.l + 1)) loop.l _
    loop.figures _ (omega arith) (rw c.of-heard.ensures.parts at c.figures_at.ensures) c.put_line.ensures (lt-ltb loop.l (loop.l + 1) (omega arith)) (one_more loop.l) loop.invariant

pub returns : goal.returns
returns c =
    let a = c.args in
    let loop = c.loop-l in
    let all : loop.l ≡ a.parts.flows = omega arith in
    lines_all _ _ _ a.parts.flows loop.figures _ (λ j h. lt-ltb j a.parts.flows h)
    (λ l h p m. unused a.parts.flows (interference (facts_in 0 0 a.parts.rows.now a.parts.records.now a.parts.steps.now)) l h p) c.clear_from.ensures (rw all at loop.invariant)
    ∙ figures_square a.parts.flows a.parts.rows.now a.parts.records.now a.parts.steps.now
