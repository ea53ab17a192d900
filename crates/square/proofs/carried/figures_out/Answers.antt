-- `square::carried::figures_out` puts line by line. The loop's invariant: the first l lines hold their figures. Assumes nothing.
use Prim.Native.Nat.{◌+◌}
use mathlib.Core.Path.{◌≡◌, ◌∙◌}
use Rattle.std.proofs.Common.{rules}
use native.Mathlib.Omega.{arith}
use borrow.Author.Tests.{lt-ltb, le-ltb}
use lib.Dec.{ltb}
use Rattle.trade.specs.Limits.{most_flows}
use Rattle.trade.specs.Kept.{figure_in}
use Rattle.square.specs.Carried.{without_figures}
use Rattle.figures.proofs.Padded.{filled}
use Rattle.square.proofs.KeptLaws.{line_bytes, lines_more, lines_all, one_more, unused}
use Rattle.square.proofs.CarriedLaws.{figure_out, left_left}
use Rattle.square.proofs.carried.figures_out.Goals as goal
use Rattle.square.proofs.carried.figures_out.Goals.{After-line_without-line}

-- the line that is read is the one of before
line : (c : After-line_without-line) → c.line_without-line.result ≡ filled most_flows (figure_out c.args.place c.args.figures.now c.loop-l.l) c.loop-l.l
line c =
    let a = c.args in
    let loop = c.loop-l in
    c.line_without-line.ensures
    ∙ left_left _ a.place a.figures.now (λ j. ltb j loop.l) loop.figures loop.l loop.invariant (omega arith) (λ j h. le-ltb j loop.l h)

pub put_line-requires : goal.put_line-requires
unfolding figure_in
put_line-requires c =
    let a = c.args in
    let loop = c.loop-l in (
      loop.invariant.size,
      omega arith,
      λ h p.
          rw (line (goal.at.put_line-requires c).After-line_without-line)
          (line_bytes loop.l _ (λ k b. search rules) h),
    )

pub loop-l-preserved : goal.loop-l-preserved
loop-l-preserved c =
    let a = c.args in
    let loop = c.loop-l in
    lines_more a.flows (figure_out a.place a.figures.now) _ (λ j. ltb j loop.l)
    (λ j. ltb j (loop.l + 1)) loop.l _ loop.figures _ (omega arith) (line (goal.at.loop-l-preserved c).After-line_without-line) c.put_line.ensures
    (lt-ltb loop.l (loop.l + 1) (omega arith)) (one_more loop.l) loop.invariant

pub returns : goal.returns
unfolding without_figures
returns c =
    let a = c.args in
    let loop = c.loop-l in
    let all : loop.l ≡ a.flows = omega arith in
    lines_all _ _ _ a.flows loop.figures _ (λ j h. lt-ltb j a.flows h) (λ l h p m. unused a.flows (figure_out a.place a.figures.now) l h p) c.clear_from.ensures (rw all at loop.invariant)
