-- `square::carried::figures_in` puts line by line, from the last one up. The loop's invariant: the lines from l on hold their figures, and
-- those above are as they were. Assumes nothing.
use Prim.Native.Nat.{ℕ, ◌+◌, ◌-◌}
use mathlib.Core.Path.{◌≡◌, refl, sym, ◌∙◌, ap}
use mathlib.Core.Bool.{Bool, not, ◌&&◌}
use native.Mathlib.Omega.{arith}
use Rattle.std.proofs.Common.{rules}
use borrow.Author.Tests.{lt-ltb, le-ltb}
use lib.Dec.{ltb}
use Rattle.trade.specs.Limits.{most_flows}
use Rattle.square.specs.Carried.{figure_with, with_figures}
use Rattle.figures.proofs.Padded.{filled}
use Rattle.square.proofs.KeptLaws.{line_bytes, lines_more, lines_all, one_more, unused}
use Rattle.square.proofs.CarriedLaws.{with_bytes, with_in}
use Rattle.square.proofs.carried.figures_in.Goals as goal
use Rattle.square.proofs.carried.figures_in.Goals.{After-line_with-line}

-- the line that is read is the one of before
line : (c : After-line_with-line) → c.line_with-line.result ≡ filled most_flows (figure_with c.args.place c.args.pairs.now c.args.figures.now (c.loop-l.l - 1)) (c.loop-l.l - 1)
line c =
    let a = c.args in
    let loop = c.loop-l in
    let n : ℕ = c.min-used.result in
    c.line_with-line.ensures
    ∙ with_in _ a.place a.pairs.now a.figures.now (λ j. ltb j n && not (ltb j loop.l)) loop.figures (loop.l - 1) loop.invariant
    (omega (arith, c.min-used.ensures)) (λ j h. rw (lt-ltb j loop.l (omega arith), lt-ltb j n (omega arith)) refl)

pub put_line-requires : goal.put_line-requires
put_line-requires c =
    let a = c.args in
    let loop = c.loop-l in (
      loop.invariant.size,
      omega (arith, c.min-used.ensures),
      λ h p.
          rw (line (goal.at.put_line-requires c).After-line_with-line)
          (line_bytes (loop.l - 1) _ (λ k b. with_bytes a.place a.pairs.now a.figures.now c.requires.1 (λ i. search rules) (loop.l - 1) k) h),
    )

pub loop-l-preserved : goal.loop-l-preserved
loop-l-preserved c =
    let a = c.args in
    let loop = c.loop-l in
    let n : ℕ = c.min-used.result in
    let l : ℕ = loop.l - 1 in
    let one : loop.l ≡ l + 1 = omega arith in
    lines_more a.flows (figure_with a.place a.pairs.now a.figures.now) _ (λ j. ltb j n && not (ltb j loop.l)) (λ j. ltb j n && not (ltb j l)) l _ loop.figures _
    (omega (arith, c.min-used.ensures)) (line (goal.at.loop-l-preserved c).After-line_with-line) c.put_line.ensures
    (rw (lt-ltb l n (omega arith), le-ltb l l (omega arith)) refl)
    (λ j d. ap (λ (b : Bool). ltb j n && not b) (sym (one_more l j d) ∙ ap (ltb j) (sym one))) loop.invariant

pub returns : goal.returns
unfolding with_figures
returns c =
    let a = c.args in
    let loop = c.loop-l in
    let n : ℕ = c.min-used.result in
    let none : loop.l ≡ 0 = omega arith in
    lines_all _ _ _ n loop.figures _ (λ j h. rw (lt-ltb j n h, le-ltb j 0 (omega arith)) refl)
    (λ l h p m. unused a.flows (figure_with a.place a.pairs.now a.figures.now) l h (omega (arith, c.min-used.ensures))) c.clear_from.ensures
    (rw none at loop.invariant)
