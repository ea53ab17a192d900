-- `square::carried::pairs_at` works the line of the flow out, and then the figure of it for each flow below. The loop's invariant: the
-- pairs up to l are there. Assumes nothing.
use mathlib.Core.Path.{◌≡◌, refl, ◌∙◌}
use native.Mathlib.Omega.{arith}
use Rattle.trade.specs.Limits.{most_flows}
use Rattle.trade.specs.Facts.{Facts, facts_in}
use Rattle.pairs.proofs.SpreadLaws.{zeros}
use Rattle.figures.proofs.Padded.{filled_more}
use Rattle.square.specs.Carried.{pair_in}
use Rattle.square.proofs.CarriedLaws.{pair_below, pairs_begun}
use Rattle.square.proofs.carried.pairs_at.Goals as goal

pub of-heard-requires : goal.of-heard-requires
of-heard-requires c = (refl, λ y h. zeros 64 y)

pub figures_at-pairs-requires : goal.figures_at-pairs-requires
figures_at-pairs-requires c = rw c.of-heard.ensures.parts (c.requires)

pub loop-l-init : goal.loop-l-init
loop-l-init c =
    let a = c.args in (
      omega arith,
      omega (arith, c.requires),
      (rw c.of-heard.ensures.parts at c.figures_at-pairs.ensures) ∙ pairs_begun a.parts.flows (facts_in 0 0 a.parts.rows.now a.parts.records.now a.parts.steps.now) a.place c.args.parts.formed.most c.requires,
    )

pub figure_at-requires : goal.figure_at-requires
figure_at-requires c = (omega (arith, c.loop-l.invariant.0), rw c.of-heard.ensures.parts c.loop-l-test.true)

pub loop-l-preserved : goal.loop-l-preserved
loop-l-preserved c =
    let a = c.args in
    let loop = c.loop-l in
    let f : Facts = facts_in 0 0 a.parts.rows.now a.parts.records.now a.parts.steps.now in (
      omega (arith, loop.invariant.0),
      omega (arith, c.loop-l-test.true),
      rw ((rw c.of-heard.ensures.parts at c.figure_at.ensures), ← pair_below a.parts.flows f a.place c.args.parts.formed.most c.requires loop.l loop.invariant.0, loop.invariant.2)
          (filled_more most_flows (pair_in f a.place) loop.l (omega (arith, c.loop-l-test.true, c.args.parts.formed.most))),
    )

pub returns : goal.returns
returns c =
    let loop = c.loop-l in
    let all : loop.l ≡ c.args.parts.flows = omega (arith, loop.invariant.1, c.loop-l-test.false) in
    rw (← all) loop.invariant.2

pub bounds-pairs-l : goal.bounds-pairs-l
bounds-pairs-l c = omega (arith, c.loop-l-test.true, c.args.parts.formed.most)
