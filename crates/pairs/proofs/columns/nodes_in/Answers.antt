-- `pairs::columns::nodes_in` joins the ends of the steps. The loop's invariant: the set has those of the first j. Assumes nothing.
use mathlib.Core.Path.{refl}
use native.Mathlib.Numerals.{add-one}
use Rattle.trade.specs.Facts.{step_in}
use Rattle.pairs.specs.Columns.{ending}
use Rattle.pairs.proofs.SpreadLaws.{ends_none, ends_more}
use Rattle.pairs.proofs.columns.nodes_in.Goals as goal

pub loop-j-init : goal.loop-j-init
loop-j-init c = ends_none _

pub loop-j-preserved : goal.loop-j-preserved
loop-j-preserved c =
    let loop = c.loop-j in
    let steps = c.args.steps.now in
    rw (add-one loop.j, c.only.ensures, c.only-in-loop-j.ensures, c.step_at-u.ensures)
    (ends_more (step_in steps loop.j) loop.nodes loop.j (λ i x. ending (step_in steps i) x) (λ x. refl) loop.invariant)
