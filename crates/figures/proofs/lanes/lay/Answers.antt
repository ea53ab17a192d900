-- `figures::lanes::lay` sets the marks of each step into its word. The loop's invariant: those of the first j steps are set. Assumes
-- nothing.
use Rattle.std.proofs.Common.{◌≡◌, add-one, arith}
use Rattle.plans.specs.Plan.{steps_in}
use Rattle.figures.proofs.LanesLaws.{laying_more, laying_all}
use Rattle.figures.proofs.lanes.lay.Goals as goal

pub loop-j-preserved : goal.loop-j-preserved
loop-j-preserved c =
    let loop = c.loop-j in
    rw (add-one loop.j) (
      loop.invariant.0,
      laying_more c.args.columns.now c.args.h.now c.args.at loop.j c.marks_of-marks.result c.args.words.now loop.words
          (omega (arith, loop.invariant.0, loop.invariant.1.size, c.requires.1.short, c.requires.2)) c.requires.3 (rw c.step_at.ensures at c.marks_of-marks.ensures) loop.invariant.1,
    )

pub returns : goal.returns
returns c =
    let loop = c.loop-j in
    let all : loop.j ≡ steps_in c.args.h.now = omega (arith, loop.invariant.0) in (
      c.step_count-len.ensures,
      λ n small narrow inside.
          laying_all c.args.columns.now c.args.h.now c.args.at n c.args.words.now loop.words c.requires.1 small narrow inside
          (rw all at loop.invariant.1),
    )
