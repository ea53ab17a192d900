-- `bounds::rising::smallest` meets its contract: no r that was passed is enough. The measure is what is left up to the deadline.
-- Assumes nothing.
use Prim.Native.Nat.{ℕ, ◌≤◌}
use mathlib.Core.Path.{sym}
use mathlib.Core.List.{List}
use native.Mathlib.Omega.{arith}
use Rattle.bounds.specs.Terms.{needed_in, least_in}
use Rattle.bounds.proofs.SmallestLaws.{none_under, needed_least, none_further, found_smallest, found_none, needed_grows}
use Rattle.bounds.proofs.rising.smallest.Goals as goal

-- its own slots are among them
own : (len k : ℕ) (figures : List ℕ) → len ≤ least_in len k figures
unfolding least_in
own len k figures = omega arith

pub loop-r-init : goal.loop-r-init
loop-r-init c =
    let a = c.args in
    let least : ℕ = least_in a.len a.above a.figures.now in (
      omega (arith, c.least_needed-r.ensures, own a.len a.above a.figures.now),
      rw c.least_needed-r.ensures
          (none_under (needed_in a.len a.above a.figures.now a.periods.now a.carries.now) a.len a.deadline least
          (λ r h. needed_least a.len a.above a.figures.now a.periods.now a.carries.now c.requires.0 r (omega (arith, c.requires.1)))),
    )

pub least_needed-r-requires : goal.least_needed-r-requires
least_needed-r-requires c = (c.requires.0.above, c.requires.2, c.requires.0.figure)

pub slots_needed-needed-requires : goal.slots_needed-needed-requires
slots_needed-needed-requires c =
    (c.requires.0, c.requires.2, omega (arith, c.requires.1), omega (arith, c.requires.3))

pub returns-then-needed-r : goal.returns-then-needed-r
returns-then-needed-r c =
    let a = c.args in
    let loop = c.loop-r in
    let needed : ℕ → ℕ = needed_in a.len a.above a.figures.now a.periods.now a.carries.now in
    sym
    (found_smallest needed a.len a.deadline loop.r loop.invariant.0 (omega arith)
    (rw (← c.slots_needed-needed.ensures) c.if-needed-r.true)
    loop.invariant.1)

pub loop-r-preserved : goal.loop-r-preserved
loop-r-preserved c =
    let a = c.args in
    let loop = c.loop-r in
    let needed : ℕ → ℕ = needed_in a.len a.above a.figures.now a.periods.now a.carries.now in
    let grows = needed_grows a.len a.above a.figures.now a.periods.now a.carries.now c.requires.0 in (
      omega arith,
      λ j h.
          none_further needed a.len a.deadline grows loop.r loop.invariant.1 j (rw (← c.slots_needed-needed.ensures) h),
    )

pub overflow_add-result : goal.overflow_add-result
overflow_add-result c = omega (arith, c.requires.3)

pub returns : goal.returns
returns c =
    let a = c.args in
    sym (found_none _ a.len a.deadline c.loop-r.r c.loop-r-test.false c.loop-r.invariant.1)
