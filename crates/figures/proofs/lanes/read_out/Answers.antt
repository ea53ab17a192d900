-- `figures::lanes::read_out` reads lane by lane. The loop's invariant: the figures passed are read. Assumes nothing.
use Rattle.std.proofs.Common.{◌≡◌, ℕ, suc, add-one, ◌≢◌, ◌-◌, ◌<◌, length, arith, rules, below_more, get_or-set_other, get_or-set_same}
use Rattle.std.proofs.lemmas.List.{places}
use Rattle.figures.specs.Rises.{lane_at}
use Rattle.figures.proofs.RisesLaws.{lane_later}
use Rattle.figures.proofs.LanesLaws.{lane_on}
use Rattle.figures.proofs.lanes.read_out.Goals as goal
use Rattle.figures.proofs.lanes.read_out.Goals.{In-loop-figure}

pub loop-figure-init : goal.loop-figure-init
unfolding lane_at
loop-figure-init c = search rules

-- each lane that is left to read has its end in the word
inside : (c : In-loop-figure) → c.loop-figure.end < 64
inside c =
    let a = c.args in
    let loop = c.loop-figure in
    let k : ℕ = loop.figure-index in
    let all : length loop.figure-items ≡ a.until - a.first = search (rules, places) in
    omega (arith, lane_on a.width k, lane_later a.width (suc k) (a.until - a.first) (omega arith), c.requires.4)

pub taken-requires : goal.taken-requires
taken-requires c = inside (goal.at.taken-requires c).In-loop-figure

pub overflow_add-end-in-loop-figure : goal.overflow_add-end-in-loop-figure
overflow_add-end-in-loop-figure c = omega (arith, inside (goal.at.overflow_add-end-in-loop-figure c).In-loop-figure, c.requires.3)

pub loop-figure-preserved : goal.loop-figure-preserved
loop-figure-preserved c =
    let loop = c.loop-figure in
    let i : ℕ = loop.figure-index in (
      rw (add-one i, lane_on c.args.width i) (omega arith),
      below_more _ _ (λ k l. let ne : k ≢ i = omega arith in rw get_or-set_other (loop.invariant.1 k l))
          (let l : i < length loop.figure-items = omega arith in rw (get_or-set_same, ← loop.invariant.0) c.taken.ensures),
    )
