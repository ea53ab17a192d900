-- `bounds::bounds::bounds_of` meets its contract: the costs that are worked out are the interference of what the book says. Assumes nothing.
use mathlib.Core.Path.{refl, ◌∙◌}
use mathlib.Core.List.{[]}
use native.Mathlib.Omega.{arith}
use Rattle.trade.specs.Facts.{Facts, facts_in, facts_of}
use Rattle.trade.specs.Interference.{interference}
use Rattle.trade.specs.Bound.{fairly}
use Rattle.trade.proofs.Alike.{SameTimes, alike_counts, interference_alike}
use Rattle.trade.proofs.Fair.{fair_same}
use Rattle.pairs.proofs.SpreadLaws.{zeros}
use Rattle.bounds.proofs.BoundsLaws.{bounded_times}
use Rattle.bounds.proofs.bounds.bounds_of.Goals as goal

pub of-requires : goal.of-requires
of-requires c = (refl, λ y h. zeros 64 y)

pub returns : goal.returns
unfolding facts_of
returns c =
    let p = c.args.parts in
    let f : Facts = facts_in 0 p.flows [] p.records.now [] in
    let o : Facts = facts_in 0 0 p.rows.now p.records.now p.steps.now in
    let g : Facts = facts_in 0 p.flows p.rows.now p.records.now p.steps.now in
    let times : SameTimes p.flows f g = record { len = λ i h. refl; period = λ i h. refl; deadline = λ i h. refl } in
    (rw c.of.ensures.parts at c.bounds_by.ensures)
    ∙ bounded_times f g refl times (fairly f (interference o)) (fairly g (interference g))
    (fair_same p.flows f g times (interference o) (interference g)
    (λ l h q r. interference_alike p.flows o g (alike_counts p.flows 0 0 0 p.flows p.rows.now p.records.now p.steps.now) l h q (omega arith)))
