-- `sections::at_once::steps_in_doubt` meets its contract: without doubt every node is there and the counts agree. Assumes nothing.
use Prim.Native.Nat.{◌*◌, ◌≤◌}
use mathlib.Core.Path.{refl, sym, ◌∙◌, ap}
use mathlib.Core.Bool.{not}
use mathlib.Core.List.{[]}
use lib.Dec.{eqb, leb, ltb}
use borrow.Author.Tests.{eqb-true, ltb-false, leb-false, not-false}
use Rattle.trade.specs.Limits.{most_flows, most_steps}
use Rattle.trade.specs.First.{sum_to}
use Rattle.trade.specs.Interference.{one}
use Rattle.trade.proofs.First.{not_both, or_false}
use Rattle.sections.specs.Steps.{off}
use Rattle.sections.proofs.AtOnceLaws.{none_bad}
use Rattle.sections.proofs.at_once.steps_in_doubt.Goals as goal
use Rattle.sections.proofs.at_once.steps_in_doubt.Goals.{Else-all}

-- what is counted lies within the limits
within :
    (c : Else-all)
    → (1 ≤ c.count_anew-begun.result.all) × (c.count_anew-begun.result.all ≤ most_flows * most_steps)
within c =
    let all = c.count_anew-begun.result.all in
    let p = or_false (ltb all 1) (ltb (most_flows * most_steps) all) c.if-all.false in
    (ltb-false all 1 p.0, ltb-false (most_flows * most_steps) all p.1)

pub returns-then-all : goal.returns-then-all
returns-then-all c = λ e. absurd (not_both refl e)

pub count_off-requires : goal.count_off-requires
count_off-requires c = (
  (within (goal.at.count_off-requires c).Else-all).0,
  (within (goal.at.count_off-requires c).Else-all).1,
  rw c.count_anew-begun.ensures.0 c.requires.flows_in_bounds,
)

pub returns : goal.returns
returns c =
    λ e.
    let a = c.args in
    let begun = c.count_anew-begun in
    let most = c.highest in
    let off_count = c.count_off in
    let p = or_false (leb a.nodes most.result) (not (eqb off_count.result begun.result.anew)) e in
    none_bad a.nodes a.flows [] a.records.now a.steps.now most.result
    (λ k h. most.ensures k (rw begun.ensures.0 h))
    (leb-false a.nodes most.result p.0)
    (ap (sum_to (λ k. one (off a.steps.now k))) (sym begun.ensures.0)
    ∙ sym off_count.ensures
    ∙ eqb-true off_count.result begun.result.anew (not-false _ p.1)
    ∙ begun.ensures.1)
