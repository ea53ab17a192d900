-- `bounds::bounds::bound_at` meets its contract: the three lines say what the records and the costs do. Assumes nothing.
use Prim.Native.Nat.{ℕ}
use mathlib.Core.Path.{refl, ◌∙◌, ap, ap₂}
use mathlib.Core.List.{List, []}
use lib.ListN.{get_or}
use native.Mathlib.Omega.{arith}
use Rattle.trade.specs.Facts.{Facts, facts_in, facts_of, flow_in}
use Rattle.trade.specs.declared.flow.Flow.{Flow}
use Rattle.bounds.specs.Bounds.{by_costs}
use Rattle.bounds.specs.Terms.{needed_in, smallest_in}
use Rattle.bounds.proofs.SmallestLaws.{bound_in}
use Rattle.bounds.proofs.bounds.bound_at.Goals as goal

pub smallest-requires : goal.smallest-requires
unfolding flow_in
smallest-requires g c =
    let a = c.args in
    let t = c.requires.timed in
    let own = t.fields a.l (omega arith) in
    let w = c.record_at-flow.ensures in
    let len = ap (λ (w : Flow). w.len) w in
    let deadline = ap (λ (w : Flow). w.deadline) w in (
      record {
        above = omega (arith, t.most);
        figure = λ h l. c.line-line.ensures.bytes h l;
        period = λ h l. rw (c.requires.by_period h l) (t.fields h (omega arith)).period;
        carry = λ h l. c.requires.by_carry h l;
      },
      omega (arith, len, own.len.0),
      omega (arith, len, own.len.1),
      omega (arith, deadline, own.deadline.1, own.period.1),
    )

pub returns : goal.returns
unfolding flow_in facts_of
returns g c =
    let a = c.args in
    let f : Facts = facts_in 0 0 [] a.records.now [] in
    let w = c.record_at-flow.ensures in
    let line : List ℕ = c.line-line.result in
    c.smallest.ensures
    ∙ ap₂ (λ (own last : ℕ). smallest_in (needed_in own a.l line a.periods.now a.carries.now) own last)
    (ap (λ (w : Flow). w.len) w) (ap (λ (w : Flow). w.deadline) w)
    ∙ bound_in f (by_costs (g.C.Costs.cost a.costs.now) (λ h. get_or a.carries.now h 0)) a.l line a.periods.now a.carries.now c.line-line.ensures.costs
    c.requires.by_period (λ h l. refl)
