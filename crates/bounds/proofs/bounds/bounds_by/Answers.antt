-- `bounds::bounds::bounds_by` meets its contract: each flow passed has its bound, which stands in the array. Assumes nothing.
use Prim.Native.Nat.{ℕ, ◌+◌, ◌≤◌, ◌<◌}
use mathlib.Core.Path.{◌≡◌, refl, sym, ◌∙◌, ap}
use mathlib.Core.List.{List, []}
use lib.ListN.{get_or}
use native.Mathlib.Omega.{arith}
use Rattle.trade.specs.Limits.{most_flows, most_period}
use Rattle.trade.specs.Layout.{field}
use Rattle.trade.specs.Facts.{Facts, facts_in, facts_of, flow_in}
use Rattle.trade.specs.Bound.{bound_by, fairly}
use Rattle.trade.specs.declared.flow.Flow.{Flow}
use Rattle.bounds.specs.Bounds.{by_costs}
use Rattle.trade.proofs.Fair.{fair_carry}
use Rattle.trade.proofs.Alike.{alike_counts, bound_prefix}
use Rattle.bounds.proofs.BoundsLaws.{bounding_at, bounding_range, bounding_none, bounding_more, bounded_refused, bounded_done}
use Rattle.figures.proofs.Padded.{filled_at}
use Rattle.bounds.proofs.bounds.bounds_by.Goals as goal
use Rattle.bounds.proofs.bounds.bounds_by.Goals.{After-bound_at-bound, After-record_at-flow}

pub loop-l-init : goal.loop-l-init
loop-l-init g c = bounding_none _ _

pub record_at-flow-requires : goal.record_at-flow-requires
record_at-flow-requires g c = omega (arith, c.requires.timed.recorded)

pub bound_at-bound-requires : goal.bound_at-bound-requires
unfolding facts_of
bound_at-bound-requires g c =
    let loop = c.loop-l in
    let records : List ℕ = c.args.records.now in
    let timed = c.requires.timed in record {
      timed = record {
        most = omega (arith, timed.most);
        recorded = omega (arith, timed.recorded);
        fields = λ i h. timed.fields i (omega arith);
      };
      told = c.requires.told loop.l (omega arith);
      by_period = λ h b. rw loop.invariant.period (filled_at most_flows (λ (k : ℕ). field records k 2) loop.l h b);
      by_carry = λ h b.
          let range = timed.fields h (omega arith) in
          bounding_range _ _ loop.l h loop.bounds loop.periods b range.len.0 (omega (arith, range.deadline.1, range.period.1)) loop.invariant;
    }

-- what the record says, and that the flow's deadline is in range
fields :
    (g : _) → (c : After-record_at-flow g)
    → (c.record_at-flow.result.period ≡ field c.args.records.now c.loop-l.l 2)
    × (c.record_at-flow.result.deadline ≡ field c.args.records.now c.loop-l.l 3)
    × (c.record_at-flow.result.deadline ≤ most_period)
unfolding flow_in
fields g c =
    let period = ap (λ (w : Flow). w.period) c.record_at-flow.ensures in
    let deadline = ap (λ (w : Flow). w.deadline) c.record_at-flow.ensures in
    let range = c.requires.timed.fields c.loop-l.l (omega arith) in
    (period, deadline, omega (arith, deadline, range.deadline.1, range.period.1))

-- the bound that was found is the flow's
bounded :
    (g : _) → (c : After-bound_at-bound g)
    → c.bound_at-bound.result
    ≡ bound_by (facts_in 0 c.args.flows [] c.args.records.now []) (fairly (facts_in 0 c.args.flows [] c.args.records.now []) (g.C.Costs.cost c.args.costs.now)) c.loop-l.l
unfolding facts_of
bounded g c =
    let a = c.args in
    let loop = c.loop-l in
    let cost = g.C.Costs.cost a.costs.now in
    let f : Facts = facts_in 0 0 [] a.records.now [] in
    let h : Facts = facts_in 0 a.flows [] a.records.now [] in
    c.bound_at-bound.ensures
    ∙ bound_prefix (loop.l + 1) f h (alike_counts (loop.l + 1) 0 0 0 a.flows [] a.records.now []) (by_costs cost (λ k. get_or loop.bounds k 0))
    (fairly h cost)
    (record {
      cost = λ l k p b. refl;
      carry = λ l k p b. bounding_at h (fairly h cost) loop.l k loop.bounds loop.periods (omega arith) loop.invariant ∙ sym (fair_carry h cost k);
    })
    loop.l (omega arith)

pub overflow_cast-flow : goal.overflow_cast-flow
overflow_cast-flow g c = omega (arith, fields g (goal.at.overflow_cast-flow g c).After-record_at-flow)

pub returns-then-flow-bound : goal.returns-then-flow-bound
unfolding facts_of
returns-then-flow-bound g c =
    let a = c.args in
    let loop = c.loop-l in
    let p = goal.at.returns-then-flow-bound g c in
    let f : Facts = facts_in 0 a.flows [] a.records.now [] in
    let μ = fairly f (g.C.Costs.cost a.costs.now) in
    let over : field a.records.now loop.l 3 < bound_by f μ loop.l =
    rw (← (fields g p.After-record_at-flow).1, ← bounded g p.After-bound_at-bound) c.if-flow-bound.true in
    sym (bounded_refused f μ loop.l _ _ (omega arith) over loop.invariant)

pub overflow_cast-bounds : goal.overflow_cast-bounds
overflow_cast-bounds g c = omega (arith, fields g (goal.at.overflow_cast-bounds g c).After-record_at-flow)

pub loop-l-preserved : goal.loop-l-preserved
unfolding facts_of
loop-l-preserved g c =
    let a = c.args in
    let loop = c.loop-l in
    let p = goal.at.loop-l-preserved g c in
    let f : Facts = facts_in 0 a.flows [] a.records.now [] in
    let said = fields g p.After-record_at-flow in
    let room : loop.l < most_flows = omega (arith, c.requires.timed.most) in
    bounding_more f (fairly f (g.C.Costs.cost a.costs.now)) loop.l _ _ _ _ _ room (bounded g p.After-bound_at-bound) said.0 said.1 c.if-flow-bound.false loop.invariant

pub returns : goal.returns
unfolding facts_of
returns g c =
    let a = c.args in
    let loop = c.loop-l in
    let f : Facts = facts_in 0 a.flows [] a.records.now [] in
    bounded_done f (fairly f (g.C.Costs.cost a.costs.now)) loop.l _ _ (omega arith) loop.invariant

pub offset_bounds-bounds-l : goal.offset_bounds-bounds-l
offset_bounds-bounds-l g c = omega (arith, c.requires.timed.most)

pub bounds-bounds-l : goal.bounds-bounds-l
bounds-bounds-l g c = omega (arith, c.requires.timed.most)

pub offset_bounds-periods-l : goal.offset_bounds-periods-l
offset_bounds-periods-l g c = omega (arith, c.requires.timed.most)

pub bounds-periods-l : goal.bounds-periods-l
bounds-periods-l g c = omega (arith, c.requires.timed.most)
