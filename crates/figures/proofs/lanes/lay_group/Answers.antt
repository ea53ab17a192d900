-- `figures::lanes::lay_group` lays flow by flow. The loop's invariant: those up to the next are laid, and the next lane begins where the
-- last one ended. The measure is how many flows are left. Assumes nothing.
use Rattle.std.proofs.Common.{◌≡◌, suc, ◌+◌, ◌-◌, ◌<◌, ◌≤◌, sym, refl, ap, ◌∙◌, ap₂, ⊎_elim, arith, ltb-true, lt-ltb}
use Rattle.trade.proofs.First.{lt_or_ge, not_both, and_true}
use Rattle.nodes.proofs.MaskLaws.{one_bit, bit_only}
use Rattle.plans.specs.Plan.{steps_in, plan_in}
use Rattle.sections.specs.Formed.{plan_at}
use Rattle.figures.specs.Rises.{lane_at}
use Rattle.figures.proofs.LanesLaws.{lane_on, grouped_none, grouped_more}
use Rattle.figures.proofs.lanes.lay_group.Goals as goal
use Rattle.figures.proofs.lanes.lay_group.Goals.{After-plan_part, In-loop-len}

pub loop-len-init : goal.loop-len-init
unfolding lane_at
loop-len-init c =
    let a = c.args in
    let none : a.first - a.first ≡ 0 = omega arith in (
      refl,
      rw none refl,
      grouped_none a.columns.now a.width a.records.now a.steps.now a.first a.l a.start a.words.now c.requires.first_lt_l.0 c.requires.start_value.0 c.requires.start_value.1
          c.requires.words_len.0 c.requires.words_len.1,
    )

-- there is a flow, and room for it
room :
    (c : In-loop-len)
    → (c.loop-len.laid.next < c.args.l)
    × (c.loop-len.at + c.args.width < 64)
room c =
    let more = and_true _ _ (sym c.has_room.ensures ∙ c.loop-len-test.true) in (ltb-true _ _ more.0, ltb-true _ _ more.1)

-- the plan of the next flow
plan :
    (c : After-plan_part)
    → c.plan_part.result.now
    ≡ plan_at c.args.records.now c.args.steps.now c.loop-len.laid.next
plan c =
    c.plan_part.ensures
    ∙ ap₂ (plan_in c.args.steps.now) c.loop-len.invariant.2.start c.len_at-len.ensures.0

pub loop-len-preserved : goal.loop-len-preserved
loop-len-preserved c =
    let a = c.args in
    let loop = c.loop-len in
    let lay = c.lay-count in
    let on : loop.laid.next + 1 - a.first ≡ suc (loop.laid.next - a.first) = omega (arith, loop.invariant.2.from) in
    let inside : lane_at a.width (loop.laid.next - a.first) + a.width < 64 = rw loop.invariant.1 at (room (goal.at.loop-len-preserved c).In-loop-len).1 in
    let count : lay.result ≡ steps_in (plan_at a.records.now a.steps.now loop.laid.next) = lay.ensures.0 ∙ ap steps_in (plan (goal.at.loop-len-preserved c).After-plan_part) in
    let asked = c.requires.start_value.2 loop.laid.next (room (goal.at.loop-len-preserved c).In-loop-len).0 in
    let laid = lay.ensures.1 a.width c.requires.first_lt_l.4 c.requires.first_lt_l.5 (room (goal.at.loop-len-preserved c).In-loop-len).1 in (
      laid.size ∙ loop.invariant.0,
      rw (on, lane_on a.width (loop.laid.next - a.first), loop.invariant.1) (omega arith),
      grouped_more a.columns.now a.width a.records.now a.steps.now a.first a.l loop.laid c.len_at-len.result _ _ loop.words
          lay.new.words (room (goal.at.loop-len-preserved c).In-loop-len).0 inside c.len_at-len.ensures
          (λ y. rw (loop.invariant.1, one_bit (lane_at a.width (loop.laid.next - a.first) + a.width) inside) (bit_only (lane_at a.width (loop.laid.next - a.first) + a.width) y))
          (omega arith, omega (arith, count), omega (arith, count, asked.short, loop.invariant.2.short)) (rw (plan (goal.at.loop-len-preserved c).After-plan_part, loop.invariant.1) at laid) loop.invariant.2,
    )

pub returns : goal.returns
unfolding lane_at
returns c =
    let a = c.args in
    let loop = c.loop-len in
    let g = loop.invariant.2 in
    record {
      some =
          ⊎_elim (λ (h : a.first < loop.laid.next). h)
          (λ (h : loop.laid.next ≤ a.first).
          let none : loop.laid.next - a.first ≡ 0 = omega arith in
          absurd
          (not_both
          (c.has_room.ensures
          ∙ rw (lt-ltb loop.laid.next a.l (omega (arith, c.requires.first_lt_l.0)), lt-ltb (loop.at + a.width) 64 (omega (arith, rw none at loop.invariant.1, c.requires.first_lt_l.4))) refl)
          c.loop-len-test.false))
          (lt_or_ge a.first loop.laid.next);
      all = g;
    }
