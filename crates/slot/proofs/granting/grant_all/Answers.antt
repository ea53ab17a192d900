-- `slot::granting::grant_all` grants the lowest place that is left, and goes on without it. The measure is what is left, as a number. Assumes
-- nothing.
use Prim.Native.Nat.{ℕ, ◌+◌, ◌-◌, ◌*◌, ◌≤◌, ◌<◌}
use mathlib.Core.Path.{◌≡◌, ◌∙◌, ap}
use mathlib.Core.Bool.{true}
use native.Mathlib.Numerals.{add-one}
use native.Mathlib.Omega.{arith}
use lib.Bits.{and_le_l}
use lib.Count.{count_trailing_zeros}
use lib.ListN.{length, get_or, length-take, length-drop}
use Rattle.trade.specs.Limits.{most_flows, most_steps, grant_bytes}
use Rattle.trade.specs.Bytes.{bit}
use Rattle.trade.specs.Facts.{flow_in}
use Rattle.trade.specs.Run.{idle_of}
use Rattle.trade.specs.declared.flow.Flow.{Flow}
use Rattle.nodes.proofs.LowestLaws.{Lowest, trailing_lowest}
use Rattle.plans.specs.Plan.{no_step}
use Rattle.slot.specs.States.{place_of}
use Rattle.slot.specs.Choice.{sent_at}
use Rattle.slot.specs.Granting.{grant_by}
use Rattle.slot.proofs.GrantingLaws.{left_all, left_next, given_none, flow_goes, flow_done, given_room, given_few, given_goes, given_all}
use Rattle.slot.proofs.granting.grant_all.Goals as goal
use Rattle.slot.proofs.granting.grant_all.Goals.{In-loop-rest}

-- the lowest place that is left
lowest : (c : In-loop-rest) → (count_trailing_zeros 32 c.loop-rest.rest < 32) × Lowest c.loop-rest.rest (count_trailing_zeros 32 c.loop-rest.rest)
lowest c = trailing_lowest 32 c.loop-rest.rest (omega arith) (omega (arith, c.loop-rest.invariant.3, c.requires.places))

-- its flow goes
goes_at : (c : In-loop-rest) → bit c.args.choice.places (count_trailing_zeros 32 c.loop-rest.rest) ≡ true
goes_at c =
    let a = c.args in
    let loop = c.loop-rest in
    flow_goes a.records.now a.firsts a.run a.choice a.grants.now loop.invariant.0 loop.rest (count_trailing_zeros 32 loop.rest) loop.invariant.2 (lowest c).1 c.requires
    (lowest c).0 loop.run.flows loop.count loop.grants loop.invariant.4

-- and there is room for its grant
room : (c : In-loop-rest) → grant_bytes * c.loop-rest.count + grant_bytes ≤ length c.loop-rest.grants
room c =
    let a = c.args in
    let loop = c.loop-rest in
    given_room a.records.now a.firsts a.run a.choice a.grants.now loop.invariant.0 loop.rest (count_trailing_zeros 32 loop.rest) loop.invariant.2 (lowest c).1 c.requires
    (lowest c).0 loop.run.flows loop.count loop.grants loop.invariant.4

few : (c : In-loop-rest) → c.loop-rest.count < most_flows
few c =
    let a = c.args in
    let loop = c.loop-rest in
    given_few a.records.now a.firsts a.run a.choice a.grants.now loop.invariant.0 loop.rest (count_trailing_zeros 32 loop.rest) loop.invariant.2 (lowest c).1 c.requires
    (lowest c).0 loop.run.flows loop.count loop.grants loop.invariant.4

busy : (c : In-loop-rest) → place_of c.loop-rest.run.flows (count_trailing_zeros 32 c.loop-rest.rest) < most_steps
busy c =
    let a = c.args in
    let loop = c.loop-rest in
    omega (
      arith,
      c.requires.unfinished (count_trailing_zeros 32 loop.rest) (goes_at c),
      flow_done a.records.now a.firsts a.run a.choice a.grants.now loop.invariant.0 loop.rest (count_trailing_zeros 32 loop.rest) loop.invariant.2 (lowest c).1 c.requires
          (lowest c).0 loop.run.flows loop.count loop.grants loop.invariant.4,
    )

pub loop-rest-init : goal.loop-rest-init
loop-rest-init c =
    let a = c.args in
    (0, omega arith, left_all a.records.now a.firsts a.run a.choice a.grants.now, omega arith, given_none a.records.now a.firsts a.run a.choice a.grants.now)

pub record_at-requires : goal.record_at-requires
record_at-requires c = c.requires.recorded (count_trailing_zeros 32 c.loop-rest.rest) (goes_at (goal.at.record_at-requires c).In-loop-rest)

pub grant_of-grant-requires : goal.grant_of-grant-requires
unfolding flow_in
grant_of-grant-requires c = rw c.record_at.ensures (c.requires.period (count_trailing_zeros 32 c.loop-rest.rest) (goes_at (goal.at.grant_of-grant-requires c).In-loop-rest))

pub overflow_mul-count : goal.overflow_mul-count
overflow_mul-count c = omega (arith, few (goal.at.overflow_mul-count c).In-loop-rest)

pub slice_bounds-write_grant-count : goal.slice_bounds-write_grant-count
slice_bounds-write_grant-count c = omega (arith, room (goal.at.slice_bounds-write_grant-count c).In-loop-rest)

pub slice_bounds-write_grant-start : goal.slice_bounds-write_grant-start
slice_bounds-write_grant-start c = omega (arith, room (goal.at.slice_bounds-write_grant-start c).In-loop-rest)

pub write_grant-requires : goal.write_grant-requires
write_grant-requires c = simp (length-take, length-drop) (omega (arith, room (goal.at.write_grant-requires c).In-loop-rest))

pub overflow_add-run : goal.overflow_add-run
unfolding place_of
overflow_add-run c = omega (arith, busy (goal.at.overflow_add-run c).In-loop-rest)

pub overflow_add-count : goal.overflow_add-count
overflow_add-count c = omega (arith, few (goal.at.overflow_add-count c).In-loop-rest)

pub loop-rest-preserved : goal.loop-rest-preserved
unfolding place_of sent_at
loop-rest-preserved c =
    let a = c.args in
    let loop = c.loop-rest in
    let p : ℕ = count_trailing_zeros 32 loop.rest in
    let (below, low) = lowest (goal.at.loop-rest-preserved c).In-loop-rest in
    let grant = c.grant_of-grant in
    let put = c.write_grant in (
      p + 1,
      omega arith,
      rw (add-one p) (left_next a.records.now a.firsts a.run a.choice a.grants.now loop.invariant.0 loop.rest p loop.invariant.2 low),
      omega (arith, and_le_l loop.rest (loop.rest - 1), loop.invariant.3),
      rw (add-one p)
          (given_goes a.records.now a.firsts a.run a.choice a.grants.now loop.invariant.0 loop.rest p loop.invariant.2 low c.requires below loop.run.flows loop.count
          loop.grants loop.invariant.4 grant.result
          (grant.ensures ∙ ap (λ (w : Flow). grant_by w (get_or a.firsts p (record { 0 = 0 })) a.run.slot (get_or loop.run.flows p (idle_of 0)).done (get_or a.choice.sent p no_step)) c.record_at.ensures)
          put.new.part put.ensures),
    )

pub returns : goal.returns
returns c =
    let a = c.args in
    let loop = c.loop-rest in
    given_all a.records.now a.firsts a.run a.choice a.grants.now loop.invariant.0 loop.rest loop.invariant.2 (omega arith) loop.invariant.1 c.requires loop.run.flows loop.count loop.grants loop.invariant.4
