-- `area::area::write_run` stores each place in turn behind the slot. Assumes nothing.
use Prim.Native.Nat.{ℕ}
use mathlib.Core.Path.{◌≡◌, ◌∙◌, ap}
use native.Mathlib.Omega.{arith}
use Rattle.trade.specs.Limits.{most_flows, slot_bytes}
use Rattle.trade.specs.First.{list_to}
use Rattle.numbers.specs.Pasting.{pasted_at}
use Rattle.slot.specs.States.{place_of, state_of}
use Rattle.trade.specs.Bytes.{four_bytes}
use Rattle.numbers.proofs.PastingLaws.{pasted_first}
use Rattle.slot.proofs.Places.{store_none, store_next, area_written}
use Rattle.area.proofs.area.write_run.Goals as goal

pub loop-i-init : goal.loop-i-init
loop-i-init c =
    let put = c.put_long in
    (omega (arith, put.auto.buffer, c.requires), store_none slot_bytes (place_of c.args.run.flows) put.new.buffer)

pub loop-i-preserved : goal.loop-i-preserved
unfolding place_of
loop-i-preserved c =
    let loop = c.loop-i in
    (loop.invariant.0, store_next slot_bytes _ _ loop.i loop.area loop.invariant.1 (omega arith))

pub returns : goal.returns
unfolding state_of
returns c =
    let a = c.args in
    let loop = c.loop-i in
    let put = c.put_long in
    let all : loop.i ≡ most_flows = omega arith in
    loop.invariant.1
    ∙ ap (λ (n : ℕ). pasted_at slot_bytes (list_to (place_of a.run.flows) n) put.new.buffer) all
    ∙ ap (pasted_at slot_bytes (list_to (place_of a.run.flows) most_flows)) (put.ensures ∙ pasted_first (four_bytes a.run.slot.0) a.area.now)
    ∙ area_written (state_of a.run) a.area.now
