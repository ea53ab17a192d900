-- `area::area::write_run` stores each place in turn behind the slot. Assumes nothing.
use Prim.Native.Nat.{◌≤◌}
use mathlib.Core.Path.{◌≡◌}
use lib.ListN.{length}
use Rattle.trade.specs.Limits.{slot_bytes, area_bytes}
use Rattle.trade.specs.First.{list_to}
use Rattle.numbers.specs.Pasting.{pasted_at}
use Rattle.slot.specs.States.{place_of}
use Rattle.area.proofs.area.write_run.Given as goal

abbrev pub invariant-loop-i : goal.invariant-loop-i
invariant-loop-i l =
    (area_bytes ≤ length l.initial.area)
    × (l.area ≡ pasted_at slot_bytes (list_to (place_of l.fn.run.flows) l.i) l.initial.area)
