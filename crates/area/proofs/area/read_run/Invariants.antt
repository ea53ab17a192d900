-- `area::area::read_run` reads each place in turn, and then the slot. Assumes nothing.
use Prim.Native.Nat.{ℕ, ◌<◌}
use mathlib.Core.Path.{◌≡◌}
use lib.ListN.{length}
use Rattle.trade.specs.Limits.{most_flows}
use Rattle.trade.specs.Area.{state_in}
use Rattle.slot.specs.States.{place_of}
use Rattle.area.proofs.area.read_run.Given as goal

abbrev pub invariant-loop-i : goal.invariant-loop-i
invariant-loop-i l = (length l.flow-items ≡ most_flows) × ((k : ℕ) → k < l.i → place_of l.flow-items k ≡ (state_in l.area).done k)
