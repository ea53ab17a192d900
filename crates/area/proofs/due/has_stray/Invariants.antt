-- `area::due::has_stray` where none is seen, no unused place passed is other than 0. Assumes nothing.
use Prim.Native.Nat.{ℕ, ◌≤◌, ◌<◌}
use mathlib.Core.Path.{◌≡◌}
use mathlib.Core.Bool.{false}
use Rattle.slot.specs.States.{place_of}
use Rattle.area.proofs.due.has_stray.Given as goal

abbrev pub invariant-loop-i : goal.invariant-loop-i
invariant-loop-i l = l.stray ≡ false → (k : ℕ) → k < l.i → l.flows ≤ k → place_of l.run.flows k ≡ 0
