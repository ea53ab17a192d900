-- `bounds::rising::slots_needed` meets its contract: the sum is that of the flows passed. Assumes nothing.
use Prim.Native.Nat.{ℕ, ◌+◌, ◌*◌, ◌≤◌}
use mathlib.Core.Path.{◌≡◌}
use Rattle.trade.specs.Limits.{most_period, most_steps}
use Rattle.bounds.specs.Terms.{needed_in}
use Rattle.bounds.proofs.rising.slots_needed.Given as goal

-- the most that one flow above adds
abbrev pub most : ℕ
most = 2 * most_period * 255

abbrev pub invariant-loop-h : goal.invariant-loop-h
invariant-loop-h l = (l.sum ≤ most_steps + most * l.h) × (l.sum ≡ needed_in l.len l.h l.figures l.periods l.carries l.r)
