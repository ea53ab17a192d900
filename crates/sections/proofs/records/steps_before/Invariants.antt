-- `sections::records::steps_before` meets its contract: the sum is that of the plans passed. Assumes nothing.
use Prim.Native.Nat.{◌≤◌, ◌*◌}
use mathlib.Core.Path.{◌≡◌}
use Rattle.trade.specs.Limits.{most_id}
use Rattle.trade.specs.First.{sum_to}
use Rattle.trade.specs.Layout.{field}
use Rattle.sections.proofs.records.steps_before.Given as goal

abbrev pub invariant-loop-i : goal.invariant-loop-i
invariant-loop-i l = (l.i ≤ l.flows) × (l.sum ≤ most_id * l.i) × (l.sum ≡ sum_to (λ k. field l.records k 4) l.i)
