-- `sections::steps::searched_steps` meets its contract: no step of the plans passed is bad. Assumes nothing.
use Prim.Native.Nat.{ℕ, ◌<◌}
use mathlib.Core.Path.{◌≡◌}
use mathlib.Core.Bool.{false}
use mathlib.Core.List.{[]}
use Rattle.trade.specs.First.{sum_to}
use Rattle.trade.specs.Layout.{field}
use Rattle.trade.specs.Facts.{facts_in}
use Rattle.trade.specs.Codes.{bad_step}
use Rattle.sections.proofs.steps.searched_steps.Given as goal

abbrev pub invariant-loop-i : goal.invariant-loop-i
invariant-loop-i l =
    (l.start ≡ sum_to (λ k. field l.records k 4) l.i)
    × ((k : ℕ) → k < l.start → bad_step (facts_in l.nodes l.flows [] l.records l.steps) k ≡ false)
