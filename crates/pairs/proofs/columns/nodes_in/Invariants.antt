-- `pairs::columns::nodes_in` joins the ends of the steps. The loop's invariant: the set has those of the first j. Assumes nothing.
use Prim.Native.Nat.{ℕ}
use mathlib.Core.Path.{◌≡◌}
use Rattle.trade.specs.First.{some}
use Rattle.trade.specs.Bytes.{bit}
use Rattle.trade.specs.Facts.{step_in}
use Rattle.pairs.specs.Columns.{ending}
use Rattle.pairs.proofs.columns.nodes_in.Given as goal

abbrev pub invariant-loop-j : goal.invariant-loop-j
invariant-loop-j l = (x : ℕ) → bit l.nodes x ≡ some (λ i. ending (step_in l.steps i) x) l.j
