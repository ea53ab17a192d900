-- `slot::granting::grant_all` grants the lowest place that is left, and goes on without it. The measure is what is left, as a number. Assumes
-- nothing.
use Prim.Native.Nat.{ℕ, ◌≤◌}
use Rattle.trade.specs.Limits.{most_flows}
use Rattle.slot.proofs.GrantingLaws.{Left, Given}
use Rattle.slot.proofs.granting.grant_all.Given as goal

abbrev pub invariant-loop-rest : goal.invariant-loop-rest
invariant-loop-rest l =
    (k : ℕ)
    × (k ≤ most_flows)
    × Left l.records l.firsts l.initial.run l.choice l.initial.grants k l.rest
    × (l.rest ≤ l.choice.places)
    × Given l.records l.firsts l.initial.run l.choice l.initial.grants k l.run.flows l.count l.grants

abbrev pub decreases-loop-rest : goal.decreases-loop-rest
decreases-loop-rest l = l.rest
