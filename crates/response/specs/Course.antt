-- One flow over time, with what can be counted of it. Leans on the trade's First and Interference.
use Rattle.std.specs.Prelude.{ℕ, suc, ◌+◌, ◌-◌, Bool, not, ltb}
use Rattle.trade.specs.First.{sum_to}
use Rattle.trade.specs.Interference.{one}

-- the length of a flow's plan; and for each slot the steps done after its releases, whether the flow goes, whether it is released
pub record Course : Type 0 where
  pub len : ℕ
  pub done : ℕ → ℕ
  pub goes : ℕ → Bool
  pub released : ℕ → Bool

-- in how many of the w slots from r on a test holds
unfoldable pub often : (ℕ → Bool) → ℕ → ℕ → ℕ
often test r w = sum_to (λ k. one (test (r + k))) w

-- in how many of these slots the flow does not go
unfoldable pub waiting : Course → ℕ → ℕ → ℕ
waiting c r w = often (λ t. not (c.goes t)) r w

-- the instances of a flow that act in these slots: one that is unfinished in slot r after its releases, and those released later
unfoldable pub acting : Course → ℕ → ℕ → ℕ
acting c r w = one (ltb (c.done r) c.len) + often c.released (suc r) (w - 1)

-- the steps done when slot t is over
unfoldable pub after : Course → ℕ → ℕ
after c t = c.done t + one (c.goes t)
