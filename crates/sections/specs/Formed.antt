-- Sections whose flows have passed codes 6, 7 and 8, as far as the bounds read them. Leans on the trade's layout.
use Rattle.std.specs.Prelude.{ℕ, ◌*◌, ◌≤◌, ◌<◌, List, length}
use Rattle.trade.specs.Limits.{most_flows, most_steps, most_period, record_bytes, step_bytes}
use Rattle.trade.specs.First.{sum_to}
use Rattle.trade.specs.Layout.{field}
use Rattle.trade.specs.Facts.{step_in}
use Rattle.nodes.specs.Network.{Within}
use Rattle.plans.specs.Plan.{plan_in}

-- the period, the deadline and the plan's length of record i are in their ranges
pub record InRange (records : List ℕ) (i : ℕ) : Type 0 where
  pub period : (1 ≤ field records i 2) × (field records i 2 ≤ most_period)
  pub deadline : (1 ≤ field records i 3) × (field records i 3 ≤ field records i 2)
  pub len : (1 ≤ field records i 4) × (field records i 4 ≤ most_steps)

-- the first k flows: their records and plans are there, their fields in range, and their steps lie in the network
pub record Formed (k : ℕ) (rows records steps : List ℕ) : Type 0 where
  pub most : k ≤ most_flows
  pub recorded : record_bytes * k ≤ length records
  pub fields : (i : ℕ) → i < k → InRange records i
  pub planned : step_bytes * sum_to (λ i. field records i 4) k ≤ length steps
  pub within : (j : ℕ) → j < sum_to (λ i. field records i 4) k → Within rows (step_in steps j)

-- where plan i starts, and the part of the steps that holds it
abbrev pub plan_start : List ℕ → ℕ → ℕ
plan_start records i = sum_to (λ k. field records k 4) i

abbrev pub plan_at : List ℕ → List ℕ → ℕ → List ℕ
plan_at records steps i = plan_in steps (plan_start records i) (field records i 4)
