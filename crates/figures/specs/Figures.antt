-- The figures that the columns of a plan give for the plans above it, and who is heard by whom. Leans on the pairs' Columns.
use Rattle.std.specs.Prelude.{◌≡◌, ℕ, ◌+◌, ◌-◌, ◌*◌, ◌<◌, ◌≤◌, ◌&&◌, List, length, slice_index}
use Rattle.trade.specs.Limits.{most_nodes, most_steps, step_bytes}
use Rattle.trade.specs.First.{some}
use Rattle.trade.specs.Bytes.{bit}
use Rattle.trade.specs.Facts.{facts_in, disturbs_in, step_in}
use Rattle.trade.specs.Interference.{worst_path, interference}
use Rattle.plans.specs.Plan.{steps_in}
use Rattle.pairs.specs.Columns.{ending, Hears, Narrow, matrix_by}
use Rattle.sections.specs.Formed.{plan_start, plan_at}

-- the figure of a plan, by the columns of the one below it, which has n steps
abbrev pub figure_by : List ℕ → ℕ → List ℕ → ℕ
figure_by columns n plan = worst_path (matrix_by columns n plan) n (steps_in plan)

-- a plan that columns may be asked about
pub record Asked (plan : List ℕ) : Type 0 where
  pub short : length plan ≤ step_bytes * most_steps
  pub numbered : (k : ℕ) → step_bytes * k + 1 < length plan → ((step_in plan k).sender.0 < most_nodes) × ((step_in plan k).receiver.0 < most_nodes)

-- of each node that sends or receives a step of one of so many flows but the last, whom it disturbs
pub record HeardIn (flows : ℕ) (rows records steps heard : List ℕ) : Type 0 where
  pub size : length heard ≡ most_nodes
  pub bits : (y x : ℕ) → y < most_nodes → bit (slice_index heard y) x ≡ (some (λ j. ending (step_in steps j) x) (plan_start records (flows - 1)) && disturbs_in rows x y)

-- of each sender and each receiver above l
abbrev pub AllHeard : ℕ → List ℕ → List ℕ → List ℕ → List ℕ → Type 0
AllHeard l rows records steps heard =
    (h j : ℕ)
    → h < l
    → j < steps_in (plan_at records steps h)
    → Hears rows heard (step_in (plan_at records steps h) j).sender.0 × Hears rows heard (step_in (plan_at records steps h) j).receiver.0

-- columns of the plan of l, of so many steps, that give the figure of each flow above it
pub record Weighs (rows records steps : List ℕ) (l width : ℕ) (columns : List ℕ) : Type 0 where
  pub size : length columns ≡ most_nodes
  pub short : width ≤ most_steps
  pub narrow : Narrow width columns
  pub figure : (h : ℕ) → h < l → figure_by columns width (plan_at records steps h) ≡ interference (facts_in 0 0 rows records steps) l h
