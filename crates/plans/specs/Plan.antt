-- A plan as a part of a steps section, and the step at a place of it. Any place may be asked for. Leans on the
-- nodes' Network, and on the trade's Facts.
use Rattle.std.specs.Prelude.{ℕ, ◌+◌, ◌*◌, ◌/◌, ◌<◌, cond, ◌&&◌, List, ltb, length}
use Rattle.trade.specs.Limits.{step_bytes}
use Rattle.trade.specs.Bytes.{part}
use Rattle.trade.specs.Facts.{step_in}
use Rattle.trade.specs.declared.node.Transmission.{Transmission}
use Rattle.nodes.specs.Network.{Within}

-- the steps that a part of a steps section holds
abbrev pub steps_in : List ℕ → ℕ
steps_in steps = length steps / step_bytes

-- every whole step of these is from one node of the network to another
abbrev pub AllWithin : List ℕ → List ℕ → Type 0
AllWithin rows steps = (k : ℕ) → step_bytes * k + 1 < length steps → Within rows (step_in steps k)

-- the part of a steps section that holds so many steps from one on: fewer where the section ends before them, and none where it ends
-- before the first
abbrev pub plan_in : List ℕ → ℕ → ℕ → List ℕ
plan_in steps first count = part (step_bytes * first) (step_bytes * count) steps

-- what stands for a step where there is none: 0 to 0, which no well-formed book has
abbrev pub no_step : Transmission
no_step = record { sender = record { 0 = 0 }; receiver = record { 0 = 0 } }

-- step k of a part that holds it whole, else none
unfoldable pub step_or : List ℕ → ℕ → Transmission
step_or steps k = cond (ltb k (steps_in steps)) (step_in steps k) no_step

-- step j of the plan that has so many steps of a section from one on, if it has a step j and the section holds it whole, else none
unfoldable pub plan_step : List ℕ → ℕ → ℕ → ℕ → Transmission
plan_step steps first count j = cond (ltb j count && ltb (first + j) (steps_in steps)) (step_in steps (first + j)) no_step
