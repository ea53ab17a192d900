-- A plan whose runs of repeated steps are one step each. Leans on Plan.
use Rattle.std.specs.Prelude.{ℕ, zero, suc, ◌-◌, ◌*◌, ◌≤◌, ◌<◌, ◌≡◌, Bool, false, cond, ◌&&◌, List, eqb, length, get_or}
use Rattle.trade.specs.Limits.{step_bytes}
use Rattle.trade.specs.Facts.{step_in}
use Rattle.trade.specs.declared.node.Transmission.{Transmission}
use Rattle.plans.specs.Plan.{steps_in}

-- two steps go from the same node to the same
abbrev pub same : Transmission → Transmission → Bool
same u v = eqb u.sender.0 v.sender.0 && eqb u.receiver.0 v.receiver.0

-- a step is the same as the one before it
unfoldable pub again : List ℕ → ℕ → Bool
again plan zero = false
again plan (suc k) = same (step_in plan k) (step_in plan (suc k))

-- how many of the first k steps are not
unfoldable pub singles : List ℕ → ℕ → ℕ
singles plan zero = 0
singles plan (suc k) = cond (again plan k) (singles plan k) (suc (singles plan k))

-- where step k stands among those
abbrev pub place_of : List ℕ → ℕ → ℕ
place_of plan k = singles plan (suc k) - 1

-- the first k steps written each at its place, so that a repeated one stands once, and what lies behind them as it was
pub record SingledTo (plan : List ℕ) (k : ℕ) (before after : List ℕ) : Type 0 where
  pub size : length after ≡ length before
  pub steps : (i : ℕ) → i < k → step_in after (place_of plan i) ≡ step_in plan i
  pub others : (x : ℕ) → step_bytes * singles plan k ≤ x → get_or after x 0 ≡ get_or before x 0

abbrev pub Singled : List ℕ → List ℕ → List ℕ → Type 0
Singled plan = SingledTo plan (steps_in plan)
