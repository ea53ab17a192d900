-- What a measure and a rule of waiting owe each other, so that the program by them keeps demand 3; and that interference with the
-- bounds and the greedy rule have it. Assumes nothing.
use Prim.Native.Nat.{ℕ, ◌≤◌}
use native.Mathlib.Omega.{arith}
use Rattle.trade.specs.Facts.{Facts}
use Rattle.trade.specs.Interference.{interference}
use Rattle.trade.specs.Bound.{Measure, measure, bound_by}
use Rattle.trade.specs.Slot.{Waits, greedy}
use Rattle.trade.proofs.Fair.{fair_carry}
use Rattle.trade.proofs.SlotLaws.{Refuses, greedy_refuses}
use Rattle.trade.proofs.Prefix.{Local, greedy_local}
use Rattle.response.specs.Promise.{Covers}
use Rattle.response.proofs.Greedy.{greedy_covers}

-- the carry-in of a measure is no less than any bound within its deadline
abbrev pub Carries : (Facts → Measure) → Type 0
Carries measured = (f : Facts) (l : ℕ) → bound_by f (measured f) l ≤ f.deadline l → bound_by f (measured f) l ≤ (measured f).carry l

-- the measure covers the rule, and carries its bounds; the rule refuses conflicts, and reads a run only at the flows taken
pub record Sound (measured : Facts → Measure) (waits : Waits) : Type 0 where
  pub covers : (f : Facts) → Covers waits f (measured f)
  pub carries : Carries measured
  pub refuses : Refuses waits
  pub local : Local waits

pub greedy_sound : Sound measure greedy
greedy_sound =
    record {
      covers = λ f. greedy_covers f (measure f).carry;
      carries = λ f l h. omega (arith, fair_carry f (interference f) l);
      refuses = greedy_refuses;
      local = greedy_local;
    }
