-- The interference covers the greedy rule: a flow that waits conflicts with a granted flow above it, and the worst count of conflicts
-- from a step of each on is the potential. Assumes nothing.
use Prim.Native.Nat.{ℕ, ◌-◌, ◌<◌}
use mathlib.Core.Path.{◌≡◌, ◌∙◌}
use mathlib.Core.Bool.{true, false}
use borrow.Author.Tests.{lt-ltb}
use Rattle.trade.specs.Facts.{Facts}
use Rattle.trade.specs.Interference.{worst, matrix, interference}
use Rattle.trade.specs.Bound.{by_interference}
use Rattle.trade.specs.Slot.{State, Releases, done_now, unfinished, next_step, greedy, granted, among}
use Rattle.trade.proofs.Conflict.{conflict_symmetric}
use Rattle.trade.proofs.SlotLaws.{Blocked, left_out_blocked}
use Rattle.response.specs.Promise.{Covers}
use Rattle.response.proofs.Worst.{worst_potential}

-- the next step of an unfinished flow that is not granted conflicts with that of a granted flow above it
waits_for :
    (f : Facts) (r : Releases) (s : State) (l : ℕ)
    → l < f.flows
    → done_now r s l < f.len l
    → among (granted f r s) l ≡ false
    → (h : ℕ) × (h < l) × (among (granted f r s) h ≡ true) × (matrix f l h (done_now r s l) (done_now r s h) ≡ true)
unfolding unfinished next_step matrix
waits_for f r s l l< left m =
    let b : Blocked f r s l = left_out_blocked f r s l l< (lt-ltb (done_now r s l) (f.len l) left) m in (
      b.by,
      b.above,
      b.goes,
      conflict_symmetric f.disturbs (next_step f r s l) (next_step f r s b.by) ∙ b.conflicts,
    )

-- whatever the carry-in
pub greedy_covers : (f : Facts) (carry : ℕ → ℕ) → Covers greedy f (by_interference f carry)
unfolding interference
greedy_covers f carry =
    record {
      marks = matrix f;
      blocked = waits_for f;
      potential = λ l h i j. worst (matrix f l h) (f.len l) i j (f.len h - j);
      pays = λ l h l< h<. worst_potential (matrix f l h) (f.len l) (f.len h);
    }
