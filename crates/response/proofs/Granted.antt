-- Laws of the flows that are granted in a slot, by any rule of waiting: they are unfinished flows of the book, in record order; and no
-- two of their steps conflict, by a rule that refuses conflicts. Assumes nothing.
use Prim.Native.Nat.{ℕ, ◌<◌}
use mathlib.Core.Path.{◌≡◌, sym, ◌∙◌}
use mathlib.Core.Bool.{true, false}
use native.Mathlib.Omega.{arith}
use lib.ListN.{length, get_or}
use borrow.Author.Tests.{ltb-true}
use Rattle.trade.specs.Facts.{Facts}
use Rattle.trade.specs.Conflict.{conflict}
use Rattle.trade.specs.Slot.{State, Releases, done_now, unfinished, next_step, going, Waits, granted_by, among}
use Rattle.trade.proofs.SlotLaws.{going_below, going_stands, Refuses}
use Rattle.trade.proofs.Order.{among_at, conflicts_none, going_held, going_rising, going_once}

module _ (waits : Waits) (f : Facts) (r : Releases) (s : State) where
  -- a granted flow is one of the book's, and is unfinished
  pub granted_below : (i : ℕ) → among (granted_by waits f r s) i ≡ true → i < f.flows
  unfolding granted_by
  granted_below i m = (going_below (waits f r s) (unfinished f r s) f.flows i m).0

  pub granted_unfinished : (i : ℕ) → among (granted_by waits f r s) i ≡ true → done_now r s i < f.len i
  unfolding granted_by unfinished
  granted_unfinished i m = ltb-true (done_now r s i) (f.len i) (going_below (waits f r s) (unfinished f r s) f.flows i m).1

  -- they stand in record order, none twice
  pub granted_rising :
      (a b : ℕ) → a < b → b < length (granted_by waits f r s) → get_or (granted_by waits f r s) a 0 < get_or (granted_by waits f r s) b 0
  unfolding granted_by
  granted_rising a b a< b< = going_rising (waits f r s) (unfinished f r s) f.flows a b a< b<

  pub granted_once :
      (a b : ℕ)
      → a < length (granted_by waits f r s)
      → b < length (granted_by waits f r s)
      → get_or (granted_by waits f r s) a 0 ≡ get_or (granted_by waits f r s) b 0
      → a ≡ b
  unfolding granted_by
  granted_once a b a< b< e = going_once (waits f r s) (unfinished f r s) f.flows a b a< b< e

  -- no two of their steps conflict
  module _ (refuses : Refuses waits) where
    pub granted_free :
        (i j : ℕ)
        → i < j
        → among (granted_by waits f r s) i ≡ true
        → among (granted_by waits f r s) j ≡ true
        → conflict f.disturbs (next_step f r s i) (next_step f r s j) ≡ false
    unfolding granted_by
    granted_free i j i< mi mj =
        conflicts_none f.disturbs (next_step f r s) (next_step f r s j) (going (waits f r s) (unfinished f r s) j) i
        (refuses f r s (going (waits f r s) (unfinished f r s) j) j (going_held (waits f r s) (unfinished f r s) f.flows j mj))
        (sym
        (going_stands (waits f r s) (unfinished f r s) j f.flows i i<
        (omega (arith, (going_below (waits f r s) (unfinished f r s) f.flows j mj).0)))
        ∙ mi)

    pub granted_apart :
        (a b : ℕ)
        → a < b
        → b < length (granted_by waits f r s)
        → conflict f.disturbs (next_step f r s (get_or (granted_by waits f r s) a 0)) (next_step f r s (get_or (granted_by waits f r s) b 0))
        ≡ false
    granted_apart a b a< b< =
        granted_free (get_or (granted_by waits f r s) a 0) (get_or (granted_by waits f r s) b 0) (granted_rising a b a< b<)
        (among_at (granted_by waits f r s) a (omega arith)) (among_at (granted_by waits f r s) b b<)
