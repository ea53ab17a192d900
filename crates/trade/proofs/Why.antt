-- Why a flow is silent: when its first release has come, by which of the four, and that a flow that waits has one above it to wait on. Leans
-- on Slot and First. Assumes nothing.
use Prim.Native.Nat.{ℕ, ◌-◌, ◌%◌, ◌≤◌, ◌<◌}
use mathlib.Core.Path.{◌≡◌, refl, ap, ap₂}
use mathlib.Core.Bool.{true, false, ◌&&◌, ◌||◌}
use mathlib.Core.List.{List}
use mathlib.Core.Logic.{⊎_elim}
use native.Mathlib.Nat.{zero-mod}
use native.Mathlib.Omega.{arith}
use lib.Dec.{eqb, leb}
use borrow.Author.Tests.{lt-ltb, le-ltb, lt-leb, le-leb}
use Rattle.trade.specs.First.{first}
use Rattle.trade.specs.Facts.{Facts, step_of}
use Rattle.trade.specs.Conflict.{conflict}
use Rattle.trade.specs.Slot.{State, Releases, released, periodic, done_now, unfinished, next_step, granted, among}
use Rattle.trade.specs.Why.{blocks, why}
use Rattle.trade.specs.declared.told.Told.TheVariants.{NotReleased, Finished, Granted, WaitingOn}
use Rattle.trade.proofs.First.{not_both, or_right, lt_or_ge, first_before, first_holds, first_unique, first_cong}
use Rattle.trade.proofs.SlotLaws.{left_out_blocked}

-- a flow's first release has come if it is due in the slot or came before it
pub begun_is :
    (f : Facts) (firsts : ℕ → ℕ) (slot i : ℕ) → ((periodic f firsts slot).due i || (periodic f firsts slot).begun i) ≡ leb (firsts i) slot
unfolding released
begun_is f firsts slot i =
    let first : ℕ = firsts i in
    ⊎_elim (λ (l : first < slot). rw (lt-ltb first slot l, le-leb first slot (omega arith)) (or_right (eqb ((slot - first) % f.period i) 0) true refl))
    (λ (l : slot ≤ first).
    ⊎_elim (λ (m : slot < first). rw (lt-leb first slot m, le-ltb first slot l) refl)
    (λ (m : first ≤ slot).
    let none : slot - first ≡ 0 = omega arith in
    rw (le-leb first slot m, le-ltb first slot l, none, zero-mod (f.period i)) refl)
    (lt_or_ge slot first))
    (lt_or_ge first slot)

module _ (f : Facts) (r : Releases) (s : State) (i : ℕ) where
  pub tells_unreleased : (r.due i || r.begun i) ≡ false → why f r s i ≡ NotReleased
  unfolding why
  tells_unreleased e = rw e

  pub tells_finished : (r.due i || r.begun i) ≡ true → unfinished f r s i ≡ false → why f r s i ≡ Finished
  unfolding why
  tells_finished e u = rw (e, u)

  pub tells_granted : (r.due i || r.begun i) ≡ true → unfinished f r s i ≡ true → among (granted f r s) i ≡ true → why f r s i ≡ Granted
  unfolding why
  tells_granted e u g = rw (e, u, g)

  pub tells_waiting :
      (r.due i || r.begun i) ≡ true
      → unfinished f r s i ≡ true
      → among (granted f r s) i ≡ false
      → why f r s i ≡ WaitingOn (first (blocks f r s i) f.flows)
  unfolding why
  tells_waiting e u g = rw (e, u, g)

  -- the first that blocks stands above
  module _ (l : i < f.flows) (u : unfinished f r s i ≡ true) (g : among (granted f r s) i ≡ false) where
    pub blocked_above : first (blocks f r s i) i < i
    unfolding blocks
    blocked_above =
        let b = left_out_blocked f r s i l u g in
        ⊎_elim
        (λ (p : b.by < first (blocks f r s i) i).
        absurd (not_both (ap₂ ◌&&◌ b.goes b.conflicts) (first_before (blocks f r s i) i b.by p)))
        (λ (p : first (blocks f r s i) i ≤ b.by). omega (arith, b.above))
        (lt_or_ge b.by (first (blocks f r s i) i))

    pub blocker_is : first (blocks f r s i) f.flows ≡ first (blocks f r s i) i
    blocker_is =
        first_unique (blocks f r s i) f.flows (first (blocks f r s i) i) (omega (arith, blocked_above)) (first_before (blocks f r s i) i)
        (λ p. first_holds (blocks f r s i) i blocked_above)

-- what is told is by which flows have begun, how far they are, and which are granted
module _
    (f : Facts) (r q : Releases) (s t : State) (i : ℕ)
    (l : i < f.flows)
    (begun : (r.due i || r.begun i) ≡ (q.due i || q.begun i))
    (far : (h : ℕ) → h < f.flows → done_now r s h ≡ done_now q t h)
    (same : granted f r s ≡ granted f q t)
  where
    pub next_same : (h : ℕ) → h < f.flows → next_step f r s h ≡ next_step f q t h
    unfolding next_step
    next_same h p = ap (step_of f h) (far h p)

    blocks_same : (h : ℕ) → h < f.flows → blocks f r s i h ≡ blocks f q t i h
    unfolding blocks
    blocks_same h p =
        ap₂ ◌&&◌ (ap (λ (is : List ℕ). among is h) same)
        (ap₂ (conflict f.disturbs) (next_same h p) (next_same i l))

    pub why_same : why f r s i ≡ why f q t i
    unfolding why unfinished
    why_same = rw (begun, far i l, same, first_cong (blocks f r s i) (blocks f q t i) f.flows blocks_same)
