-- A run that codes 10 and 12 let pass: its slot is one of the clock's, no flow has had more than its plan, and one that has not begun is
-- idle. Leans on Answers. Assumes nothing.
use Prim.Native.Nat.{ℕ, ◌≤◌, ◌<◌}
use mathlib.Core.Path.{◌≡◌}
use mathlib.Core.Bool.{true, false, not, ◌&&◌, ◌||◌}
use mathlib.Core.Logic.{⊎_elim}
use native.Mathlib.Omega.{arith}
use lib.Dec.{eqb, ltb}
use borrow.Author.Tests.{eqb-true, eqb-false, ltb-false, lt-ltb, not-false}
use Rattle.trade.specs.Limits.{most_flows, end_of_clock}
use Rattle.trade.specs.Facts.{Facts}
use Rattle.trade.specs.Slot.{State, Releases, done_now}
use Rattle.trade.specs.SlotCodes.{bad_place, code10, code12}
use Rattle.trade.proofs.First.{bool_cases, or_false}
use Rattle.trade.proofs.Answers.{given_passed, given_first_passed}

module _ (f : Facts) (r : Releases) (s : State) (formed : (code10 f r s).code ≡ 0) where
  in_clock : ltb end_of_clock s.slot ≡ false
  unfolding code10
  in_clock =
      ⊎_elim (λ (e : ltb end_of_clock s.slot ≡ true). let z : 10 ≡ 0 = rw e at formed in absurd (omega arith))
      (λ (e : ltb end_of_clock s.slot ≡ false). e)
      (bool_cases (ltb end_of_clock s.slot))

  good_place : (i : ℕ) → i < most_flows → bad_place f r s i ≡ false
  unfolding code10
  good_place = given_first_passed 9 (bad_place f r s) most_flows (rw in_clock at formed)

  pub slot_in_clock : (code12 s).code ≡ 0 → s.slot < end_of_clock
  unfolding code12
  slot_in_clock e = omega (arith, ltb-false end_of_clock s.slot in_clock, eqb-false s.slot end_of_clock (given_passed 11 _ 0 e))

  module _ (few : f.flows ≤ most_flows) (i : ℕ) (listed : i < f.flows) where
    short : ltb (f.len i) (s.done i) ≡ false
    unfolding bad_place
    short = (or_false _ (not (r.begun i) && not (eqb (s.done i) (f.len i))) (rw (lt-ltb i f.flows listed) at (good_place i (omega arith)))).0

    idle : (not (r.begun i) && not (eqb (s.done i) (f.len i))) ≡ false
    unfolding bad_place
    idle = (or_false (ltb (f.len i) (s.done i)) _ (rw (lt-ltb i f.flows listed) at (good_place i (omega arith)))).1

    -- after the releases too
    pub done_within : done_now r s i ≤ f.len i
    unfolding done_now
    done_within =
        ⊎_elim (λ (e : r.due i ≡ true). rw e (omega arith)) (λ (e : r.due i ≡ false). rw e (ltb-false (f.len i) (s.done i) short))
        (bool_cases (r.due i))

    pub idle_before : (r.due i || r.begun i) ≡ false → done_now r s i ≡ f.len i
    unfolding done_now
    idle_before e =
        let (quiet, early) = or_false (r.due i) (r.begun i) e in
        rw quiet (eqb-true (s.done i) (f.len i) (not-false (eqb (s.done i) (f.len i)) (rw early at idle)))
