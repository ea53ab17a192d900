-- An instance that does all its steps within R slots is granted them in R slots, in order. Assumes nothing.
use Prim.Native.Nat.{ℕ, ◌+◌, ◌-◌, ◌<◌}
use mathlib.Core.Path.{◌≡◌}
use mathlib.Core.Bool.{Bool, true, false, ◌&&◌}
use native.Mathlib.Omega.{arith}
use native.Mathlib.Nat.{add-sub_of_le}
use lib.Dec.{eqb}
use borrow.Author.Tests.{eqb-true, eq-eqb}
use Rattle.trade.specs.First.{first}
use Rattle.trade.specs.Facts.{Facts}
use Rattle.trade.specs.Slot.{Releases, Waits}
use Rattle.trade.proofs.First.{and_true, some_intro, some_true}
use Rattle.response.specs.Course.{Course, often}
use Rattle.response.specs.Promise.{course_of, InOrder, RunGranted, RunKept}
use Rattle.response.proofs.Cases.{by_order}
use Rattle.response.proofs.Steady.{done_grows}
use Rattle.response.proofs.InOrder.{number_stays}
use Rattle.response.proofs.Due.{instance_steps}
use Rattle.response.proofs.Run.{run_steady}

-- a flow goes with step k, so many slots after slot r
goes_with : Course → ℕ → ℕ → ℕ → Bool
goes_with c r k d = c.goes (r + d) && eqb (c.done (r + d)) k

-- the first slot, among the n from r on, in which it does
slot_of : Course → ℕ → ℕ → ℕ → ℕ
slot_of c r n k = r + first (goes_with c r k) n

-- the instance of flow l that is released in slot r, and n slots from there with no other release
module _
    (waits : Waits)
    (f : Facts)
    (releases : ℕ → Releases)
    (l : ℕ)
    (order : InOrder releases l)
    (r n : ℕ)
    (due : (releases r).due l ≡ true)
    (quiet : (u : ℕ) → r < u → u < r + n → (releases u).due l ≡ false)
  where
    abbrev course : Course
    course = course_of waits f releases l

    -- that slot is one in which the step is granted
    slot_granted :
        (k : ℕ)
        → k < often course.goes r n
        → (slot_of course r n k < r + n) × RunGranted waits f releases l ((releases r).instance l) k (slot_of course r n k)
    unfolding course_of slot_of goes_with
    slot_granted k k< =
        let (u, from, before, g) = instance_steps waits f releases l order r n due quiet k k< in
        let now : r + (u - r) ≡ u = add-sub_of_le from in
        let there : goes_with course r k (u - r) ≡ true = rw (now, g.goes, eq-eqb (course.done u) k g.step) in
        let d : ℕ = first (goes_with course r k) n in
        let (soon, here) = some_true (goes_with course r k) n (some_intro (goes_with course r k) n (u - r) (omega arith) there) in
        let (goes, with) = and_true (course.goes (r + d)) (eqb (course.done (r + d)) k) here in (
          omega arith,
          record {
            goes = goes;
            step = eqb-true (course.done (r + d)) k with;
            instance = number_stays releases l order r d (λ x x> x≤. quiet x x> (omega arith));
          },
        )

    -- an instance that does all its steps in these slots keeps to them
    pub steps_kept : often (course_of waits f releases l).goes r n ≡ f.len l → RunKept waits f releases l r n
    unfolding course_of slot_of
    steps_kept all =
        record {
          slot = slot_of course r n;
          granted = λ k k<. (slot_granted k (omega arith)).1;
          released = λ k k<. omega arith;
          within = λ k k<. (slot_granted k (omega arith)).0;
          ordered =
              λ k m k< m<.
              let (k_before, gk) = slot_granted k (omega arith) in
              let (m_before, gm) = slot_granted m (omega arith) in
              by_order (slot_of course r n m) (slot_of course r n k)
              (λ back.
              absurd
              (omega (
                arith,
                gk.step,
                gm.step,
                done_grows course (run_steady waits f releases l) (slot_of course r n m) (slot_of course r n k) back
                    (λ u u> u≤. quiet u (omega arith) (omega arith)),
              )))
              (λ on. on);
        }
