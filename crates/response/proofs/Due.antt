-- What is granted without any bound: no step of an instance twice, and nothing that is not due. Assumes nothing.
use Prim.Native.Nat.{ℕ, suc, ◌+◌, ◌-◌, ◌≤◌, ◌<◌}
use mathlib.Core.Path.{◌≡◌, sym, ◌∙◌}
use mathlib.Core.Bool.{true, false}
use native.Mathlib.Omega.{arith}
use native.Mathlib.Nat.{add-sub_of_le}
use Rattle.trade.specs.Facts.{Facts}
use Rattle.trade.specs.Slot.{Releases, done_now, Waits, granted_by, among, run_by}
use Rattle.response.specs.Course.{Course, often, after}
use Rattle.response.specs.Waiting.{Steady}
use Rattle.response.specs.Promise.{course_of, InOrder, RunGranted, RunDue}
use Rattle.response.proofs.Cases.{by_order}
use Rattle.response.proofs.One.{one_holds}
use Rattle.response.proofs.Steady.{Quiet, Latest, Step, done_counts, after_grows, latest, find_step}
use Rattle.response.proofs.InOrder.{released_begun, number_stays, same_number_quiet}
use Rattle.response.proofs.Run.{run_steady}

module _ (waits : Waits) (f : Facts) (releases : ℕ → Releases) (l : ℕ) (order : InOrder releases l) where
  abbrev course : Course
  course = course_of waits f releases l

  abbrev steady : Steady course
  steady = run_steady waits f releases l

  -- a granted flow has been released
  granted_latest : (t : ℕ) → course.goes t ≡ true → Latest course t
  granted_latest t m = latest course steady t (steady.within t m)

  -- a step that is granted is not granted again later
  granted_never_again : (v k t u : ℕ) → t < u → RunGranted waits f releases l v k t → RunGranted waits f releases l v k u → ⊥
  unfolding course_of after
  granted_never_again v k t u t< gt gu =
      let q : Latest course t = granted_latest t gt.goes in
      let begun : (releases (suc t)).begun l ≡ true = released_begun releases l order q.slot (suc t) (omega (arith, q.past)) q.at in
      omega (
        arith,
        one_holds gt.goes,
        gt.step,
        gu.step,
        after_grows course steady t u t< (same_number_quiet releases l order t u begun (gt.instance ∙ sym gu.instance)),
      )

  -- no step of an instance is granted in two slots
  pub granted_in_one_slot : (v k t u : ℕ) → RunGranted waits f releases l v k t → RunGranted waits f releases l v k u → t ≡ u
  granted_in_one_slot v k t u gt gu =
      by_order t u
      (λ t≤. by_order u t (λ u≤. omega arith) (λ before. absurd (granted_never_again v k t u before gt gu)))
      (λ behind. absurd (granted_never_again v k u t behind gu gt))

  -- the steps that an instance has done in n slots from its release on were granted in slots of its own
  pub instance_steps :
      (r n : ℕ)
      → (releases r).due l ≡ true
      → ((u : ℕ) → r < u → u < r + n → (releases u).due l ≡ false)
      → (k : ℕ)
      → k < often (course_of waits f releases l).goes r n
      → (u : ℕ) × (r ≤ u) × (u < r + n) × RunGranted waits f releases l ((releases r).instance l) k u
  unfolding course_of
  instance_steps r n due quiet k k< =
      let s : Step course r n k = find_step course steady r (steady.anew r due) n quiet k k< in
      let now : r + (s.slot - r) ≡ s.slot = add-sub_of_le s.from in
      let number : (releases s.slot).instance l ≡ (releases r).instance l
      = rw now at (number_stays releases l order r (s.slot - r) (λ u u> u≤. quiet u u> (omega (arith, s.before)))) in
      (s.slot, s.from, s.before, record { goes = s.goes; step = s.step; instance = number })

  -- each grant is due
  pub granted_due : (t : ℕ) → among (granted_by waits f (releases t) (run_by waits f releases t)) l ≡ true → RunDue waits f releases l t
  unfolding course_of
  granted_due t m =
      let q : Latest course t = granted_latest t m in
      let r : ℕ = q.slot in
      let now : r + (t - r) ≡ t = add-sub_of_le q.past in
      let quiet : Quiet course r (r + (t - r)) = rw now q.quiet in
      let counts : done_now (releases t) (run_by waits f releases t) l ≡ course.done r + often course.goes r (t - r)
      = rw now at (done_counts course steady r (t - r) quiet) in
      let anew : course.done r ≡ 0 = steady.anew r q.at in
      let number : (releases t).instance l ≡ (releases r).instance l = rw now at (number_stays releases l order r (t - r) quiet) in
      record {
        release = r;
        released = q.at;
        past = q.past;
        next =
            λ k k<.
            let (u, from, before, g)
            = instance_steps r (t - r) q.at (λ x x> x<. q.quiet x x> (omega arith)) k (omega arith) in
            (u, from, omega arith, rw number g);
      }
