-- What bounds promise of a run under a rule of waiting: no release meets an unfinished instance, and each instance is granted its steps
-- within its bound. Assumes nothing.
use Prim.Native.Nat.{ℕ, zero, suc, ◌+◌, ◌-◌, ◌≤◌, ◌<◌}
use mathlib.Core.Path.{◌≡◌, sym, ◌∙◌}
use mathlib.Core.Bool.{true, false}
use native.Mathlib.Omega.{arith}
use Rattle.trade.specs.Facts.{Facts}
use Rattle.trade.specs.Bound.{Measure, slots_needed, Admissible}
use Rattle.trade.specs.Slot.{Releases, Waits, run_by}
use Rattle.response.specs.Course.{Course}
use Rattle.response.specs.Counting.{Apart}
use Rattle.response.specs.Waiting.{Bounded, InTime, NeverMet}
use Rattle.response.specs.Promise.{course_of, Covers, InOrder, RunKept}
use Rattle.response.proofs.Cases.{by_test}
use Rattle.response.proofs.Steady.{after_counts}
use Rattle.response.proofs.Waiting.{bound_positive, finished_in_time, never_met}
use Rattle.response.proofs.Kept.{steps_kept}
use Rattle.response.proofs.Run.{run_done, run_start, run_steady, run_running}

-- admissible figures within the carry-in and the periods are bounds
pub admissible_bounded :
    (f : Facts) (μ : Measure) (R : ℕ → ℕ)
    → ((l : ℕ) → l < f.flows → 1 ≤ f.len l)
    → ((l : ℕ) → l < f.flows → f.deadline l ≤ f.period l)
    → ((l : ℕ) → l < f.flows → R l ≤ μ.carry l)
    → ((l : ℕ) → l < f.flows → Admissible f μ l (R l))
    → Bounded f.flows f.len f.period μ R
unfolding slots_needed
admissible_bounded f μ R plan period carried admissible =
    record {
      plan = plan;
      carried = carried;
      ends = λ l l<. omega (arith, (admissible l l<).deadline, period l l<);
      enough = λ l l<. (admissible l l<).enough;
    }

-- what bounds promise, by a measure that covers the rule of waiting, where releases are a period apart
module _
    (waits : Waits)
    (f : Facts)
    (releases : ℕ → Releases)
    (μ : Measure)
    (covers : Covers waits f μ)
    (apart : (l : ℕ) → l < f.flows → Apart (λ t. (releases t).due l) (f.period l))
    (R : ℕ → ℕ)
    (bounds : Bounded f.flows f.len f.period μ R)
  where
    -- the run meets the theorem about waiting
    run_in_time : InTime f.flows (course_of waits f releases) R
    unfolding course_of
    run_in_time =
        finished_in_time f.flows (course_of waits f releases) f.period covers.marks (run_running waits f releases μ covers apart) μ R
        bounds covers.potential covers.pays

    run_never_met : NeverMet f.flows (course_of waits f releases)
    unfolding course_of
    run_never_met =
        never_met f.flows (course_of waits f releases) f.period covers.marks (run_running waits f releases μ covers apart) μ R bounds
        run_in_time

    -- no release meets an unfinished instance
    pub never_overrun : (t l : ℕ) → l < f.flows → (releases t).due l ≡ true → (run_by waits f releases t).done l ≡ f.len l
    unfolding course_of
    never_overrun zero l l< e = run_start waits f releases l
    never_overrun (suc t) l l< e = run_done waits f releases t l ∙ run_never_met l t l< e

    -- each instance is finished R slots after its release
    pub finished : (l r : ℕ) → l < f.flows → (releases r).due l ≡ true → (run_by waits f releases (r + R l)).done l ≡ f.len l
    unfolding course_of
    finished l r l< due =
        let e : suc (r + R l - 1) ≡ r + R l = omega (arith, bound_positive bounds l l<) in
        rw (sym e) (run_done waits f releases (r + R l - 1) l ∙ run_in_time l r l< due (r + R l - 1) e)

    -- and each of its steps is granted within these slots
    pub kept : (l r : ℕ) → l < f.flows → InOrder releases l → (releases r).due l ≡ true → RunKept waits f releases l r (R l)
    unfolding course_of
    kept l r l< order due =
        let c : Course = course_of waits f releases l in
        let last : suc (R l - 1) ≡ R l = omega (arith, bound_positive bounds l l<) in
        let quiet : (u : ℕ) → r < u → u < r + R l → (releases u).due l ≡ false
        = λ u u> u<.
        by_test ((releases u).due l) (λ e. absurd (omega (arith, apart l l< r u due e u>, bounds.ends l l<))) (λ e. e) in
        steps_kept waits f releases l order r (R l) due quiet
        (omega (
          arith,
          (run_steady waits f releases l).anew r due,
          run_in_time l r l< due (r + (R l - 1)) (omega arith),
          rw last at (after_counts c (run_steady waits f releases l) r (R l - 1) (λ u u> u≤. quiet u u> (omega arith))),
        ))
