-- The run under a rule of waiting is a run in the sense of the theorem about waiting, whatever is due in each slot. Assumes nothing.
use Prim.Native.Nat.{ℕ, zero, suc, ◌≤◌, ◌<◌}
use mathlib.Core.Path.{◌≡◌, refl, sym, ◌∙◌, ap}
use mathlib.Core.Bool.{false}
use native.Mathlib.Omega.{arith}
use native.Mathlib.Nat.{le_antisymm, le_of_eq}
use Rattle.trade.specs.Facts.{Facts}
use Rattle.trade.specs.Bound.{Measure}
use Rattle.trade.specs.Slot.{at_start, Releases, done_now, Waits, next_state_by, run_by}
use Rattle.trade.proofs.First.{or_false}
use Rattle.response.specs.Course.{after}
use Rattle.response.specs.Counting.{Apart}
use Rattle.response.specs.Waiting.{Steady, Running}
use Rattle.response.specs.Promise.{course_of, Covers, InOrder}
use Rattle.response.proofs.Steady.{after_within, done_after}
use Rattle.response.proofs.Granted.{granted_unfinished}

module _ (waits : Waits) (f : Facts) (releases : ℕ → Releases) where
  -- the run comes to slot t after t slots
  pub run_slot : (t : ℕ) → (run_by waits f releases t).slot ≡ t
  unfolding run_by at_start next_state_by
  run_slot zero = refl
  run_slot (suc t) = ap suc (run_slot t)

  -- a run starts with every flow idle
  pub run_start : (l : ℕ) → (run_by waits f releases 0).done l ≡ f.len l
  unfolding run_by at_start
  run_start l = refl

  -- what a slot leaves is what the next one finds
  pub run_done : (t l : ℕ) → (run_by waits f releases (suc t)).done l ≡ after (course_of waits f releases l) t
  unfolding run_by next_state_by after course_of
  run_done t l = refl

  pub run_steady : (l : ℕ) → Steady (course_of waits f releases l)
  unfolding course_of done_now
  run_steady l =
      record {
        idle = λ e. rw e (run_start l);
        anew = λ t e. rw e;
        steps = λ t e. rw e (run_done t l);
        within = λ t m. granted_unfinished waits f (releases t) (run_by waits f releases t) l m;
      }

  -- where a measure covers the rule, a flow waits only behind a flow above it
  pub run_running :
      (μ : Measure) (covers : Covers waits f μ)
      → ((l : ℕ) → l < f.flows → Apart (λ t. (releases t).due l) (f.period l))
      → Running f.flows (course_of waits f releases) f.period covers.marks
  unfolding course_of
  run_running μ covers apart =
      record {
        steady = λ l l<. run_steady l;
        apart = apart;
        waits =
            λ l t l< left m.
            let (h, h<, mh, marked) = covers.blocked (releases t) (run_by waits f releases t) l l< left m in
            let busy = granted_unfinished waits f (releases t) (run_by waits f releases t) h mh in
            (h, h<, record { goes = mh; unfinished = busy; marked = marked });
      }

  -- the steps done never pass the plan
  pub run_within : (t l : ℕ) → (run_by waits f releases t).done l ≤ f.len l
  unfolding course_of
  run_within zero l = le_of_eq (run_start l)
  run_within (suc t) l = rw (run_done t l) (after_within (course_of waits f releases l) (run_steady l) t)

  -- a flow is idle until it begins
  pub run_idle : (l : ℕ) → InOrder releases l → (t : ℕ) → (releases t).begun l ≡ false → (run_by waits f releases t).done l ≡ f.len l
  unfolding course_of done_now
  run_idle l order zero e = run_start l
  run_idle l order (suc t) e =
      let (early, quiet) = or_false ((releases t).begun l) ((releases t).due l) (sym (order.begins t) ∙ e) in
      let idle : (course_of waits f releases l).done t ≡ f.len l = rw quiet (run_idle l order t early) in
      le_antisymm (run_within (suc t) l) (rw (run_done t l) (omega (arith, done_after (course_of waits f releases l) (run_steady l) t)))
