-- The theorem about waiting: by induction on time, for all flows at once, each instance is finished within its bound. Assumes
-- nothing.
use Prim.Native.Nat.{ℕ, zero, suc, ◌+◌, ◌-◌, ◌*◌, ◌≤◌, ◌<◌}
use mathlib.Core.Path.{◌≡◌, sym, subst}
use mathlib.Core.Bool.{true}
use native.Mathlib.Omega.{arith}
use native.Mathlib.Nat.{mul-le-mul_right, le_trans, le_of_eq, le_antisymm}
use Rattle.trade.specs.First.{sum_to}
use Rattle.trade.specs.Interference.{Matrix}
use Rattle.trade.specs.Bound.{instances, Measure}
use Rattle.response.specs.Course.{Course, waiting, acting, after}
use Rattle.response.specs.Window.{Potential, Window}
use Rattle.response.specs.Counting.{Carried}
use Rattle.response.specs.Waiting.{Steady, Running, Bounded, InTime, NeverMet}
use Rattle.response.proofs.Cases.{by_test, by_order}
use Rattle.trade.proofs.Sums.{sum_mono}
use Rattle.response.proofs.Often.{goes_or_waits}
use Rattle.response.proofs.Window.{window_lemma}
use Rattle.response.proofs.Counting.{counting_lemma}
use Rattle.response.proofs.Steady.{Quiet, Latest, after_within, done_after, after_counts, done_grows, after_grows, after_stays, latest}

-- a bound is at least one slot, and so is a period
pub bound_positive :
    {m : ℕ} {len period : ℕ → ℕ} {μ : Measure} {R : ℕ → ℕ}
    → Bounded m len period μ R
    → (l : ℕ)
    → l < m
    → 1 ≤ R l
bound_positive bounds l l< = omega (arith, bounds.plan l l<, bounds.enough l l<)

pub period_positive :
    {m : ℕ} {len period : ℕ → ℕ} {μ : Measure} {R : ℕ → ℕ}
    → Bounded m len period μ R
    → (l : ℕ)
    → l < m
    → 1 ≤ period l
period_positive bounds l l< = omega (arith, bound_positive bounds l l<, bounds.ends l l<)

module _
    (m : ℕ)
    (flow : ℕ → Course)
    (period : ℕ → ℕ)
    (marks : ℕ → ℕ → Matrix)
    (run : Running m flow period marks)
    (μ : Measure)
    (R : ℕ → ℕ)
    (bounds : Bounded m (λ l. (flow l).len) period μ R)
  where
    module _
        (F : ℕ → ℕ → ℕ → ℕ → ℕ)
        (potential : (l h : ℕ) → l < m → h < l → Potential (marks l h) (flow l).len (flow h).len (μ.cost l h) (F l h))
      where
        -- the bound of an instance ends before the next release of its flow
        bound_quiet : (l r t : ℕ) → l < m → (flow l).released r ≡ true → suc t ≡ r + R l → Quiet (flow l) r t
        bound_quiet l r t l< e t≡ u r< u≤ =
            by_test ((flow l).released u) (λ e'. absurd (omega (arith, run.apart l l< r u e e' r<, bounds.ends l l<))) (λ e'. e')

        -- each instance whose bound ends before slot T is finished by then
        InTimeTo : ℕ → Type 0
        InTimeTo T =
            (l r : ℕ) → l < m → (flow l).released r ≡ true → (t : ℕ) → suc t ≡ r + R l → t < T → after (flow l) t ≡ (flow l).len

        -- then an instance that is unfinished in slot r ≤ T was released within the carry-in
        carried_in : (T : ℕ) → InTimeTo T → (h r : ℕ) → h < m → r ≤ T → Carried (flow h) (μ.carry h) r
        unfolding InTimeTo
        carried_in T in_time h r h< r≤ left =
            let q : Latest (flow h) r = latest (flow h) (run.steady h h<) r left in
            by_order (q.slot + μ.carry h) r
            (λ old.
            let positive : 1 ≤ R h = bound_positive bounds h h< in
            let bounded : R h ≤ μ.carry h = bounds.carried h h< in
            let end : ℕ = q.slot + R h - 1 in
            let finished : after (flow h) end ≡ (flow h).len = in_time h q.slot h< q.at end (omega arith) (omega arith) in
            absurd
            (omega (arith, finished, after_grows (flow h) (run.steady h h<) end r (omega arith) (λ u u>. q.quiet u (omega arith)))))
            (λ new. record { slot = q.slot; at = q.at; past = q.past; recent = new })

        -- the window of an instance of l that is unfinished when its bound ends
        module _
            (T : ℕ)
            (in_time : InTimeTo T)
            (l r : ℕ)
            (l< : l < m)
            (e : (flow l).released r ≡ true)
            (T≡ : suc T ≡ r + R l)
            (late : after (flow l) T < (flow l).len)
          where
            quiet : Quiet (flow l) r T
            quiet = bound_quiet l r T l< e T≡

            -- the flows above are all that keeps it waiting
            its_window : Window (flow l) l flow (marks l) r (R l)
            its_window =
                record {
                  unfinished = unfinished;
                  onward =
                      λ t r≤ t<.
                      done_grows (flow l) (run.steady l l<) t (suc t) (omega arith) (λ u u> u≤. quiet u (omega arith) (omega arith));
                  others_onward = λ h h< t r≤ t< e'. le_of_eq (sym ((run.steady h (omega arith)).steps t e'));
                  blocked = λ t r≤ t< waits. run.waits l t l< (unfinished t r≤ t<) waits;
                }
              where
                unfinished : (t : ℕ) → r ≤ t → t < r + R l → (flow l).done t < (flow l).len
                unfinished t r≤ t< =
                    omega (
                      arith,
                      done_after (flow l) (run.steady l l<) T,
                      done_grows (flow l) (run.steady l l<) t T (omega arith) (λ u u> u≤. quiet u (omega arith) u≤),
                    )

            -- it waits no longer than they may act
            its_waiting : waiting (flow l) r (R l) ≤ sum_to (λ h. instances (R l) (μ.carry h) (period h) * μ.cost l h) l
            its_waiting =
                le_trans
                (window_lemma (flow l) l flow (marks l) r (R l) its_window (μ.cost l) (F l) (λ h h<. potential l h l< h<))
                (sum_mono (λ h. acting (flow h) r (R l) * μ.cost l h) (λ h. instances (R l) (μ.carry h) (period h) * μ.cost l h) l
                (λ h h<. mul-le-mul_right (μ.cost l h)
                (counting_lemma (flow h) (period h) (μ.carry h) r (R l) (period_positive bounds h (omega arith)) (bound_positive bounds l l<)
                (run.apart h (omega arith)) (carried_in T in_time h r (omega arith) (omega (arith, bound_positive bounds l l<))))))

            -- so the slots that are left to it hold its plan
            never_late : ⊥
            never_late =
                let e₁ : r + (R l - 1) ≡ T = omega (arith, bound_positive bounds l l<) in
                let e₂ : suc (R l - 1) ≡ R l = omega (arith, bound_positive bounds l l<) in
                omega (
                  arith,
                  its_waiting,
                  bounds.enough l l<,
                  goes_or_waits (flow l) r (R l),
                  (run.steady l l<).anew r e,
                  rw (e₁, e₂) at (after_counts (flow l) (run.steady l l<) r (R l - 1) (rw e₁ quiet)),
                )

        -- the induction on time, for all flows at once
        in_time_to : (T : ℕ) → InTimeTo T
        unfolding InTimeTo
        in_time_to zero l r l< e t t≡ t< = absurd (omega arith)
        in_time_to (suc T) l r l< e t t≡ t< =
            by_order (suc t) T (in_time_to T l r l< e t t≡)
            (λ last.
            by_order (flow l).len (after (flow l) t)
            (λ all. le_antisymm (after_within (flow l) (run.steady l l<) t) all)
            (λ late. let is : T ≡ t = omega arith in absurd (never_late t (subst InTimeTo is (in_time_to T)) l r l< e t≡ late)))

        -- THE THEOREM ABOUT WAITING: each instance is finished when its bound ends
        pub finished_in_time : InTime m flow R
        unfolding InTimeTo
        finished_in_time l r l< e t t≡ = in_time_to (suc t) l r l< e t t≡ (omega arith)

    -- where each instance is finished in time, no release meets an unfinished one
    module _ (in_time : InTime m flow R) where
      pub never_met : NeverMet m flow
      never_met l t l< e =
          by_order (flow l).len (after (flow l) t) (le_antisymm (after_within (flow l) (run.steady l l<) t))
          (λ late.
          let steady : Steady (flow l) = run.steady l l< in
          let q : Latest (flow l) t = latest (flow l) steady t (omega (arith, done_after (flow l) steady t)) in
          let end : ℕ = q.slot + R l - 1 in
          let end≡ : suc end ≡ q.slot + R l = omega (arith, bound_positive bounds l l<) in
          let end≤ : end ≤ t = omega (arith, run.apart l l< q.slot (suc t) q.at e (omega arith), bounds.ends l l<) in
          absurd
          (omega (
            arith,
            in_time l q.slot l< q.at end end≡,
            after_stays (flow l) steady end t end≤ (λ u u>. q.quiet u (omega (arith, bound_positive bounds l l<))),
          )))
