-- Laws of a steady course: the steps done never pass the plan, and between releases they are counted by the slots in which the
-- flow goes. Assumes nothing.
use Prim.Native.Nat.{ℕ, zero, suc, ◌+◌, ◌-◌, ◌≤◌, ◌<◌}
use mathlib.Core.Path.{◌≡◌, sym}
use mathlib.Core.Bool.{true, false}
use native.Mathlib.Omega.{arith}
use native.Mathlib.Nat.{add-zero, add-suc, add-sub_of_le}
use Rattle.trade.specs.Interference.{one}
use Rattle.response.specs.Course.{Course, often, after}
use Rattle.response.specs.Waiting.{Steady}
use Rattle.response.proofs.Cases.{by_test, by_order}
use Rattle.response.proofs.One.{one_holds, one_fails}
use Rattle.response.proofs.Often.{often_none, often_suc}

-- no release after slot q, up to slot t
abbrev pub Quiet : Course → ℕ → ℕ → Type 0
Quiet c q t = (u : ℕ) → q < u → u ≤ t → c.released u ≡ false

-- the latest release up to slot t
pub record Latest (c : Course) (t : ℕ) : Type 0 where
  pub slot : ℕ
  pub at : c.released slot ≡ true
  pub past : slot ≤ t
  pub quiet : Quiet c slot t

-- a slot among the n from r on in which the flow goes with its step k
pub record Step (c : Course) (r n k : ℕ) : Type 0 where
  pub slot : ℕ
  pub from : r ≤ slot
  pub before : slot < r + n
  pub goes : c.goes slot ≡ true
  pub step : c.done slot ≡ k

module _ (c : Course) (s : Steady c) where
  -- the steps done are at most the plan, before a slot and after it
  goes_within : (t : ℕ) → c.done t ≤ c.len → after c t ≤ c.len
  unfolding after
  goes_within t h =
      by_test (c.goes t) (λ e. omega (arith, one_holds e, s.within t e)) (λ e. omega (arith, one_fails e))

  pub done_within : (t : ℕ) → c.done t ≤ c.len
  done_within zero =
      by_test (c.released 0) (λ e. omega (arith, s.anew 0 e)) (λ e. omega (arith, s.idle e))
  done_within (suc t) =
      by_test (c.released (suc t)) (λ e. omega (arith, s.anew (suc t) e))
      (λ e. omega (arith, s.steps t e, goes_within t (done_within t)))

  pub after_within : (t : ℕ) → after c t ≤ c.len
  after_within t = goes_within t (done_within t)

  pub done_after : (t : ℕ) → c.done t ≤ after c t
  unfolding after
  done_after t = omega arith

  -- between releases, the steps done are those of the slots in which the flow went
  pub done_counts : (r k : ℕ) → Quiet c r (r + k) → c.done (r + k) ≡ c.done r + often c.goes r k
  unfolding after
  done_counts r zero quiet = rw (add-zero r, often_none) (omega arith)
  done_counts r (suc k) quiet =
      rw (add-suc r k, often_suc)
      (omega (
        arith,
        s.steps (r + k) (quiet (suc (r + k)) (omega arith) (omega arith)),
        done_counts r k (λ u r< u≤. quiet u r< (omega arith)),
      ))

  pub after_counts : (r k : ℕ) → Quiet c r (r + k) → after c (r + k) ≡ c.done r + often c.goes r (suc k)
  unfolding after
  after_counts r k quiet = rw often_suc (omega (arith, done_counts r k quiet))

  -- so they never fall
  pub done_grows : (r t : ℕ) → r ≤ t → Quiet c r t → c.done r ≤ c.done t
  done_grows r t r≤ quiet =
      let e : r + (t - r) ≡ t = add-sub_of_le r≤ in
      rw (sym e) (omega (arith, done_counts r (t - r) (rw e quiet)))

  pub after_grows : (r t : ℕ) → r < t → Quiet c r t → after c r ≤ c.done t
  after_grows r t r< quiet =
      omega (arith, s.steps r (quiet (suc r) (omega arith) r<), done_grows (suc r) t r< (λ u p. quiet u (omega arith)))

  pub after_stays : (r t : ℕ) → r ≤ t → Quiet c r t → after c r ≤ after c t
  after_stays r t r≤ quiet =
      by_order t r (λ t≤. let e : r ≡ t = omega arith in rw e (omega arith))
      (λ r<. omega (arith, after_grows r t r< quiet, done_after t))

  -- an unfinished flow has been released
  pub latest : (t : ℕ) → c.done t < c.len → Latest c t
  latest zero left =
      by_test (c.released 0)
      (λ e. record { slot = 0; at = e; past = omega arith; quiet = λ u u> u≤. absurd (omega arith) })
      (λ e. absurd (omega (arith, s.idle e)))
  latest (suc t) left =
      by_test (c.released (suc t))
      (λ e. record { slot = suc t; at = e; past = omega arith; quiet = λ u u> u≤. absurd (omega arith) })
      (λ e.
      let q : Latest c t = latest t (omega (arith, s.steps t e, done_after t)) in
      record {
        slot = q.slot;
        at = q.at;
        past = omega arith;
        quiet = λ u u> u≤. by_order u t (q.quiet u u>) (λ t<. let is : u ≡ suc t = omega arith in rw is e);
      })

  -- each step that is done went in a slot of its own
  pub find_step :
      (r : ℕ)
      → c.done r ≡ 0
      → (n : ℕ)
      → ((u : ℕ) → r < u → u < r + n → c.released u ≡ false)
      → (k : ℕ)
      → k < often c.goes r n
      → Step c r n k
  find_step r anew zero quiet k k< = absurd (omega (arith, often_none c.goes r))
  find_step r anew (suc n) quiet k k< =
      let more : often c.goes r (suc n) ≡ often c.goes r n + one (c.goes (r + n)) = often_suc c.goes r n in
      by_order (suc k) (often c.goes r n)
      (λ earlier.
      let found : Step c r n k = find_step r anew n (λ u u> u<. quiet u u> (omega arith)) k earlier in
      record { slot = found.slot; from = found.from; before = omega arith; goes = found.goes; step = found.step })
      (λ last.
      by_test (c.goes (r + n))
      (λ e.
      record {
        slot = r + n;
        from = omega arith;
        before = omega arith;
        goes = e;
        step = omega (arith, one_holds e, done_counts r n (λ u u> u≤. quiet u u> (omega arith)));
      })
      (λ e. absurd (omega (arith, one_fails e))))
