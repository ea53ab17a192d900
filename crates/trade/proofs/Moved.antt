-- The flows that stay in an exchange keep their plans, before it and behind it, and so their interference. Leans on Exchange and
-- Interference. Assumes nothing.
use Prim.Native.Nat.{ℕ, suc, ◌+◌, ◌-◌, ◌*◌, ◌≤◌, ◌<◌}
use mathlib.Core.Path.{◌≡◌, refl, sym, ◌∙◌, ap, ap₂}
use native.Mathlib.Omega.{arith}
use lib.ListN.{length}
use Rattle.trade.specs.Limits.{step_bytes}
use Rattle.trade.specs.First.{sum_to}
use Rattle.trade.specs.Bytes.{byte}
use Rattle.trade.specs.Layout.{Sections, field}
use Rattle.trade.specs.Facts.{Facts, step_in, facts_of, first_step, all_steps, step_of}
use Rattle.trade.specs.Interference.{matrix, worst_path, interference}
use Rattle.trade.specs.Exchange.{Exchange, recut}
use Rattle.trade.specs.declared.node.Transmission.{Transmission}
use Rattle.trade.proofs.Sums.{sum_cong, sum_next, sum_split, sum_rest, sum_le}
use Rattle.trade.proofs.Interference.{paths_agree}
use Rattle.trade.proofs.Used.{Full}
use Rattle.trade.proofs.Exchange.{Fits, before_cut, behind_cut, field_before, field_come, field_behind}

-- the plan of a flow is that of another
pub record SamePlan (f g : Facts) (i k : ℕ) : Type 0 where
  pub len : f.len i ≡ g.len k
  pub steps : (j : ℕ) → j < f.len i → step_of f i j ≡ step_of g k j

-- two flows with the plans of two others, where the same nodes disturb each other, interfere as they do
pub interference_moved :
    (f g : Facts)
    → f.disturbs ≡ g.disturbs
    → (l h l' h' : ℕ)
    → SamePlan f g l l'
    → SamePlan f g h h'
    → interference f l h ≡ interference g l' h'
unfolding interference matrix
interference_moved f g e l h l' h' p q =
    paths_agree (matrix f l h) (matrix g l' h') (f.len l) (f.len h)
    (λ i j u v. rw (p.steps i u, q.steps j v, e) refl)
    ∙ ap₂ (worst_path (matrix g l' h')) p.len q.len

module _ (s : Sections) (x : Exchange) (full : Full s) (fits : Fits s x) where
  abbrev old : Facts
  old = facts_of s

  abbrev new : Facts
  new = facts_of (recut s x)

  -- the nodes disturb each other as before
  pub same_disturbs : new.disturbs ≡ old.disturbs
  unfolding facts_of recut
  same_disturbs = refl

  all_steps_lem : all_steps old ≡ first_step old x.to + sum_to (λ j. old.len (x.to + j)) (s.flows - x.to)
  unfolding all_steps first_step facts_of
  all_steps_lem = sum_rest (λ i. field s.records i 4) x.to s.flows fits.within

  first_in : first_step old x.from ≤ first_step old x.to
  unfolding first_step
  first_in = sum_le old.len x.from x.to fits.order

  room : step_bytes * first_step old x.from ≤ length s.steps
  room = omega (arith, full.steps, all_steps_lem, first_in)

  -- BEFORE the place
  len_before : (i : ℕ) → i < x.from → new.len i ≡ old.len i
  unfolding facts_of
  len_before i h = field_before s x full fits i h 4 (omega arith)

  first_before : (i : ℕ) → i ≤ x.from → first_step new i ≡ first_step old i
  unfolding first_step
  first_before i h = sum_cong _ _ i (λ j l. len_before j (omega arith))

  step_before : (k : ℕ) → k < first_step old x.from → new.step k ≡ old.step k
  unfolding facts_of step_in recut
  step_before k h =
      rw (
        before_cut (step_bytes * first_step old x.from) (step_bytes * first_step old x.to) x.steps s.steps room (step_bytes * k) (omega arith),
        before_cut (step_bytes * first_step old x.from) (step_bytes * first_step old x.to) x.steps s.steps room (step_bytes * k + 1) (omega arith),
      )
      refl

  pub plan_before : (i : ℕ) → i < x.from → SamePlan new old i i
  unfolding step_of first_step
  plan_before i h =
      record {
        len = len_before i h;
        steps =
            λ j l.
            ap (λ (k : ℕ). new.step (k + j)) (first_before i (omega arith))
            ∙ step_before (first_step old i + j)
            (omega (arith, len_before i h, sum_next old.len i, sum_le old.len (suc i) x.from h));
      }

  -- BEHIND it, where as many steps come as the plans that come have
  abbrev came : ℕ
  came = sum_to (λ j. field x.records j 4) x.come

  module _ (exact : length x.steps ≡ step_bytes * came) where
    len_behind : (j : ℕ) → new.len (x.from + x.come + j) ≡ old.len (x.to + j)
    unfolding facts_of
    len_behind j = field_behind s x full fits j 4 (omega arith)

    len_come : (i : ℕ) → i < x.come → new.len (x.from + i) ≡ field x.records i 4
    unfolding facts_of
    len_come i l = field_come s x full fits i l 4 (omega arith)

    first_behind : (j : ℕ) → first_step new (x.from + x.come + j) ≡ first_step old x.from + came + sum_to (λ k. old.len (x.to + k)) j
    unfolding first_step
    first_behind j =
        sum_split new.len (x.from + x.come) j
        ∙ ap₂ ◌+◌
        (sum_split new.len x.from x.come
        ∙ ap₂ ◌+◌ (sum_cong _ _ x.from (λ i l. len_before i l)) (sum_cong _ _ x.come (λ i l. len_come i l)))
        (sum_cong _ _ j (λ k l. len_behind k))

    first_old : (j : ℕ) → first_step old (x.to + j) ≡ first_step old x.to + sum_to (λ k. old.len (x.to + k)) j
    unfolding first_step
    first_old j = sum_split old.len x.to j

    byte_moved : (d : ℕ) → byte (recut s x).steps (step_bytes * (first_step old x.from + came) + d) ≡ byte s.steps (step_bytes * first_step old x.to + d)
    unfolding recut
    byte_moved d =
        let e : step_bytes * (first_step old x.from + came) + d ≡ step_bytes * first_step old x.from + length x.steps + d = omega (arith, exact) in
        ap (byte (recut s x).steps) e
        ∙ behind_cut (step_bytes * first_step old x.from) (step_bytes * first_step old x.to) x.steps s.steps room d

    step_behind : (k : ℕ) → new.step (first_step old x.from + came + k) ≡ old.step (first_step old x.to + k)
    unfolding facts_of step_in
    step_behind k =
        let a : step_bytes * (first_step old x.from + came + k) ≡ step_bytes * (first_step old x.from + came) + step_bytes * k = omega arith in
        let b : step_bytes * (first_step old x.to + k) ≡ step_bytes * first_step old x.to + step_bytes * k = omega arith in
        let a' : step_bytes * (first_step old x.from + came + k) + 1 ≡ step_bytes * (first_step old x.from + came) + (step_bytes * k + 1) = omega arith in
        let b' : step_bytes * (first_step old x.to + k) + 1 ≡ step_bytes * first_step old x.to + (step_bytes * k + 1) = omega arith in
        ap₂ sent (ap (byte (recut s x).steps) a ∙ byte_moved (step_bytes * k) ∙ ap (byte s.steps) (sym b))
        (ap (byte (recut s x).steps) a' ∙ byte_moved (step_bytes * k + 1) ∙ ap (byte s.steps) (sym b'))
      where
        sent : ℕ → ℕ → Transmission
        sent a b = record { sender = record { 0 = a }; receiver = record { 0 = b } }

    pub plan_behind : (j : ℕ) → SamePlan new old (x.from + x.come + j) (x.to + j)
    unfolding step_of
    plan_behind j =
        record {
          len = len_behind j;
          steps =
              λ i l.
              let a : first_step new (x.from + x.come + j) + i ≡ first_step old x.from + came + (sum_to (λ k. old.len (x.to + k)) j + i) = omega (arith, first_behind j) in
              let b : first_step old x.to + (sum_to (λ k. old.len (x.to + k)) j + i) ≡ first_step old (x.to + j) + i = omega (arith, first_old j) in
              ap new.step a ∙ step_behind (sum_to (λ k. old.len (x.to + k)) j + i) ∙ ap old.step b;
        }
