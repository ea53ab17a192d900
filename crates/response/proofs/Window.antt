-- The window lemma: a flow waits at most as often as the potentials of the others pay for. It knows nothing of periods, tables or
-- priorities. Assumes nothing.
use Prim.Native.Nat.{ℕ, zero, suc, ◌+◌, ◌*◌, ◌≤◌, ◌<◌}
use mathlib.Core.Path.{◌≡◌, ap}
use mathlib.Core.Bool.{Bool, true, false, not, ◌&&◌}
use native.Mathlib.Omega.{arith}
use native.Mathlib.Numerals.{add-one}
use native.Mathlib.Nat.{add-zero, add-suc, add-mul, one-mul, le_trans}
use lib.Dec.{ltb}
use borrow.Author.Tests.{ltb-true, ltb-false, lt-ltb}
use Rattle.trade.specs.First.{sum_to}
use Rattle.trade.specs.Interference.{Matrix, one}
use Rattle.response.specs.Course.{Course, often, waiting, acting, after}
use Rattle.response.specs.Window.{Potential, Blocks, Window}
use Rattle.trade.proofs.First.{and_true}
use Rattle.trade.proofs.Sums.{sum_mono}
use Rattle.response.proofs.Cases.{by_test, by_order, never_rises}
use Rattle.response.proofs.One.{one_holds, one_fails}
use Rattle.response.proofs.SumTo.{sum_add, sum_member}
use Rattle.response.proofs.Often.{often_none, often_suc}
use Rattle.response.proofs.Acting.{acting_one, acting_suc}

-- slot t is charged to h: l does not go, h does, and their steps are marked
charged : Matrix → Course → Course → ℕ → Bool
charged marks l h t = not (l.goes t) && h.goes t && ltb (h.done t) h.len && marks (l.done t) (h.done t)

-- a slot in which h blocks l is charged to h
block_charged : (marks : Matrix) (l h : Course) (t : ℕ) → l.goes t ≡ false → Blocks marks l h t → charged marks l h t ≡ true
unfolding charged
block_charged marks l h t waits b = rw (waits, b.goes, lt-ltb (h.done t) h.len b.unfinished, b.marked)

-- a slot charged to h is one in which h blocks l
charged_blocks : (marks : Matrix) (l h : Course) (t : ℕ) → charged marks l h t ≡ true → Blocks marks l h t
unfolding charged
charged_blocks marks l h t e =
    let waits : Bool = not (l.goes t) in
    let goes : Bool = h.goes t in
    let left : Bool = ltb (h.done t) h.len in
    let marked : Bool = marks (l.done t) (h.done t) in
    let (e₁, is_marked) = and_true (waits && goes && left) marked e in
    let (e₂, is_left) = and_true (waits && goes) left e₁ in
    record {
      goes = (and_true waits goes e₂).1;
      unfinished = ltb-true (h.done t) h.len is_left;
      marked = is_marked;
    }

-- one other flow h, its potential, and the window
module _
    (marks : Matrix)
    (l h : Course)
    (top : ℕ)
    (F : ℕ → ℕ → ℕ)
    (p : Potential marks l.len h.len top F)
    (r w : ℕ)
    (unfinished : (t : ℕ) → r ≤ t → t < r + w → l.done t < l.len)
    (onward : (t : ℕ) → r ≤ t → suc t < r + w → l.done t ≤ l.done (suc t))
    (goes_on : (t : ℕ) → r ≤ t → suc t < r + w → h.released (suc t) ≡ false → after h t ≤ h.done (suc t))
  where
    -- the potential never rises as h goes on
    lower : (i j k : ℕ) → i < l.len → j ≤ k → F i k ≤ F i j
    lower i j k i< j≤k = never_rises (F i) step j k j≤k
      where
        step : (n : ℕ) → F i (suc n) ≤ F i n
        step n =
            by_order h.len n (λ over. omega (arith, p.ends i (suc n) (omega arith)))
            (λ n<. omega (arith, p.pays i n i< n<))

    -- what h does in a slot is paid for out of the potential
    paid :
        (t : ℕ)
        → l.done t < l.len
        → one (charged marks l h t) + F (l.done t) (after h t) ≤ F (l.done t) (h.done t)
    unfolding after
    paid t i< =
        by_test (charged marks l h t)
        (λ e.
        let b : Blocks marks l h t = charged_blocks marks l h t e in
        rw (one_holds e, one_holds b.goes, add-one)
        (omega (arith, one_holds b.marked, p.pays (l.done t) (h.done t) i< b.unfinished)))
        (λ e. omega (arith, one_fails e, lower (l.done t) (h.done t) (after h t) i< (omega arith)))

    -- from one slot to the next, only a release of h raises the potential, and by no more than its top
    slot_paid :
        (t : ℕ)
        → r ≤ t
        → suc t < r + w
        → one (charged marks l h t) + F (l.done (suc t)) (h.done (suc t))
        ≤ F (l.done t) (h.done t) + one (h.released (suc t)) * top
    slot_paid t r≤ t< =
        let i : ℕ = l.done t in
        let i' : ℕ = l.done (suc t) in
        let j' : ℕ = h.done (suc t) in
        let i< : i < l.len = unfinished t r≤ (omega arith) in
        let i'< : i' < l.len = unfinished (suc t) (omega arith) t< in
        let pay : one (charged marks l h t) + F i (after h t) ≤ F i (h.done t) = paid t i< in
        by_test (h.released (suc t))
        (λ e. rw (one_holds e, one-mul) (omega (arith, pay, p.starts i', lower i' 0 j' i'< (omega arith))))
        (λ e.
        let down : F i' j' ≤ F i j' = never_rises (λ n. F n j') (λ n. p.falls n j') i i' (onward t r≤ t<) in
        omega (arith, pay, down, lower i (after h t) j' i< (goes_on t r≤ t< e)))

    -- charges so far and the potential are at most the top for each instance so far
    charges :
        (k : ℕ) → k < w → often (charged marks l h) r k + F (l.done (r + k)) (h.done (r + k)) ≤ acting h r (suc k) * top
    charges zero k< =
        rw (often_none, acting_one, add-zero r)
        (by_test (ltb (h.done r) h.len)
        (λ e.
        rw (one_holds e, one-mul)
        (omega (arith, p.starts (l.done r), lower (l.done r) 0 (h.done r) (unfinished r (omega arith) (omega arith)) (omega arith))))
        (λ e. omega (arith, p.ends (l.done r) (h.done r) (ltb-false (h.done r) h.len e))))
    charges (suc k) k< =
        rw (often_suc, acting_suc, add-suc r k, add-mul)
        (omega (arith, charges k (omega arith), slot_paid (r + k) (omega arith) (omega arith)))

    -- so are the charges of the first n slots
    charges_all : (n : ℕ) → n ≤ w → often (charged marks l h) r n ≤ acting h r n * top
    charges_all zero n≤ = omega (arith, often_none (charged marks l h) r)
    charges_all (suc n) n≤ =
        rw often_suc (omega (arith, charges n n≤, paid (r + n) (unfinished (r + n) (omega arith) (omega arith))))

-- the flows that may keep l waiting, and the window
module _ (l : Course) (count : ℕ) (others : ℕ → Course) (marks : ℕ → Matrix) (r w : ℕ) (window : Window l count others marks r w) where
  -- a slot in which l waits is charged to one of the others
  wait_charged :
      (t : ℕ)
      → r ≤ t
      → t < r + w
      → one (not (l.goes t)) ≤ sum_to (λ h. one (charged (marks h) l (others h) t)) count
  wait_charged t r≤ t< =
      by_test (l.goes t) (λ e. omega (arith, one_fails (ap not e)))
      (λ e.
      let (h, h<, b) = window.blocked t r≤ t< e in
      omega (
        arith,
        one_holds (ap not e),
        one_holds (block_charged (marks h) l (others h) t e b),
        sum_member (λ k. one (charged (marks k) l (others k) t)) count h h<,
      ))

  -- so the slots in which l waits are at most the charges
  waits_charged : (n : ℕ) → n ≤ w → waiting l r n ≤ sum_to (λ h. often (charged (marks h) l (others h)) r n) count
  unfolding waiting often sum_to
  waits_charged zero n≤ = omega arith
  waits_charged (suc n) n≤ =
      rw (sum_add (λ h. often (charged (marks h) l (others h)) r n) (λ h. one (charged (marks h) l (others h) (r + n))) count)
      (omega (arith, waits_charged n (omega arith), wait_charged (r + n) (omega arith) (omega arith)))

  -- THE WINDOW LEMMA: the slots of a window in which l does not go are at most the sum, over the others, of the instances that act
  -- in the window, times the top of the potential
  pub window_lemma :
      (top : ℕ → ℕ) (F : ℕ → ℕ → ℕ → ℕ)
      → ((h : ℕ) → h < count → Potential (marks h) l.len (others h).len (top h) (F h))
      → waiting l r w ≤ sum_to (λ h. acting (others h) r w * top h) count
  window_lemma top F potential =
      le_trans (waits_charged w (omega arith))
      (sum_mono (λ h. often (charged (marks h) l (others h)) r w) (λ h. acting (others h) r w * top h) count
      (λ h h<.
      charges_all (marks h) l (others h) (top h) (F h) (potential h h<) r w window.unfinished window.onward
      (window.others_onward h h<) w (omega arith)))
