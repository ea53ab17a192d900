-- No step is bad if every node is there, and as many plans start anew as there are steps that do not follow on: each step counts once,
-- as a bad one or as the first of such a plan. Leans on BadStep. Assumes nothing.
use Prim.Native.Nat.{ℕ, zero, suc, ◌+◌, ◌-◌, ◌*◌, ◌/◌, ◌%◌, ◌≤◌, ◌<◌}
use mathlib.Core.Path.{◌≡◌, refl, sym, ◌∙◌, ap}
use mathlib.Core.Bool.{Bool, true, false, not, ◌&&◌, ◌||◌, or-false}
use mathlib.Core.List.{List}
use mathlib.Core.Logic.{⊎_elim}
use native.Mathlib.Nat.{add-zero}
use native.Mathlib.Numerals.{add-one}
use native.Mathlib.Omega.{arith}
use lib.Dec.{eqb}
use mir.Val.{bool_byte}
use borrow.Author.Tests.{eq-eqb, ne_eqb, eqb-true, lt-leb}
use Rattle.trade.specs.Limits.{step_bytes}
use Rattle.trade.specs.Bytes.{byte}
use Rattle.trade.specs.First.{sum_to}
use Rattle.trade.specs.Interference.{one}
use Rattle.trade.specs.Answers.{done}
use Rattle.trade.specs.Layout.{field}
use Rattle.trade.specs.Facts.{Facts, facts_of, facts_in, step_in, first_step, all_steps}
use Rattle.trade.specs.Codes.{repeats, bad_step, code8}
use Rattle.trade.specs.declared.node.Transmission.{Transmission}
use Rattle.trade.proofs.First.{bool_cases, not_both, and_true}
use Rattle.trade.proofs.Answers.{given_first_none}
use Rattle.trade.proofs.Sums.{sum_next, sum_le}
use Rattle.sections.specs.Steps.{misplaced, unjoined, own, off, fresh, starts_anew}
use Rattle.sections.proofs.StepsLaws.{by_tests, first_of_plan_lem}

-- a step repeats itself
pub unjoined_self : (t : Transmission) → unjoined t t ≡ false
unfolding unjoined repeats
unjoined_self t = rw (eq-eqb t.sender.0 t.sender.0 refl, eq-eqb t.receiver.0 t.receiver.0 refl) refl

-- the first step of all is off only by itself
pub off_alone : (steps : List ℕ) → off steps 0 ≡ own (step_in steps 0)
unfolding off
off_alone steps = rw (unjoined_self (step_in steps 0)) (or-false (own (step_in steps 0)))

-- a step between nodes that are there is bad by itself if it goes to its own sender
misplaced_own : (n : ℕ) (t : Transmission) → t.sender.0 < n → t.receiver.0 < n → misplaced n t ≡ own t
unfolding misplaced own
misplaced_own n t s r = rw (lt-leb n t.sender.0 s, lt-leb n t.receiver.0 r) refl

-- a test as a number
pub counted : (b : Bool) → (bool_byte b ≡ one b) × (bool_byte b ≤ 1)
unfolding one
counted true = (refl, omega arith)
counted false = (refl, omega arith)

-- two numbers of two bytes are equal if both bytes are
pub both_equal : (a b : ℕ) → eqb a b ≡ (eqb (a % 256) (b % 256) && eqb (a / 256) (b / 256))
both_equal a b = ⊎_elim same other (bool_cases (eqb (a % 256) (b % 256) && eqb (a / 256) (b / 256)))
  where
    same : (eqb (a % 256) (b % 256) && eqb (a / 256) (b / 256)) ≡ true → eqb a b ≡ (eqb (a % 256) (b % 256) && eqb (a / 256) (b / 256))
    same e =
        let p = and_true (eqb (a % 256) (b % 256)) (eqb (a / 256) (b / 256)) e in
        let l : a % 256 ≡ b % 256 = eqb-true (a % 256) (b % 256) p.0 in
        let h : a / 256 ≡ b / 256 = eqb-true (a / 256) (b / 256) p.1 in
        eq-eqb a b (omega arith) ∙ sym e

    other : (eqb (a % 256) (b % 256) && eqb (a / 256) (b / 256)) ≡ false → eqb a b ≡ (eqb (a % 256) (b % 256) && eqb (a / 256) (b / 256))
    other e =
        ne_eqb a b
        (λ (q : a ≡ b). not_both (rw (q, eq-eqb (b % 256) (b % 256) refl, eq-eqb (b / 256) (b / 256) refl) refl) e)
        ∙ sym e

-- a sum over two runs of indices
sum_over : (g : ℕ → ℕ) (a b : ℕ) → sum_to g (a + b) ≡ sum_to g a + sum_to (λ j. g (a + j)) b
unfolding sum_to
sum_over g a zero = rw (add-zero a) (omega arith)
sum_over g a (suc b) =
    let e : a + suc b ≡ suc (a + b) = omega arith in
    rw e (omega (arith, sum_over g a b))

-- a sum over no index, and over one more
pub sum_none : (g : ℕ → ℕ) → sum_to g 0 ≡ 0
unfolding sum_to
sum_none g = refl

pub sum_more : (g : ℕ → ℕ) (n : ℕ) → sum_to g (n + 1) ≡ sum_to g n + g n
sum_more g n = ap (sum_to g) (add-one n) ∙ sum_next g n

-- a sum of zero has no other figure
sum_zero : (g : ℕ → ℕ) (n k : ℕ) → sum_to g n ≡ 0 → k < n → g k ≡ 0
sum_zero g n k e h = omega (arith, sum_next g k, sum_le g (suc k) n h)

-- what counts nothing does not hold
one_none : (b : Bool) → one b ≡ 0 → b ≡ false
unfolding one
one_none true e = absurd (omega arith)
one_none false e = refl

-- a test that one of two made, counted by the second alone and by the first
split : (a b : Bool) → one (a || b) ≡ one (not a && b) + one (a || false)
unfolding one
split true b = refl
split false true = refl
split false false = refl

-- where the nodes of every step are there
module _
    (n m : ℕ) (rows records steps : List ℕ)
    (inside : (k : ℕ) → k < sum_to (λ i. field records i 4) m → misplaced n (step_in steps k) ≡ own (step_in steps k))
  where
    -- a step of a plan is one of all
    among : (i j : ℕ) → i < m → j < field records i 4 → sum_to (λ k. field records k 4) i + j < sum_to (λ k. field records k 4) m
    among i j l h = omega (arith, sum_next (λ (k : ℕ). field records k 4) i, sum_le (λ (k : ℕ). field records k 4) (suc i) m l)

    -- a step that is not the first of its plan is off exactly if it is bad
    off_later :
        (i j : ℕ)
        → i < m
        → suc j < field records i 4
        → off steps (first_step (facts_in n m rows records steps) i + suc j)
        ≡ bad_step (facts_in n m rows records steps) (first_step (facts_in n m rows records steps) i + suc j)
    unfolding off facts_of first_step
    off_later i j l h =
        let f : Facts = facts_in n m rows records steps in
        sym (by_tests f (first_step f i + suc j) ∙ rw (first_of_plan_lem f i (suc j) l h, ne_eqb (suc j) 0 (λ e. omega arith), inside (first_step f i + suc j) (among i (suc j) l h)) refl)

    -- the first of its plan is off if it is bad, or if it starts anew
    off_first :
        (i : ℕ)
        → i < m
        → 0 < field records i 4
        → one (off steps (first_step (facts_in n m rows records steps) i))
        ≡ one (starts_anew records steps i) + one (bad_step (facts_in n m rows records steps) (first_step (facts_in n m rows records steps) i))
    unfolding off starts_anew fresh facts_of first_step
    off_first i l h =
        let f : Facts = facts_in n m rows records steps in
        let s : ℕ = first_step f i in
        let t : Transmission = step_in steps s in
        let first : bad_step f s ≡ (own t || false) =
        rw (← add-zero s) (by_tests f (s + 0) ∙ rw (first_of_plan_lem f i 0 l h, inside (s + 0) (among i 0 l h)) refl) in
        rw (first, ne_eqb (field records i 4) 0 (λ e. omega arith)) (split (own t) (unjoined t (step_in steps (s - 1))))

    -- the steps of a plan that are off: its bad ones, and one more if it starts anew
    off_in_plan :
        (i j : ℕ)
        → i < m
        → suc j ≤ field records i 4
        → sum_to (λ k. one (off steps (first_step (facts_in n m rows records steps) i + k))) (suc j)
        ≡ one (starts_anew records steps i) + sum_to (λ k. one (bad_step (facts_in n m rows records steps) (first_step (facts_in n m rows records steps) i + k))) (suc j)
    unfolding sum_to
    off_in_plan i zero l h = rw (add-zero (first_step (facts_in n m rows records steps) i)) (omega (arith, off_first i l h))
    off_in_plan i (suc j) l h = rw (off_later i j l h) (omega (arith, off_in_plan i j l (omega arith)))

    -- the same of a plan with any number of steps
    off_in_whole :
        (i : ℕ)
        → i < m
        → (len : ℕ)
        → len ≡ field records i 4
        → sum_to (λ k. one (off steps (first_step (facts_in n m rows records steps) i + k))) len
        ≡ one (starts_anew records steps i) + sum_to (λ k. one (bad_step (facts_in n m rows records steps) (first_step (facts_in n m rows records steps) i + k))) len
    unfolding sum_to one starts_anew
    off_in_whole i l zero e = rw (eq-eqb (field records i 4) 0 (sym e)) refl
    off_in_whole i l (suc j) e = off_in_plan i j l (omega arith)

    -- and of all the plans before one
    off_before :
        (i : ℕ)
        → i ≤ m
        → sum_to (λ k. one (off steps k)) (first_step (facts_in n m rows records steps) i)
        ≡ sum_to (λ h. one (starts_anew records steps h)) i + sum_to (λ k. one (bad_step (facts_in n m rows records steps) k)) (first_step (facts_in n m rows records steps) i)
    unfolding first_step facts_of
    off_before zero l =
        rw (sum_none (λ k. field records k 4))
        (omega (
          arith,
          sum_none (λ k. one (off steps k)),
          sum_none (λ k. one (bad_step (facts_in n m rows records steps) k)),
          sum_none (λ h. one (starts_anew records steps h)),
        ))
    off_before (suc i) l =
        let s : ℕ = sum_to (λ k. field records k 4) i in
        let len : ℕ = field records i 4 in
        rw (sum_next (λ k. field records k 4) i)
        (omega (
          arith,
          off_before i (omega arith),
          sum_over (λ k. one (off steps k)) s len,
          sum_over (λ k. one (bad_step (facts_in n m rows records steps) k)) s len,
          sum_next (λ h. one (starts_anew records steps h)) i,
          off_in_whole i l len refl,
        ))

-- every node is there and the counts agree: no step is bad
pub none_bad :
    (n m : ℕ) (rows records steps : List ℕ) (most : ℕ)
    → ((k : ℕ) → k < step_bytes * sum_to (λ i. field records i 4) m → byte steps k ≤ most)
    → most < n
    → sum_to (λ k. one (off steps k)) (sum_to (λ i. field records i 4) m) ≡ sum_to (λ i. one (starts_anew records steps i)) m
    → code8 (facts_in n m rows records steps) ≡ done 0
unfolding code8 all_steps first_step facts_of step_in
none_bad n m rows records steps most above there e =
    let bad : ℕ → ℕ = λ k. one (bad_step (facts_in n m rows records steps) k) in
    let all : ℕ = sum_to (λ i. field records i 4) m in
    let inside : (k : ℕ) → k < all → misplaced n (step_in steps k) ≡ own (step_in steps k) =
    λ k h.
    misplaced_own n (step_in steps k) (omega (arith, above (step_bytes * k) (omega arith))) (omega (arith, above (step_bytes * k + 1) (omega arith))) in
    let none : sum_to bad all ≡ 0 = omega (arith, off_before n m rows records steps inside m (omega arith)) in
    given_first_none 8 (bad_step (facts_in n m rows records steps)) all
    (λ k h. one_none (bad_step (facts_in n m rows records steps) k) (sum_zero bad all k none h))
