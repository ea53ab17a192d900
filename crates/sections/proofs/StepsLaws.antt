-- What code 8 tests of one step, said of the part of the steps that starts with its plan. Leans on Words. Assumes nothing.
use Prim.Native.Nat.{ℕ, zero, suc, ◌+◌, ◌-◌, ◌*◌, ◌≤◌, ◌<◌}
use mathlib.Core.Path.{◌≡◌, refl, sym, ◌∙◌, ap}
use mathlib.Core.Bool.{false, not, ◌&&◌, ◌||◌}
use mathlib.Core.List.{List}
use mathlib.Core.Logic.{◌⊎◌, inl, inr, ⊎_elim}
use native.Mathlib.Nat.{add_assoc, mul-add}
use native.Mathlib.Omega.{arith}
use lib.Dec.{eqb}
use lib.ListN.{drop}
use lib.Seq.{get_or-drop}
use borrow.Author.Tests.{eq-eqb, ne_eqb}
use Rattle.trade.specs.Limits.{step_bytes}
use Rattle.trade.specs.First.{first, sum_to}
use Rattle.trade.specs.Answers.{refused}
use Rattle.trade.specs.Layout.{field}
use Rattle.trade.specs.Facts.{Facts, facts_of, facts_in, step_in, first_step, all_steps}
use Rattle.trade.specs.Codes.{first_of_plan, bad_step, code8}
use Rattle.trade.proofs.First.{lt_or_ge, first_within, first_before, first_holds, some_intro, some_none}
use Rattle.trade.proofs.Answers.{given_first_at}
use Rattle.trade.proofs.Sums.{sum_le, sum_next}
use Rattle.sections.specs.Steps.{misplaced, unjoined, bad_in_plan}

-- a step read out of the part that starts at step a
pub step_drop : (steps : List ℕ) (a j : ℕ) → step_in (drop (step_bytes * a) steps) j ≡ step_in steps (a + j)
unfolding step_in
step_drop steps a j =
    rw (
      get_or-drop (step_bytes * a) steps (step_bytes * j) 0,
      get_or-drop (step_bytes * a) steps (step_bytes * j + 1) 0,
      mul-add step_bytes a j,
      add_assoc (step_bytes * a) (step_bytes * j) 1,
    )

-- the first step of a plan, and no other, is the first of some plan
pub first_of_plan_lem : (f : Facts) (i j : ℕ) → i < f.flows → j < f.len i → first_of_plan f (first_step f i + j) ≡ eqb j 0
unfolding first_of_plan first_step
first_of_plan_lem f i zero l h =
    some_intro (λ (k : ℕ). eqb (sum_to f.len k) (sum_to f.len i + 0)) f.flows i l
    (eq-eqb (sum_to f.len i) (sum_to f.len i + 0) (omega arith))
first_of_plan_lem f i (suc j) l h =
    rw (ne_eqb (suc j) 0 (λ e. omega arith))
    (some_none (λ (k : ℕ). eqb (sum_to f.len k) (sum_to f.len i + suc j)) f.flows
    (λ k b. ne_eqb (sum_to f.len k) (sum_to f.len i + suc j) (λ e. between k e (lt_or_ge i k))))
  where
    between : (k : ℕ) → sum_to f.len k ≡ sum_to f.len i + suc j → (i < k) ⊎ (k ≤ i) → ⊥
    between k e (inl b) = omega (arith, sum_next f.len i, sum_le f.len (suc i) k b)
    between k e (inr b) = omega (arith, sum_le f.len k i b)

-- the tests of a step: by itself, and, unless it is the first of a plan, with the step before
pub by_tests : (f : Facts) (k : ℕ) → bad_step f k ≡ (misplaced f.nodes (f.step k) || not (first_of_plan f k) && unjoined (f.step k) (f.step (k - 1)))
unfolding bad_step misplaced unjoined
by_tests f k = refl

-- the same tests by the step's place in its plan
pub bad_step_lem :
    (n m : ℕ) (rows records steps : List ℕ) (i j : ℕ)
    → i < m
    → j < field records i 4
    → bad_step (facts_in n m rows records steps) (first_step (facts_in n m rows records steps) i + j)
    ≡ bad_in_plan n (drop (step_bytes * first_step (facts_in n m rows records steps) i) steps) j
unfolding bad_in_plan facts_of
bad_step_lem n m rows records steps i zero l h =
    let f : Facts = facts_in n m rows records steps in
    let s : ℕ = first_step f i in
    by_tests f (s + 0)
    ∙ rw (first_of_plan_lem f i 0 l h) (ap (λ t. misplaced n t || false) (sym (step_drop steps s 0)))
bad_step_lem n m rows records steps i (suc j) l h =
    let f : Facts = facts_in n m rows records steps in
    let s : ℕ = first_step f i in
    let e : s + suc j - 1 ≡ s + (suc j - 1) = omega arith in
    by_tests f (s + suc j)
    ∙ rw (first_of_plan_lem f i (suc j) l h, e, step_drop steps s (suc j), step_drop steps s (suc j - 1)) refl

-- the steps of a plan lie among those of all plans
pub plan_room :
    (records : List ℕ) (m i room : ℕ)
    → i < m
    → step_bytes * sum_to (λ k. field records k 4) m ≤ room
    → step_bytes * (sum_to (λ k. field records k 4) i + field records i 4) ≤ room
plan_room records m i room l h =
    omega (arith, sum_next (λ (k : ℕ). field records k 4) i, sum_le (λ (k : ℕ). field records k 4) (suc i) m l)

-- what the search through plan i finds, where no step of the plans before it is bad
module _
    (n m : ℕ) (rows records steps : List ℕ) (i : ℕ) (l : i < m)
    (before : (k : ℕ) → k < first_step (facts_in n m rows records steps) i → bad_step (facts_in n m rows records steps) k ≡ false)
  where
    so_far :
        (k : ℕ)
        → k < first_step (facts_in n m rows records steps) i + first (bad_in_plan n (drop (step_bytes * first_step (facts_in n m rows records steps) i) steps)) (field records i 4)
        → bad_step (facts_in n m rows records steps) k ≡ false
    so_far k h =
        ⊎_elim (λ (b : k < first_step (facts_in n m rows records steps) i). before k b)
        (λ (b : first_step (facts_in n m rows records steps) i ≤ k).
        let s : ℕ = first_step (facts_in n m rows records steps) i in
        let plan : List ℕ = drop (step_bytes * s) steps in
        let j : ℕ = k - s in
        let e : k ≡ s + j = omega arith in
        let in_plan : j < first (bad_in_plan n plan) (field records i 4) = omega arith in
        ap (bad_step (facts_in n m rows records steps)) e
        ∙ bad_step_lem n m rows records steps i j l (omega (arith, first_within (bad_in_plan n plan) (field records i 4)))
        ∙ first_before (bad_in_plan n plan) (field records i 4) j in_plan)
        (lt_or_ge k (first_step (facts_in n m rows records steps) i))

    -- a bad one: code 8, with its place over all plans
    pub bad_found :
        first (bad_in_plan n (drop (step_bytes * first_step (facts_in n m rows records steps) i) steps)) (field records i 4) < field records i 4
        → code8 (facts_in n m rows records steps)
        ≡ refused 8 (first_step (facts_in n m rows records steps) i + first (bad_in_plan n (drop (step_bytes * first_step (facts_in n m rows records steps) i) steps)) (field records i 4))
    unfolding code8 all_steps first_step facts_of
    bad_found h =
        let len : ℕ → ℕ = λ k. field records k 4 in
        let s : ℕ = sum_to len i in
        let plan : List ℕ = drop (step_bytes * s) steps in
        given_first_at 8 (bad_step (facts_in n m rows records steps)) (sum_to len m) (s + first (bad_in_plan n plan) (len i))
        (omega (arith, sum_next len i, sum_le len (suc i) m l))
        so_far
        (bad_step_lem n m rows records steps i (first (bad_in_plan n plan) (len i)) l h ∙ first_holds (bad_in_plan n plan) (len i) h)

    -- none: no step of the plans up to this one is bad
    pub none_found :
        field records i 4 ≤ first (bad_in_plan n (drop (step_bytes * first_step (facts_in n m rows records steps) i) steps)) (field records i 4)
        → (k : ℕ)
        → k < first_step (facts_in n m rows records steps) i + field records i 4
        → bad_step (facts_in n m rows records steps) k ≡ false
    none_found h k b = so_far k (omega arith)
