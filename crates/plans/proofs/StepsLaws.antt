-- A plan as a part of a steps section: its steps are those of the section, at any place, and its length is the plan's. Assumes nothing.
use Prim.Native.Nat.{ℕ, ◌+◌, ◌-◌, ◌*◌, ◌≤◌, ◌<◌, min}
use mathlib.Core.Path.{◌≡◌, sym, ◌∙◌, ap, ap₂}
use mathlib.Core.List.{List, []}
use mathlib.Core.Logic.{⊎_elim}
use native.Mathlib.Omega.{arith}
use lib.ListN.{length, take, drop, length-take, length-drop, drop_of_length-le}
use lib.Seq.{get_or-take, get_or-drop, take_all, take-nil}
use borrow.Author.Tests.{lt-ltb, le-ltb}
use Rattle.trade.specs.Limits.{step_bytes}
use Rattle.trade.specs.Bytes.{byte, part}
use Rattle.trade.specs.Facts.{step_in}
use Rattle.trade.specs.declared.node.Transmission.{Transmission}
use Rattle.trade.proofs.First.{lt_or_ge}
use Rattle.nodes.specs.Network.{Within}
use Rattle.plans.specs.Plan.{AllWithin, steps_in, plan_in, no_step, step_or, plan_step}

-- from one node to another
abbrev pub sent : ℕ → ℕ → Transmission
sent a b = record { sender = record { 0 = a }; receiver = record { 0 = b } }

-- the step at a place that a part holds whole, and at any other
pub step_held : (steps : List ℕ) (k : ℕ) → k < steps_in steps → step_or steps k ≡ step_in steps k
unfolding step_or
step_held steps k h = rw (lt-ltb k (steps_in steps) h)

pub step_missing : (steps : List ℕ) (k : ℕ) → steps_in steps ≤ k → step_or steps k ≡ no_step
unfolding step_or
step_missing steps k h = rw (le-ltb k (steps_in steps) h)

module _ (steps : List ℕ) (first count : ℕ) where
  -- the part of a steps section that holds so many steps from one on
  abbrev plan : List ℕ
  plan = plan_in steps first count

  byte_plan : (at : ℕ) → at < step_bytes * count → byte plan at ≡ byte steps (step_bytes * first + at)
  unfolding part
  byte_plan at h = rw (get_or-take, get_or-drop)

  pub step_plan : (k : ℕ) → k < count → step_in plan k ≡ step_in steps (first + k)
  unfolding step_in
  step_plan k h =
      ap₂ sent (byte_plan (step_bytes * k) (omega arith) ∙ ap (byte steps) (omega arith))
      (byte_plan (step_bytes * k + 1) (omega arith) ∙ ap (byte steps) (omega arith))

  length_part : length plan ≡ min (step_bytes * count) (length steps - step_bytes * first)
  unfolding part
  length_part = simp (length-take, length-drop)

  -- cut out in two parts: what is left of the section from its first step on, and of that so many steps
  abbrev rest : List ℕ
  rest = take (length steps - step_bytes * first) (drop (step_bytes * first) steps)

  all_left : rest ≡ drop (step_bytes * first) steps
  all_left = take_all (length steps - step_bytes * first) (drop (step_bytes * first) steps) (rw length-drop (omega arith))

  pub plan_cut : take (step_bytes * count) rest ≡ plan
  unfolding part
  plan_cut = ap (take (step_bytes * count)) all_left

  -- where the section ends within it, all that is left; where the section ends before it, nothing
  pub plan_rest : steps_in rest < count → rest ≡ plan
  plan_rest h = sym (take_all (step_bytes * count) rest (omega arith)) ∙ plan_cut

  pub plan_past : steps_in steps < first → [] ≡ plan
  unfolding part
  plan_past h = rw (drop_of_length-le steps {i = step_bytes * first} (omega arith)) (sym (take-nil (step_bytes * count)))

  -- the step at any place of it is that of the section, or none
  pub step_anywhere : (j : ℕ) → step_or plan j ≡ plan_step steps first count j
  unfolding plan_step
  step_anywhere j =
      ⊎_elim
      (λ (l : j < count).
      ⊎_elim
      (λ (h : first + j < steps_in steps).
      rw (lt-ltb j count l, lt-ltb (first + j) (steps_in steps) h) (step_held plan j (omega (arith, length_part)) ∙ step_plan j l))
      (λ (h : steps_in steps ≤ first + j).
      rw (lt-ltb j count l, le-ltb (first + j) (steps_in steps) h) (step_missing plan j (omega (arith, length_part))))
      (lt_or_ge (first + j) (steps_in steps)))
      (λ (l : count ≤ j). rw (le-ltb j count l) (step_missing plan j (omega (arith, length_part))))
      (lt_or_ge j count)

  module _ (fits : step_bytes * (first + count) ≤ length steps) where
    pub plan_length : length plan ≡ step_bytes * count
    plan_length = omega (arith, length_part)

    pub steps_plan : steps_in plan ≡ count
    steps_plan = rw plan_length (omega arith)

    pub within_plan : (rows : List ℕ) → ((k : ℕ) → k < first + count → Within rows (step_in steps k)) → AllWithin rows plan
    within_plan rows all k h = let l : k < count = omega (arith, plan_length) in rw (step_plan k l) (all (first + k) (omega arith))
