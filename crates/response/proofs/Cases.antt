-- Case splits with a proof for each case, on a test and on the order of two numbers. Leans on the trade's First. Assumes nothing.
use Prim.Native.Nat.{ℕ, zero, suc, ◌≤◌, ◌<◌}
use mathlib.Core.Path.{◌≡◌}
use mathlib.Core.Bool.{Bool, true, false}
use mathlib.Core.Logic.{⊎_elim}
use native.Mathlib.Omega.{arith}
use Rattle.trade.proofs.First.{bool_cases, lt_or_ge}

-- a test holds or fails
pub by_test : {A : Type 0} (b : Bool) → (b ≡ true → A) → (b ≡ false → A) → A
by_test b holds fails = ⊎_elim holds fails (bool_cases b)

-- a number is at most another, or above it
pub by_order : {A : Type 0} (a b : ℕ) → (a ≤ b → A) → (b < a → A) → A
by_order a b low high = ⊎_elim high low (lt_or_ge b a)

-- a figure that never rises is nowhere larger than before
pub never_rises : (g : ℕ → ℕ) → ((n : ℕ) → g (suc n) ≤ g n) → (a b : ℕ) → a ≤ b → g b ≤ g a
never_rises g falls a zero h = let e : a ≡ 0 = omega arith in rw e (omega arith)
never_rises g falls a (suc b) h =
    by_order a b (λ p. omega (arith, falls b, never_rises g falls a b p))
    (λ p. let e : a ≡ suc b = omega arith in rw e (omega arith))
