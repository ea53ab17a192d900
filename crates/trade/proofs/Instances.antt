-- Laws of ceil(a / b), and of the instances that may act within R slots: they grow with R and with the carry-in, and shrink with the
-- period. Leans on First. Assumes nothing.
use Prim.Native.Nat.{ℕ, suc, ◌+◌, ◌-◌, ◌*◌, ◌/◌, ◌≤◌, ◌<◌}
use mathlib.Core.Path.{◌≡◌}
use mathlib.Core.Logic.{◌↔◌, ⊎_elim}
use native.Mathlib.Omega.{arith}
use native.Mathlib.Nat.{div-lt_iff_lt-mul, le_trans, mul-le-mul_left, mul-one}
use Rattle.trade.specs.Bound.{ceil, instances}
use Rattle.trade.proofs.First.{lt_or_ge}

-- ceil(a / b) is the least n whose multiple of b is at least a
pub ceil_least : (a b n : ℕ) → 1 ≤ b → (ceil a b ≤ n) ↔ (a ≤ n * b)
unfolding ceil
ceil_least a b n p = (below, above)
  where
    next : suc n * b ≡ n * b + b
    next = omega arith

    below : (a + (b - 1)) / b ≤ n → a ≤ n * b
    below h =
        let l : (a + (b - 1)) / b < suc n = omega arith in
        omega (arith, (div-lt_iff_lt-mul p).0 l, next)

    above : a ≤ n * b → (a + (b - 1)) / b ≤ n
    above h =
        let l : a + (b - 1) < suc n * b = omega (arith, next) in
        omega (arith, (div-lt_iff_lt-mul p).1 l)

pub ceil_reaches : (a b : ℕ) → 1 ≤ b → a ≤ ceil a b * b
ceil_reaches a b p = (ceil_least a b (ceil a b) p).0 (omega arith)

-- where it is
pub ceil_at : (a b n : ℕ) → 1 ≤ b → a ≤ suc n * b → n * b < a → suc n ≡ ceil a b
ceil_at a b n p h l =
    ⊎_elim (λ (q : n < ceil a b). omega (arith, (ceil_least a b (suc n) p).1 h))
    (λ (q : ceil a b ≤ n). absurd (omega (arith, (ceil_least a b n p).0 q))) (lt_or_ge n (ceil a b))

-- it grows with a, shrinks with b, and is at most a
pub ceil_mono : (a c b d : ℕ) → 1 ≤ d → d ≤ b → a ≤ c → ceil a b ≤ ceil c d
ceil_mono a c b d p q h =
    (ceil_least a b (ceil c d) (omega arith)).1
    (le_trans h (le_trans (ceil_reaches c d p) (mul-le-mul_left (ceil c d) q)))

pub ceil_most : (a b : ℕ) → 1 ≤ b → ceil a b ≤ a
ceil_most a b p = (ceil_least a b a p).1 (omega (arith, mul-le-mul_left a p, mul-one a))

pub instances_mono :
    (R S carry other period shorter : ℕ)
    → 1 ≤ shorter
    → shorter ≤ period
    → R ≤ S
    → carry ≤ other
    → instances R carry period ≤ instances S other shorter
unfolding instances
instances_mono R S carry other period shorter p q h k = ceil_mono (R + carry - 1) (S + other - 1) period shorter p q (omega arith)

pub instances_most : (R carry period : ℕ) → 1 ≤ period → instances R carry period ≤ R + carry
unfolding instances
instances_most R carry period p = omega (arith, ceil_most (R + carry - 1) period p)

-- at least one instance counts in any window
pub instances_least : (R carry period : ℕ) → 1 ≤ R → 1 ≤ carry → 1 ≤ period → 1 ≤ instances R carry period
unfolding instances
instances_least R carry period r c p =
    ⊎_elim (λ (h : ceil (R + carry - 1) period < 1). let none : ceil (R + carry - 1) period ≤ 0 = omega arith in
    absurd (omega (arith, (ceil_least (R + carry - 1) period 0 p).0 none)))
    (λ (h : 1 ≤ ceil (R + carry - 1) period). h) (lt_or_ge (ceil (R + carry - 1) period) 1)
