-- The counting lemma: how many instances of a flow act in a window, where its releases lie a period apart and the one carried in
-- is not too old. Assumes nothing.
use Prim.Native.Nat.{ℕ, zero, suc, ◌+◌, ◌-◌, ◌*◌, ◌≤◌, ◌<◌}
use mathlib.Core.Path.{◌≡◌}
use mathlib.Core.Bool.{Bool, true}
use native.Mathlib.Omega.{arith}
use native.Mathlib.Nat.{zero-mul, suc-mul, add-zero, zero-add}
use native.Mathlib.Numerals.{add-one, one-add}
use lib.Dec.{ltb}
use borrow.Author.Tests.{ltb-true}
use Rattle.trade.specs.Bound.{instances}
use Rattle.response.specs.Course.{Course, often, acting}
use Rattle.response.specs.Counting.{Apart, Recent, Carried}
use Rattle.response.proofs.Cases.{by_test}
use Rattle.response.proofs.One.{one_holds, one_fails}
use Rattle.response.proofs.Often.{often_none, often_suc}
use Rattle.response.proofs.Ceil.{ceil_above}

-- releases P apart, of which those from slot s on come at base or later
module _
    (released : ℕ → Bool)
    (P : ℕ)
    (apart : Apart released P)
    (base s : ℕ)
    (late : (t : ℕ) → s ≤ t → released t ≡ true → base ≤ t)
  where
    -- a release after n slots comes a period later for each release in them
    next_release : (n t : ℕ) → s + n ≤ t → released t ≡ true → base + often released s n * P ≤ t
    next_release zero t n≤ e = rw (often_none, zero-mul) (omega (arith, late t (omega arith) e))
    next_release (suc n) t n≤ e =
        by_test (released (s + n))
        (λ e'.
        rw (often_suc, one_holds e', add-one, suc-mul)
        (omega (arith, next_release n (s + n) (omega arith) e', apart (s + n) t e' e (omega arith))))
        (λ e'. rw (often_suc, one_fails e', add-zero) (next_release n t (omega arith) e))

    -- so n slots have room for few releases
    room : base < s + P → (n : ℕ) → base + often released s n * P < s + n + P
    room near zero = rw (often_none, zero-mul) (omega arith)
    room near (suc n) =
        by_test (released (s + n))
        (λ e. rw (often_suc, one_holds e, add-one, suc-mul) (omega (arith, next_release n (s + n) (omega arith) e)))
        (λ e. rw (often_suc, one_fails e, add-zero) (omega (arith, room near n)))

-- THE COUNTING LEMMA: in a window of R slots at most ceil((R + B − 1) / P) instances act, where one may be carried in for B slots
pub counting_lemma :
    (c : Course) (P B r R : ℕ) → 1 ≤ P → 1 ≤ R → Apart c.released P → Carried c B r → acting c r R ≤ instances R B P
unfolding acting instances
counting_lemma c P B r R P≥ R≥ apart carried =
    by_test (ltb (c.done r) c.len)
    (λ e.
    let q : Recent c.released B r = carried (ltb-true (c.done r) c.len e) in
    let late : (t : ℕ) → suc r ≤ t → c.released t ≡ true → q.slot + P ≤ t
    = λ t r< e'. apart q.slot t q.at e' (omega arith) in
    let few : q.slot + P + often c.released (suc r) (R - 1) * P < suc r + (R - 1) + P
    = room c.released P apart (q.slot + P) (suc r) late (omega arith) (R - 1) in
    rw (one_holds e, one-add) (ceil_above (R + B - 1) P (suc (often c.released (suc r) (R - 1))) P≥ (rw suc-mul (omega arith))))
    (λ e.
    let few : suc r + often c.released (suc r) (R - 1) * P < suc r + (R - 1) + P
    = room c.released P apart (suc r) (suc r) (λ t r< e'. r<) (omega arith) (R - 1) in
    rw (one_fails e, zero-add) (ceil_above (R + B - 1) P (often c.released (suc r) (R - 1)) P≥ (omega arith)))
