-- Conflict is symmetric, what it reads, and what a conflict-free set is by its pairs. Leans on First and Valid. Assumes nothing.
use Prim.Native.Nat.{ℕ, ◌<◌}
use mathlib.Core.Path.{◌≡◌, refl, sym, ◌∙◌, ap}
use mathlib.Core.Bool.{Bool, true, false, not, ◌||◌}
use mathlib.Core.Logic.{⊎_elim}
use mathlib.Core.List.{List, [], ◌∷◌, ◌++◌}
use lib.Dec.{eqb}
use borrow.Author.Tests.{eqb-true, eqb-false, eq-eqb, ne_eqb, not-true}
use Rattle.trade.specs.Conflict.{meet, conflict, conflicts_with, conflict_free}
use Rattle.trade.proofs.First.{bool_cases, and_true, or_false}
use Rattle.trade.specs.declared.node.Transmission.{Transmission}
use Rattle.trade.proofs.Valid.{Placed}

pub eqb_comm : (a b : ℕ) → eqb a b ≡ eqb b a
eqb_comm a b =
    ⊎_elim (λ (e : eqb a b ≡ true). e ∙ sym (eq-eqb b a (sym (eqb-true a b e))))
    (λ (e : eqb a b ≡ false). e ∙ sym (ne_eqb b a (λ (p : b ≡ a). eqb-false a b e (sym p))))
    (bool_cases (eqb a b))

-- six tests or two, in another order
swap_six : (p q r s t u : Bool) → (p || q || r || s || t || u) ≡ (q || p || r || t || s || u)
swap_six true true r s t u = refl
swap_six true false r s t u = refl
swap_six false true r s t u = refl
swap_six false false true s t u = refl
swap_six false false false true true u = refl
swap_six false false false true false u = refl
swap_six false false false false true u = refl
swap_six false false false false false u = refl

swap_last : (m p q : Bool) → (m || p || q) ≡ (m || q || p)
swap_last true p q = refl
swap_last false true true = refl
swap_last false true false = refl
swap_last false false true = refl
swap_last false false false = refl

meet_comm : (a b c d : ℕ) → meet a b c d ≡ meet c d a b
unfolding meet
meet_comm a b c d =
    swap_six (eqb a b) (eqb c d) (eqb a c) (eqb a d) (eqb b c) (eqb b d)
    ∙ simp (eqb_comm a c, eqb_comm a d, eqb_comm b c, eqb_comm b d)

-- conflict is symmetric, though disturbance is not: what is asked of the one way round is asked of the other
pub conflict_symmetric : (disturbs : ℕ → ℕ → Bool) (t u : Transmission) → conflict disturbs t u ≡ conflict disturbs u t
unfolding conflict
conflict_symmetric disturbs t u =
    let a : ℕ = t.sender.0 in
    let b : ℕ = t.receiver.0 in
    let c : ℕ = u.sender.0 in
    let d : ℕ = u.receiver.0 in
    swap_last (meet a b c d || disturbs c b || disturbs a d) (disturbs d a) (disturbs b c)
    ∙ ap (λ (m : Bool). m || disturbs b c || disturbs d a)
    (swap_last (meet a b c d) (disturbs c b) (disturbs a d) ∙ ap (λ (m : Bool). m || disturbs a d || disturbs c b) (meet_comm a b c d))

-- a conflict reads no more than who disturbs whom between the nodes of its two steps
pub conflict_same :
    (n : ℕ) (d e : ℕ → ℕ → Bool) (t u : Transmission)
    → ((x y : ℕ) → x < n → y < n → d x y ≡ e x y)
    → Placed n t
    → Placed n u
    → conflict d t u ≡ conflict e t u
unfolding conflict
conflict_same n d e t u same p q =
    cc (
      same u.sender.0 t.receiver.0 q.sender p.receiver,
      same t.sender.0 u.receiver.0 p.sender q.receiver,
      same u.receiver.0 t.sender.0 q.receiver p.sender,
      same t.receiver.0 u.sender.0 p.receiver q.sender,
    )

-- a transmission that conflicts with none of a conflict-free set can join it
conflicts_snoc :
    (disturbs : ℕ → ℕ → Bool) (us : List Transmission) (t u : Transmission)
    → conflicts_with disturbs us u ≡ false
    → conflict disturbs t u ≡ false
    → conflicts_with disturbs (us ++ (t ∷ [])) u ≡ false
unfolding conflicts_with
conflicts_snoc disturbs [] t u n e = rw e
conflicts_snoc disturbs (x ∷ us) t u n e =
    let p = or_false (conflict disturbs x u) (conflicts_with disturbs us u) n in
    rw p.0 (conflicts_snoc disturbs us t u p.1 e)

pub free_snoc :
    (disturbs : ℕ → ℕ → Bool) (us : List Transmission) (t : Transmission)
    → conflict_free disturbs us ≡ true
    → conflicts_with disturbs us t ≡ false
    → conflict_free disturbs (us ++ (t ∷ [])) ≡ true
unfolding conflict_free conflicts_with
free_snoc disturbs [] t f n = refl
free_snoc disturbs (u ∷ us) t f n =
    let p = or_false (conflict disturbs u t) (conflicts_with disturbs us t) n in
    let q = and_true (not (conflicts_with disturbs us u)) (conflict_free disturbs us) f in
    let r : conflicts_with disturbs (us ++ (t ∷ [])) u ≡ false =
    conflicts_snoc disturbs us t u (not-true (conflicts_with disturbs us u) q.0) (conflict_symmetric disturbs t u ∙ p.0) in
    rw r (free_snoc disturbs us t q.1 p.1)
