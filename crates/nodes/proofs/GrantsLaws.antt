-- The grant set holds the grants that were made: none at first, and one more with each. Leans on Bits. Assumes nothing.
use Prim.Native.Nat.{ℕ, ◌^◌, ◌<◌}
use mathlib.Core.Path.{◌≡◌, refl, sym, ◌∙◌, ap}
use mathlib.Core.Bool.{Bool, true, false, ◌||◌, or_assoc, or-false, or-true}
use mathlib.Core.List.{List, [], ◌∷◌, ◌++◌}
use lib.Dec.{eqb}
use lib.Bits.{bit_or, and_zero_r}
use borrow.Author.Tests.{ne_eqb}
use Rattle.trade.specs.Limits.{most_nodes}
use Rattle.trade.specs.Bytes.{byte, bit}
use Rattle.trade.specs.Facts.{disturbs_in}
use Rattle.trade.specs.Conflict.{meet, conflict, conflicts_with}
use Rattle.trade.specs.declared.node.Transmission.{Transmission}
use Rattle.nodes.specs.Network.{Within}
use Rattle.nodes.specs.Mask.{only, meets, row_mask}
use Rattle.nodes.specs.Grants.{no_grants, clashes_with, one_more, Holds}
use Rattle.nodes.specs.declared.grants.GrantSet.{GrantSet}
use Rattle.nodes.proofs.MaskLaws.{bit_none, bit_or_lem, bit_only, bit_row, meets_or, meets_only}

-- four tests in two pairs
or_pairs : (p q r s : Bool) → ((p || q) || (r || s)) ≡ ((p || r) || (q || s))
or_pairs true q r s = refl
or_pairs false true true s = refl
or_pairs false true false s = refl
or_pairs false false true s = refl
or_pairs false false false s = refl

-- three sets that each have one more
three : (p p₁ q q₁ r r₁ : Bool) → (((p || p₁) || (q || q₁)) || (r || r₁)) ≡ (((p || q) || r) || ((p₁ || q₁) || r₁))
three p p₁ q q₁ r r₁ = ap (λ (e : Bool). e || (r || r₁)) (or_pairs p p₁ q q₁) ∙ or_pairs (p || q) (p₁ || q₁) r r₁

-- the tests of one grant, in the order of the conflict
of_one : (ca cb da db ad cb' bc da' : Bool) → ((((((ca || da) || da') || ((cb || db) || cb')) || ad) || bc) ≡ (ca || cb || da || db || ad || cb' || bc || da'))
of_one true cb da db ad cb' bc da' = refl
of_one false true da db ad cb' bc da' = rw (or-true (da || da')) refl
of_one false false true db ad cb' bc da' = refl
of_one false false false true ad cb' bc da' = rw (or-true da') refl
of_one false false false false true cb' bc da' = rw (or-true (da' || cb')) refl
of_one false false false false false true bc da' = rw (or-true da') refl
of_one false false false false false false true true = refl
of_one false false false false false false true false = refl
of_one false false false false false false false true = refl
of_one false false false false false false false false = refl

-- the set's four tests, each with one more grant, part into those of the set and those of the grant
part :
    (e e₁ f f₁ g g₁ h h₁ : Bool)
    → ((((e || e₁) || (f || f₁)) || (g || g₁)) || (h || h₁)) ≡ ((((e || f) || g) || h) || (((e₁ || f₁) || g₁) || h₁))
part e e₁ f f₁ g g₁ h h₁ = ap (λ (x : Bool). x || (h || h₁)) (three e e₁ f f₁ g g₁) ∙ or_pairs ((e || f) || g) ((e₁ || f₁) || g₁) h h₁

-- no grants hold nothing
pub holds_none : (rows : List ℕ) → Holds rows no_grants []
unfolding Holds clashes_with conflicts_with
holds_none rows t w =
    rw (bit_none t.sender.0, bit_none t.receiver.0, and_zero_r (row_mask rows t.sender.0), and_zero_r (row_mask rows t.receiver.0))

-- one more of a list at its end
conflicts_last :
    (disturbs : ℕ → ℕ → Bool) (us : List Transmission) (u t : Transmission)
    → conflicts_with disturbs (us ++ (u ∷ [])) t ≡ (conflicts_with disturbs us t || conflict disturbs u t)
unfolding conflicts_with
conflicts_last disturbs [] u t = or-false (conflict disturbs u t)
conflicts_last disturbs (x ∷ us) u t =
    ap (λ (e : Bool). conflict disturbs x t || e) (conflicts_last disturbs us u t)
    ∙ sym (or_assoc (conflict disturbs x t) (conflicts_with disturbs us t) (conflict disturbs u t))

-- two transmissions, each between two nodes, conflict if a node of one is a node of the other, or if one disturbs the other
conflict_apart :
    (disturbs : ℕ → ℕ → Bool) (u t : Transmission)
    → (u.sender.0 ≡ u.receiver.0 → ⊥)
    → (t.sender.0 ≡ t.receiver.0 → ⊥)
    → conflict disturbs u t
    ≡ (eqb u.sender.0 t.sender.0
    || eqb u.sender.0 t.receiver.0
    || eqb u.receiver.0 t.sender.0
    || eqb u.receiver.0 t.receiver.0
    || disturbs t.sender.0 u.receiver.0
    || disturbs u.sender.0 t.receiver.0
    || disturbs t.receiver.0 u.sender.0
    || disturbs u.receiver.0 t.sender.0)
unfolding conflict meet
conflict_apart disturbs u t v w = rw (ne_eqb u.sender.0 u.receiver.0 v, ne_eqb t.sender.0 t.receiver.0 w)

module _ (rows : List ℕ) (small : (i : ℕ) → byte rows i < 2 ^ 8) where
  -- three sets of the grants, one more grant in each
  bit_three :
      (senders receivers others row c d x : ℕ)
      → bit (bit_or (bit_or (bit_or senders (only c)) (bit_or receivers (only d))) (bit_or others row)) x
      ≡ (bit (bit_or (bit_or senders receivers) others) x || ((eqb c x || eqb d x) || bit row x))
  bit_three senders receivers others row c d x =
      simp (bit_or_lem, bit_only)
      (three (bit senders x) (eqb c x) (bit receivers x) (eqb d x) (bit others x) (bit row x))

  -- a row that meets a set of nodes, one more in it
  meets_more : (x set y : ℕ) → y < most_nodes → meets (row_mask rows x) (bit_or set (only y)) ≡ (meets (row_mask rows x) set || disturbs_in rows x y)
  meets_more x set y h =
      meets_or (row_mask rows x) set (only y)
      ∙ ap (λ (e : Bool). meets (row_mask rows x) set || e) (meets_only (row_mask rows x) y ∙ bit_row rows small x y h)

  -- a transmission clashes with the grants and one more if it clashes with the grants, or conflicts with that one
  pub clashes_more :
      (set : GrantSet) (u t : Transmission)
      → Within rows u
      → Within rows t
      → clashes_with rows (one_more rows set u) t ≡ (clashes_with rows set t || conflict (disturbs_in rows) u t)
  unfolding clashes_with one_more
  clashes_more set u t v w =
      let a : ℕ = t.sender.0 in
      let b : ℕ = t.receiver.0 in
      let c : ℕ = u.sender.0 in
      let d : ℕ = u.receiver.0 in
      rw (
        bit_three set.senders set.receivers set.answered (row_mask rows d) c d a,
        bit_three set.senders set.receivers set.disturbed (row_mask rows c) c d b,
        meets_more a set.receivers d v.receiver.numbered,
        meets_more b set.senders c v.sender.numbered,
        bit_row rows small d a w.sender.numbered,
        bit_row rows small c b w.receiver.numbered,
      )
      (part (bit (bit_or (bit_or set.senders set.receivers) set.answered) a) ((eqb c a || eqb d a) || disturbs_in rows d a)
      (bit (bit_or (bit_or set.senders set.receivers) set.disturbed) b) ((eqb c b || eqb d b) || disturbs_in rows c b)
      (meets (row_mask rows a) set.receivers) (disturbs_in rows a d) (meets (row_mask rows b) set.senders) (disturbs_in rows b c)
      ∙ ap (λ (e : Bool). clashes_with rows set t || e)
      (of_one (eqb c a) (eqb c b) (eqb d a) (eqb d b) (disturbs_in rows a d) (disturbs_in rows c b) (disturbs_in rows b c) (disturbs_in rows d a)
      ∙ sym (conflict_apart (disturbs_in rows) u t v.apart w.apart)))

  pub holds_more :
      (set : GrantSet) (us : List Transmission) (u : Transmission)
      → Within rows u
      → Holds rows set us
      → Holds rows (one_more rows set u) (us ++ (u ∷ []))
  unfolding Holds
  holds_more set us u v h t w =
      clashes_more set u t v w
      ∙ ap (λ (e : Bool). e || conflict (disturbs_in rows) u t) (h t w)
      ∙ sym (conflicts_last (disturbs_in rows) us u t)
