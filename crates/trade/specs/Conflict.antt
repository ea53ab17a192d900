-- Conflict of transmissions. Leans on nothing but the words.
use Rattle.std.specs.Prelude.{ℕ, Bool, true, not, ◌&&◌, ◌||◌, List, [], ◌∷◌, eqb}
use Rattle.trade.specs.declared.node.Transmission.{Transmission}

-- four nodes are not all distinct
unfoldable pub meet : ℕ → ℕ → ℕ → ℕ → Bool
meet a b c d = eqb a b || eqb c d || eqb a c || eqb a d || eqb b c || eqb b d

-- A to B and C to D conflict if the four nodes are not all distinct, or C disturbs B, or A disturbs D; and, since receivers acknowledge in
-- the same slot, if D disturbs A, or B disturbs C
unfoldable pub conflict : (ℕ → ℕ → Bool) → Transmission → Transmission → Bool
conflict disturbs t u =
    let a : ℕ = t.sender.0 in
    let b : ℕ = t.receiver.0 in
    let c : ℕ = u.sender.0 in
    let d : ℕ = u.receiver.0 in
    meet a b c d || disturbs c b || disturbs a d || disturbs d a || disturbs b c

-- a transmission conflicts with one of these
unfoldable pub conflicts_with : (ℕ → ℕ → Bool) → List Transmission → Transmission → Bool
conflicts_with disturbs [] t = Bool.false
conflicts_with disturbs (u ∷ us) t = conflict disturbs u t || conflicts_with disturbs us t

-- a set is conflict-free if each pair is; `grants_free` says it of the grants of a slot
unfoldable pub conflict_free : (ℕ → ℕ → Bool) → List Transmission → Bool
conflict_free disturbs [] = true
conflict_free disturbs (u ∷ us) = not (conflicts_with disturbs us u) && conflict_free disturbs us
