-- The places of a run: one that was stored, and the others; and bytes stored one behind the other. Leans on the numbers' PastingLaws.
-- Assumes nothing.
use Prim.Native.Nat.{ℕ, zero, suc, ◌+◌, ◌<◌, ◌≤◌}
use mathlib.Core.Path.{◌≡◌, refl, sym, ◌∙◌, ap, ap₂}
use mathlib.Core.List.{List, [], ◌∷◌, ◌++◌, append_assoc, append-nil}
use native.Mathlib.Nat.{add-zero, zero-add, add-suc, suc-add}
use native.Mathlib.Numerals.{add-one}
use native.Mathlib.Omega.{arith}
use lib.ListN.{length, get_or, set, take, drop, length-append, length-drop, take-append-drop, replicate}
use lib.Seq.{get_or-set_same, get_or-set_other, set_at, drop-cons, length-take-le}
use borrow.Author.Tests.{lt-ltb}
use Rattle.trade.specs.Run.{idle_of, empty_run}
use Rattle.trade.specs.First.{list_from, list_to}
use Rattle.trade.specs.Limits.{most_flows, slot_bytes}
use Rattle.trade.specs.Bytes.{two_bytes, four_bytes, over}
use Rattle.trade.specs.Slot.{State}
use Rattle.trade.specs.Area.{area_of}
use Rattle.trade.proofs.Sums.{length_list_to, list_to_same}
use Rattle.trade.proofs.Area.{place_byte}
use Rattle.trade.specs.declared.state.Progress.{Progress}
use Rattle.numbers.specs.Pasting.{pasted_at}
use Rattle.numbers.proofs.PastingLaws.{pasted_next}
use Rattle.trade.specs.declared.clock.Slot.{Slot}
use Rattle.slot.specs.States.{place_of, slot_in}

-- the place that was stored to, and any other
pub stored : (places : List Progress) (i : ℕ) (p : Progress) → i < length places → place_of (set places i p) i ≡ p.done.0
unfolding place_of
stored places i p h = ap (λ (q : Progress). q.done.0) (get_or-set_same places i p (idle_of 0) h)

pub unstored : (places : List Progress) (i j : ℕ) (p : Progress) → (j ≡ i → ⊥) → place_of (set places i p) j ≡ place_of places j
unfolding place_of
unstored places i j p n = ap (λ (q : Progress). q.done.0) (get_or-set_other places i j p (idle_of 0) n)

-- the same of slots in a list
pub slot_stored : (slots : List Slot) (i : ℕ) (v : Slot) → i < length slots → slot_in (set slots i v) i ≡ v.0
unfolding slot_in
slot_stored slots i v h = ap (λ (w : Slot). w.0) (get_or-set_same slots i v (record { 0 = 0 }) h)

pub slot_unstored : (slots : List Slot) (i j : ℕ) (v : Slot) → (j ≡ i → ⊥) → slot_in (set slots i v) j ≡ slot_in slots j
unfolding slot_in
slot_unstored slots i j v n = ap (λ (w : Slot). w.0) (get_or-set_other slots i j v (record { 0 = 0 }) n)

-- the places of the empty run are 0, and so are slots before any is stored
pub repeated : {A : Type 0} (n k : ℕ) (p : A) → get_or (replicate n p) k p ≡ p
repeated zero k p = refl
repeated (suc n) zero p = refl
repeated (suc n) (suc k) p = repeated n k p

pub unused : (k : ℕ) → place_of empty_run.flows k ≡ 0
unfolding place_of
unused k = ap (λ (p : Progress). p.done.0) (repeated most_flows k (idle_of 0))

pub slots_none : (k : ℕ) → slot_in (replicate most_flows (record { 0 = 0 })) k ≡ 0
unfolding slot_in
slots_none k = ap (λ (w : Slot). w.0) (repeated most_flows k (record { 0 = 0 }))

-- a figure's values at one index more
list_from_next : (figure : ℕ → ℕ) (i k : ℕ) → list_from figure i (suc k) ≡ list_from figure i k ++ (figure (i + k) ∷ [])
unfolding list_from
list_from_next figure i zero = rw (add-zero i)
list_from_next figure i (suc k) =
    ap (λ (l : List ℕ). figure i ∷ l) (list_from_next figure (suc i) k ∙ rw (add-suc i k, suc-add i k))

pub list_next : (figure : ℕ → ℕ) (k : ℕ) → list_to figure (suc k) ≡ list_to figure k ++ (figure k ∷ [])
unfolding list_to
list_next figure k = list_from_next figure 0 k ∙ rw (zero-add k)

-- a byte stored behind those that were put at a place
pub put_next :
    (at : ℕ) (bytes d : List ℕ) (v : ℕ)
    → at + length bytes < length d
    → set (pasted_at at bytes d) (at + length bytes) v ≡ pasted_at at (bytes ++ (v ∷ [])) d
unfolding pasted_at
put_next at bytes d v h =
    let front : List ℕ = take at d ++ bytes in
    let size : length front ≡ at + length bytes =
    length-append (take at d) bytes ∙ ap (λ (n : ℕ). n + length bytes) (length-take-le at d (omega arith)) in
    let next : at + (length bytes + 1) ≡ suc (at + length bytes) = omega arith in
    rw (drop-cons d (at + length bytes) 0 h, set_at front (get_or d (at + length bytes) 0) (drop (suc (at + length bytes)) d) v (at + length bytes) size)
    (rw (
      length-append bytes (v ∷ []),
      next,
      ← append_assoc (take at d) bytes (v ∷ []),
      append_assoc front (v ∷ []) (drop (suc (at + length bytes)) d),
    ))

pub put_none : (at : ℕ) (d : List ℕ) → pasted_at at [] d ≡ d
unfolding pasted_at
put_none at d = rw (append-nil (take at d), add-zero at) (take-append-drop at d)

pub length_put : (at : ℕ) (bytes d : List ℕ) → at + length bytes ≤ length d → length (pasted_at at bytes d) ≡ length d
unfolding pasted_at
length_put at bytes d h =
    omega (
      arith,
      length-append (take at d ++ bytes) (drop (at + length bytes) d),
      length-append (take at d) bytes,
      length-take-le at d (omega arith),
      length-drop (at + length bytes) d,
    )

-- a figure's values stored one by one
module _ (at : ℕ) (figure : ℕ → ℕ) (d : List ℕ) where
  pub store_none : d ≡ pasted_at at (list_to figure 0) d
  unfolding list_to list_from
  store_none = sym (put_none at d)

  pub store_length : (i : ℕ) (l : List ℕ) → l ≡ pasted_at at (list_to figure i) d → at + i ≤ length d → length l ≡ length d
  store_length i l e h = ap length e ∙ length_put at (list_to figure i) d (omega (arith, length_list_to figure i))

  pub store_next :
      (i : ℕ) (l : List ℕ)
      → l ≡ pasted_at at (list_to figure i) d
      → at + i < length d
      → set l (at + i) (figure i) ≡ pasted_at at (list_to figure (i + 1)) d
  store_next i l e h =
      let size : length (list_to figure i) ≡ i = length_list_to figure i in
      ap (λ (k : List ℕ). set k (at + i) (figure i)) e
      ∙ (rw size at (put_next at (list_to figure i) d (figure i) (omega arith)))
      ∙ rw (add-one i, list_next figure i)

-- the places of a run behind its slot are its area
pub area_written :
    (s : State) (d : List ℕ) → pasted_at slot_bytes (list_to s.done most_flows) (over (four_bytes s.slot) d) ≡ over (area_of most_flows s) d
unfolding area_of four_bytes two_bytes
area_written s d =
    pasted_next (four_bytes s.slot) (list_to s.done most_flows) d
    ∙ ap (λ (places : List ℕ). over (four_bytes s.slot ++ places) d)
    (list_to_same s.done (place_byte most_flows s) most_flows (λ i h. rw (lt-ltb i most_flows h)))

-- a run of so many flows, and one of every place, are written alike where they agree at each place
pub area_same :
    (flows : ℕ) (s u : State)
    → s.slot ≡ u.slot
    → ((i : ℕ) → i < most_flows → s.done i ≡ place_byte flows u i)
    → area_of most_flows s ≡ area_of flows u
unfolding area_of
area_same flows s u slot places =
    ap₂ (λ (v : ℕ) (bytes : List ℕ). four_bytes v ++ bytes) slot
    (list_to_same (place_byte most_flows s) (place_byte flows u) most_flows (λ i h. rw (lt-ltb i most_flows h) (places i h)))
