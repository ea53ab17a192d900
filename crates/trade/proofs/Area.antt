-- The run area: a run that was written is read back, and no more of it counts than the book's flows. Leans on Bytes and Prefix.
-- Assumes nothing.
use Prim.Native.Nat.{ℕ, ◌^◌, ◌≤◌, ◌<◌}
use mathlib.Core.Path.{◌≡◌, ◌∙◌, ap₂}
use mathlib.Core.Bool.{true, false, cond}
use mathlib.Core.Logic.{⊎_elim}
use mathlib.Core.List.{List, ◌++◌, append_assoc}
use native.Mathlib.Omega.{arith}
use lib.Dec.{ltb}
use lib.ListN.{length, drop, length-append, get_or-append}
use borrow.Author.Tests.{ltb-true, lt-ltb, le-ltb}
use Rattle.trade.specs.Limits.{most_flows, slot_bytes, area_bytes}
use Rattle.trade.specs.First.{list_to}
use Rattle.trade.specs.Bytes.{four_bytes, over}
use Rattle.trade.specs.Slot.{State}
use Rattle.trade.specs.Area.{state_in, area_of}
use Rattle.trade.proofs.First.{bool_cases}
use Rattle.trade.proofs.Sums.{length_list_to, get_d_list_to, list_to_same}
use Rattle.trade.proofs.Bytes.{byte_behind, long_four_bytes, length_four_bytes}
use Rattle.trade.proofs.Prefix.{Abreast}

-- the byte of a place: the steps done, or 0 where it is unused
abbrev pub place_byte : ℕ → State → ℕ → ℕ
place_byte flows s i = cond (ltb i flows) (s.done i) 0

pub length_area : (flows : ℕ) (s : State) → length (area_of flows s) ≡ area_bytes
unfolding area_of
length_area flows s =
    omega (
      arith,
      length-append (four_bytes s.slot) (list_to (place_byte flows s) most_flows),
      length_four_bytes s.slot,
      length_list_to (place_byte flows s) most_flows,
    )

module _ (flows : ℕ) (s : State) (lent : List ℕ) where
  -- the slot is read back
  pub area_slot : s.slot < 2 ^ 32 → (state_in (over (area_of flows s) lent)).slot ≡ s.slot
  unfolding state_in area_of over
  area_slot h = rw append_assoc (long_four_bytes s.slot _ h)

  -- and so is each place
  pub area_place : (i : ℕ) → i < most_flows → (state_in (over (area_of flows s) lent)).done i ≡ place_byte flows s i
  unfolding state_in area_of over
  area_place i h =
      let places : List ℕ = list_to (place_byte flows s) most_flows in
      rw append_assoc
      (byte_behind (four_bytes s.slot) (places ++ drop (length (area_of flows s)) lent) slot_bytes i (length_four_bytes s.slot)
      ∙ get_or-append places _ 0 i (omega (arith, length_list_to (place_byte flows s) most_flows))
      ∙ get_d_list_to (place_byte flows s) most_flows i h)

  pub area_used : (i : ℕ) → i < most_flows → i < flows → (state_in (over (area_of flows s) lent)).done i ≡ s.done i
  area_used i h l = area_place i h ∙ rw (lt-ltb i flows l)

  pub area_unused : (i : ℕ) → i < most_flows → flows ≤ i → (state_in (over (area_of flows s) lent)).done i ≡ 0
  area_unused i h l = area_place i h ∙ rw (le-ltb i flows l)

-- what is read back is abreast of what was written
pub area_abreast :
    (flows : ℕ) (s : State) (lent : List ℕ)
    → flows ≤ most_flows
    → s.slot < 2 ^ 32
    → Abreast flows (state_in (over (area_of flows s) lent)) s
area_abreast flows s lent m h =
    record {
      slot = area_slot flows s lent h;
      done = λ i l. area_used flows s lent i (omega arith) l;
    }

-- runs that are abreast are written alike
pub abreast_area : (flows : ℕ) (s u : State) → Abreast flows s u → area_of flows s ≡ area_of flows u
unfolding area_of
abreast_area flows s u a =
    ap₂ (λ (v : ℕ) (places : List ℕ). four_bytes v ++ places) a.slot (list_to_same (place_byte flows s) (place_byte flows u) most_flows same)
  where
    same : (i : ℕ) → i < most_flows → place_byte flows s i ≡ place_byte flows u i
    same i h =
        ⊎_elim (λ (e : ltb i flows ≡ true). rw e (a.done i (ltb-true i flows e))) (λ (e : ltb i flows ≡ false). rw e)
        (bool_cases (ltb i flows))
