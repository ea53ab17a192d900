-- The grants of a slot: what the set answers, and how it grows. Leans on Mask, and on the trade's Conflict.
use Rattle.std.specs.Prelude.{ℕ, ◌≡◌, Bool, ◌||◌, List, [], ◌∷◌, ◌++◌}
use Rattle.std.specs.Int.Bits.{bit_or}
use Rattle.trade.specs.Bytes.{bit}
use Rattle.trade.specs.Facts.{disturbs_in}
use Rattle.trade.specs.Conflict.{conflicts_with}
use Rattle.trade.specs.declared.node.Transmission.{Transmission}
use Rattle.nodes.specs.Network.{Within}
use Rattle.nodes.specs.Mask.{only, meets, row_mask}
use Rattle.nodes.specs.declared.grants.GrantSet.{GrantSet}

-- no grants
abbrev pub no_grants : GrantSet
no_grants = record { senders = 0; receivers = 0; disturbed = 0; answered = 0 }

-- a transmission clashes with the grants if one of its nodes sends or receives already; if its sender is disturbed by a receiver, or its
-- receiver by a sender; or if its sender disturbs a receiver, or its receiver a sender
unfoldable pub clashes_with : List ℕ → GrantSet → Transmission → Bool
clashes_with rows set t =
    bit (bit_or (bit_or set.senders set.receivers) set.answered) t.sender.0
    || bit (bit_or (bit_or set.senders set.receivers) set.disturbed) t.receiver.0
    || meets (row_mask rows t.sender.0) set.receivers
    || meets (row_mask rows t.receiver.0) set.senders

-- the grants and one more
unfoldable pub one_more : List ℕ → GrantSet → Transmission → GrantSet
one_more rows set t =
    record {
      senders = bit_or set.senders (only t.sender.0);
      receivers = bit_or set.receivers (only t.receiver.0);
      disturbed = bit_or set.disturbed (row_mask rows t.sender.0);
      answered = bit_or set.answered (row_mask rows t.receiver.0);
    }

-- THE SET HOLDS THESE GRANTS: a transmission clashes with it exactly if it conflicts with one of them. What the set keeps of them is its
-- own business
unfoldable pub Holds : List ℕ → GrantSet → List Transmission → Type 0
Holds rows set us = (t : Transmission) → Within rows t → clashes_with rows set t ≡ conflicts_with (disturbs_in rows) us t

-- what `empty` owes: there are no grants, and the set holds none
pub record Fresh (r : GrantSet) : Type 0 where
  pub exact : r ≡ no_grants
  pub holds : (rows : List ℕ) → Holds rows r []

-- what `clashes` owes: the set's test, which says whether the transmission conflicts with one of the grants that the set holds
pub record Asked (rows : List ℕ) (set : GrantSet) (t : Transmission) (r : Bool) : Type 0 where
  pub exact : r ≡ clashes_with rows set t
  pub conflicts : (us : List Transmission) → Holds rows set us → r ≡ conflicts_with (disturbs_in rows) us t

-- what `with` owes: the set holds the grants that it held, and after them the new one
pub record Grown (rows : List ℕ) (set : GrantSet) (t : Transmission) (r : GrantSet) : Type 0 where
  pub exact : r ≡ one_more rows set t
  pub holds : (us : List Transmission) → Holds rows set us → Holds rows r (us ++ (t ∷ []))
