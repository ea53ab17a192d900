-- Sets of nodes as numbers of 64 bits: node x is in the set if bit x is set. Leans on the trade's Bytes.
use Rattle.std.specs.Prelude.{ℕ, zero, suc, ◌≡◌, ◌+◌, ◌*◌, ◌^◌, ◌<◌, Bool, true, false, not, ◌&&◌, List, Option, MatchOption, eqb}
use Rattle.std.specs.Int.Bits.{bit_and}
use Rattle.trade.specs.Limits.{most_nodes, row_bytes}
use Rattle.trade.specs.Bytes.{byte, bit}
use Rattle.trade.specs.declared.node.Node.{Node}
use Rattle.nodes.specs.declared.mask.Members.{Members}

-- the set of one node
abbrev pub only : ℕ → ℕ
only x = 2 ^ x

-- two sets have a node in common
abbrev pub meets : ℕ → ℕ → Bool
meets a b = not (eqb (bit_and a b) 0)

-- the k bytes from a place on as one number, the first the lowest
unfoldable pub low_first : List ℕ → ℕ → ℕ → ℕ
low_first bytes at zero = 0
low_first bytes at (suc k) = low_first bytes (suc at) k * 2 ^ 8 + byte bytes at

-- the nodes that node x disturbs: its row
unfoldable pub row_mask : List ℕ → ℕ → ℕ
row_mask rows x = low_first rows (row_bytes * x) row_bytes

-- the lowest node of a set, and the set without it
pub record Taken (nodes x others : ℕ) : Type 0 where
  pub numbered : x < most_nodes
  pub held : bit nodes x ≡ true
  pub below : (y : ℕ) → y < x → bit nodes y ≡ false
  pub left : (y : ℕ) → bit others y ≡ (bit nodes y && not (eqb x y))

-- the members of a set are taken from the lowest on, until none is left
abbrev pub TakesLowest : Members → Option Node → Members → Type 0
TakesLowest before x after = MatchOption x ((before.0 ≡ 0) × (after.0 ≡ 0)) (λ y. Taken before.0 y.0 after.0)
