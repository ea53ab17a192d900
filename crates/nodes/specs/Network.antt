-- Which nodes and transmissions rows may be asked about. Leans on the trade's Limits.
use Rattle.std.specs.Prelude.{ℕ, ◌+◌, ◌*◌, ◌≤◌, ◌<◌, ◌≡◌, List, length}
use Rattle.trade.specs.Limits.{most_nodes, row_bytes}
use Rattle.trade.specs.declared.node.Node.{Node}
use Rattle.trade.specs.declared.node.Transmission.{Transmission}

-- a node of the network that the rows speak of: it has a bit in each row, and a row among them
pub record InNetwork (rows : List ℕ) (x : Node) : Type 0 where
  pub numbered : x.0 < most_nodes
  pub row : row_bytes * x.0 + row_bytes ≤ length rows

-- a transmission from one node of the network to another
pub record Within (rows : List ℕ) (t : Transmission) : Type 0 where
  pub sender : InNetwork rows t.sender
  pub receiver : InNetwork rows t.receiver
  pub apart : t.sender.0 ≡ t.receiver.0 → ⊥
