-- The columns of a plan: for each node, the steps of the plan that conflict with what it sends or receives. The steps are counted from the
-- plan's last. Leans on the trade's Conflict.
use Rattle.std.specs.Prelude.{ℕ, suc, ◌+◌, ◌-◌, ◌/◌, ◌≤◌, ◌<◌, min, ◌≡◌, Bool, false, cond, ◌&&◌, ◌||◌, List, eqb, ltb, length, get_or}
use Rattle.std.specs.Int.Bits.{bit_or}
use Rattle.trade.specs.Limits.{most_nodes, most_steps, row_bytes}
use Rattle.trade.specs.Bytes.{bit}
use Rattle.trade.specs.Facts.{disturbs_in, step_in}
use Rattle.trade.specs.Conflict.{conflict}
use Rattle.trade.specs.Interference.{Matrix}
use Rattle.trade.specs.declared.node.Transmission.{Transmission}
use Rattle.plans.specs.Plan.{steps_in}

-- the conflict matrix of two plans
abbrev pub marks_of : List ℕ → List ℕ → List ℕ → Matrix
marks_of rows l h i j = conflict (disturbs_in rows) (step_in l i) (step_in h j)

-- a mark set at every node of a set
pub record Spread (nodes mark : ℕ) (before after : List ℕ) : Type 0 where
  pub size : length after ≡ length before
  pub marked : (x : ℕ) → get_or after x 0 ≡ bit_or (get_or before x 0) (cond (bit nodes x) mark 0)
  pub others : (x : ℕ) → most_nodes ≤ x → get_or after x 0 ≡ get_or before x 0

-- the nodes that have a row
abbrev pub nodes_in : List ℕ → ℕ
nodes_in rows = min most_nodes (length rows / row_bytes)

-- step b from the end of a plan
abbrev pub from_end : List ℕ → ℕ → Transmission
from_end plan b = step_in plan (steps_in plan - suc b)

-- x is one of the nodes of a transmission
unfoldable pub ending : Transmission → ℕ → Bool
ending u x = eqb u.sender.0 x || eqb u.receiver.0 x

-- for each node, those of a set that disturb it
pub record Heard (rows : List ℕ) (nodes : ℕ) (before after : List ℕ) : Type 0 where
  pub size : length after ≡ length before
  pub bits : (y x : ℕ) → y < most_nodes → bit (get_or after y 0) x ≡ (bit nodes x && disturbs_in rows x y)
  pub others : (y : ℕ) → most_nodes ≤ y → get_or after y 0 ≡ get_or before y 0

-- a table says of a node whom it disturbs
abbrev pub Hears : List ℕ → List ℕ → ℕ → Type 0
Hears rows heard x = (y : ℕ) → y < most_nodes → bit (get_or heard y 0) x ≡ disturbs_in rows x y

-- y disturbs x, or hears it
unfoldable pub near : List ℕ → List ℕ → ℕ → ℕ → Bool
near rows heard y x = disturbs_in rows y x || bit (get_or heard y 0) x

-- what node x receives conflicts with a transmission if x is one of its nodes, or its sender disturbs x or hears it
unfoldable pub receiving : List ℕ → List ℕ → Transmission → ℕ → Bool
receiving rows heard u x = eqb u.sender.0 x || eqb u.receiver.0 x || near rows heard u.sender.0 x

-- what node x sends conflicts with it if x is one of its nodes, or its receiver disturbs x or hears it
unfoldable pub sending : List ℕ → List ℕ → Transmission → ℕ → Bool
sending rows heard u x = eqb u.sender.0 x || eqb u.receiver.0 x || near rows heard u.receiver.0 x

-- the columns of a plan, a number for each node: its lower bits are the steps that conflict with what the node receives, the others those
-- that conflict with what it sends; each by its test, of the last k steps
pub record ColumnsBy (receives sends : Transmission → ℕ → Bool) (plan : List ℕ) (k : ℕ) (columns : List ℕ) : Type 0 where
  pub received : (x b : ℕ) → x < most_nodes → b < most_steps → bit (get_or columns x 0) b ≡ (ltb b k && receives (from_end plan b) x)
  pub sent : (x b : ℕ) → x < most_nodes → bit (get_or columns x 0) (most_steps + b) ≡ (ltb b k && sends (from_end plan b) x)

abbrev pub Columns : List ℕ → List ℕ → List ℕ → ℕ → List ℕ → Type 0
Columns rows heard = ColumnsBy (receiving rows heard) (sending rows heard)

-- a transmission conflicts, by the columns, with step b from the end
unfoldable pub marked_at : List ℕ → Transmission → ℕ → Bool
marked_at columns t b = bit (get_or columns t.sender.0 0) (most_steps + b) || bit (get_or columns t.receiver.0 0) b

-- they have no mark past the first n steps from the end
abbrev pub Narrow : ℕ → List ℕ → Type 0
Narrow n columns =
    (t : Transmission) (b : ℕ) → t.sender.0 < most_nodes → t.receiver.0 < most_nodes → n ≤ b → b < most_steps → marked_at columns t b ≡ false

-- the conflict matrix that the columns of a plan of n steps say for a plan h: its rows are those steps, its last row the last of them
abbrev pub matrix_by : List ℕ → ℕ → List ℕ → Matrix
matrix_by columns n h i j = marked_at columns (step_in h j) (n - suc i)

-- one step noted in the columns, the b-th from the end
pub record Noted (rows heard : List ℕ) (u : Transmission) (b : ℕ) (before after : List ℕ) : Type 0 where
  pub size : length after ≡ length before
  pub bits :
      (x y : ℕ)
      → x < most_nodes
      → bit (get_or after x 0) y
      ≡ (bit (get_or before x 0) y || (eqb b y && receiving rows heard u x) || (eqb (most_steps + b) y && sending rows heard u x))
  pub others : (x : ℕ) → most_nodes ≤ x → get_or after x 0 ≡ get_or before x 0

-- the columns of a whole plan. What lies beyond them stays
pub record Gathered (rows heard plan before after : List ℕ) : Type 0 where
  pub size : length after ≡ length before
  pub columns : Columns rows heard plan (steps_in plan) after
  pub others : (x : ℕ) → most_nodes ≤ x → get_or after x 0 ≡ get_or before x 0
