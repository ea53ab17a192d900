-- The releases of one flow, by its first release and its period. Leans on nothing.
use Rattle.std.specs.Prelude.{ℕ, ◌-◌, ◌/◌, ◌%◌, Bool, ◌&&◌, eqb, leb}

-- an instance of a flow is released in a slot: its first release + v × P
unfoldable pub released_at : ℕ → ℕ → ℕ → Bool
released_at first period slot = leb first slot && eqb ((slot - first) % period) 0

-- the latest instance that is released by a slot
unfoldable pub instance_by : ℕ → ℕ → ℕ → ℕ
instance_by first period slot = (slot - first) / period
