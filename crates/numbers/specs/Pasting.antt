-- Bytes put into a lent buffer. Leans on nothing.
use Rattle.std.specs.Prelude.{ℕ, ◌+◌, List, ◌++◌, length, take, drop}

-- a list written over another from a place on: what lies before and beyond stays
unfoldable pub pasted_at : ℕ → List ℕ → List ℕ → List ℕ
pasted_at at bytes buffer = take at buffer ++ bytes ++ drop (at + length bytes) buffer
