-- Bytes of a section moved in place. Leans on nothing.
use Rattle.std.specs.Prelude.{ℕ, List, ◌++◌, take, drop}
use lib.Seq.{slice}

-- the bytes from one place up to a second, and those from there up to a third, the other way about
unfoldable pub turned : ℕ → ℕ → ℕ → List ℕ → List ℕ
turned from middle to bytes = take from bytes ++ (slice middle to bytes ++ (slice from middle bytes ++ drop to bytes))
