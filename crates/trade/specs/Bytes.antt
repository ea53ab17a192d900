-- Numbers in bytes, big-endian, and parts of a slice. Leans on nothing.
use Rattle.std.specs.Prelude.{ℕ, ◌+◌, ◌-◌, ◌*◌, ◌/◌, ◌%◌, ◌^◌, ◌<◌, Bool, List, [], ◌∷◌, ◌++◌, eqb, length, get_or, take, drop, replicate}

-- the byte at a place, 0 past the end
abbrev pub byte : List ℕ → ℕ → ℕ
byte bytes at = get_or bytes at 0

-- a list of bytes: each is below 256
abbrev pub Bytes : List ℕ → Type 0
Bytes bytes = (i : ℕ) → byte bytes i < 256

-- the two bytes from a place on, the first the higher
unfoldable pub word : List ℕ → ℕ → ℕ
word bytes at = byte bytes at * 256 + byte bytes (at + 1)

-- the four bytes from a place on, the first the highest
unfoldable pub long : List ℕ → ℕ → ℕ
long bytes at = word bytes at * 65536 + word bytes (at + 2)

-- a number below 65,536 in two bytes
unfoldable pub two_bytes : ℕ → List ℕ
two_bytes v = v / 256 % 256 ∷ v % 256 ∷ []

-- a number below 2³² in four bytes
unfoldable pub four_bytes : ℕ → List ℕ
four_bytes v = two_bytes (v / 65536) ++ two_bytes (v % 65536)

-- bit k of a byte, the lowest being bit 0, is set
unfoldable pub bit : ℕ → ℕ → Bool
bit b k = eqb (b / 2 ^ k % 2) 1

-- the count bytes from a place on
unfoldable pub part : ℕ → ℕ → List ℕ → List ℕ
part at count bytes = take count (drop at bytes)

-- a list with zeros behind it, count places in all
unfoldable pub padded : ℕ → List ℕ → List ℕ
padded count bytes = bytes ++ replicate (count - length bytes) 0

-- a list written over the front of a lent buffer: what lies beyond it stays as lent
unfoldable pub over : List ℕ → List ℕ → List ℕ
over bytes buffer = bytes ++ drop (length bytes) buffer
