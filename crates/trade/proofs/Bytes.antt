-- Numbers written in bytes are read back; bytes in front of others, or behind them, are read as they stand; and a list written over a
-- buffer. Leans on nothing. Assumes nothing.
use Prim.Native.Nat.{ℕ, ◌+◌, ◌-◌, ◌^◌, ◌≤◌, ◌<◌}
use mathlib.Core.Path.{◌≡◌, refl, sym, ◌∙◌, ap}
use mathlib.Core.Logic.{⊎_elim}
use mathlib.Core.List.{List, ◌++◌}
use native.Mathlib.Omega.{arith}
use native.Mathlib.Nat.{add_assoc}
use lib.ListN.{length, take, drop, replicate, length-append, length-drop, length-replicate, get_or-replicate, get_or-append, get_or-eq_default}
use lib.Seq.{get_or-append-add, take-append_seam, drop_at}
use Rattle.trade.specs.Bytes.{byte, word, long, two_bytes, four_bytes, padded, over}
use Rattle.trade.proofs.First.{lt_or_ge}

-- in front of more bytes
pub word_front : (a b : List ℕ) (at : ℕ) → at + 1 < length a → word (a ++ b) at ≡ word a at
unfolding word
word_front a b at h = rw (get_or-append a b 0 at (omega arith), get_or-append a b 0 (at + 1) h)

pub long_front : (a b : List ℕ) (at : ℕ) → at + 3 < length a → long (a ++ b) at ≡ long a at
unfolding long
long_front a b at h = rw (word_front a b at (omega arith), word_front a b (at + 2) (omega arith))

-- behind n bytes
pub byte_behind : (a b : List ℕ) (n at : ℕ) → length a ≡ n → byte (a ++ b) (n + at) ≡ byte b at
byte_behind a b n at e = rw (← e) (get_or-append-add a b at 0)

pub word_behind : (a b : List ℕ) (n at : ℕ) → length a ≡ n → word (a ++ b) (n + at) ≡ word b at
unfolding word
word_behind a b n at e = rw (add_assoc n at 1, byte_behind a b n at e, byte_behind a b n (at + 1) e)

pub long_behind : (a b : List ℕ) (n at : ℕ) → length a ≡ n → long (a ++ b) (n + at) ≡ long b at
unfolding long
long_behind a b n at e = rw (add_assoc n at 2, word_behind a b n at e, word_behind a b n (at + 2) e)

-- what was written is read back
pub word_two_bytes : (v : ℕ) (rest : List ℕ) → v < 2 ^ 16 → word (two_bytes v ++ rest) 0 ≡ v
unfolding word two_bytes
word_two_bytes v rest h = omega arith

pub long_four_bytes : (v : ℕ) (rest : List ℕ) → v < 2 ^ 32 → long (four_bytes v ++ rest) 0 ≡ v
unfolding long four_bytes word two_bytes
long_four_bytes v rest h = omega arith

pub length_four_bytes : (v : ℕ) → length (four_bytes v) ≡ 4
unfolding four_bytes two_bytes
length_four_bytes v = refl

-- a list with zeros behind it: past its end the bytes were 0 before
byte_zeros : (count i : ℕ) → byte (replicate count 0) i ≡ 0
byte_zeros count i =
    ⊎_elim (λ (h : i < count). get_or-replicate count i 0 0 h)
    (λ (h : count ≤ i). get_or-eq_default (replicate count 0) 0 (omega (arith, length-replicate {A = ℕ} count 0)))
    (lt_or_ge i count)

pub byte_padded : (count : ℕ) (bytes : List ℕ) (i : ℕ) → byte (padded count bytes) i ≡ byte bytes i
unfolding padded
byte_padded count bytes i =
    ⊎_elim (λ (h : i < length bytes). get_or-append bytes _ 0 i h)
    (λ (h : length bytes ≤ i).
    let e : i ≡ length bytes + (i - length bytes) = omega arith in
    ap (byte (padded count bytes)) e
    ∙ get_or-append-add bytes _ (i - length bytes) 0
    ∙ byte_zeros (count - length bytes) (i - length bytes)
    ∙ sym (get_or-eq_default bytes 0 h))
    (lt_or_ge i (length bytes))

pub length_padded : (count : ℕ) (bytes : List ℕ) → length bytes ≤ count → length (padded count bytes) ≡ count
unfolding padded
length_padded count bytes h = omega (arith, length-append bytes (replicate (count - length bytes) 0), length-replicate {A = ℕ} (count - length bytes) 0)

-- a list written over the front of a buffer that it fits in
pub length_over : (bytes buffer : List ℕ) → length bytes ≤ length buffer → length (over bytes buffer) ≡ length buffer
unfolding over
length_over bytes buffer h = omega (arith, length-append bytes (drop (length bytes) buffer), length-drop (length bytes) buffer)

-- which is then its front
pub take_over : (bytes buffer : List ℕ) → take (length bytes) (over bytes buffer) ≡ bytes
unfolding over
take_over bytes buffer = take-append_seam bytes (drop (length bytes) buffer)

-- what is written over as many bytes leaves nothing of them
pub over_over : (new old buffer : List ℕ) → length new ≡ length old → over new (over old buffer) ≡ over new buffer
unfolding over
over_over new old buffer e = rw (e, drop_at old (drop (length old) buffer) (length old) refl)
