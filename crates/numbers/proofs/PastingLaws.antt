-- Bytes put into a part of a buffer, and several put one behind the other. Leans on Words. Assumes nothing.
use Prim.Native.Nat.{ℕ, zero, suc, ◌+◌, ◌-◌, ◌≤◌}
use mathlib.Core.Path.{◌≡◌, sym, ◌∙◌, ap, ap₂}
use mathlib.Core.List.{List, ◌++◌, append_assoc, append-nil}
use native.Mathlib.Nat.{zero-add}
use native.Mathlib.Omega.{arith}
use lib.ListN.{length, take, drop, length-append, replicate, drop_of_length-le}
use lib.Seq.{take-length, drop-drop, take-append_seam, drop-append-add}
use borrow.Rule.Slice.PartMut.{put_mid, Post-is}
use Rattle.trade.specs.Bytes.{over, padded}
use Rattle.numbers.specs.Pasting.{pasted_at}
use Rattle.numbers.proofs.NumbersLaws.{part_tail}

-- a copy into the part that starts at a place
pub pasted :
    (at : ℕ) (src d : List ℕ)
    → at + length src ≤ length d
    → put_mid at (length d - at) d (take (length src) src ++ drop (length src) (take (length d - at) (drop at d))) ≡ pasted_at at src d
unfolding pasted_at
pasted at src d h =
    rw (
      Post-is at (length d) d (omega arith),
      drop_of_length-le d {i = length d} (omega arith),
      part_tail at d,
      take-length src,
      drop-drop (length src) at d,
      append-nil (src ++ drop (at + length src) d),
    )
    (sym (append_assoc (take at d) src (drop (at + length src) d)))

-- what is put behind a list that stands at the front of the buffer
-- the same where the part ends with the bytes
pub pasted_whole : (at : ℕ) (src d : List ℕ) → put_mid at (at + length src - at) d src ≡ pasted_at at src d
unfolding pasted_at
pasted_whole at src d =
    rw (Post-is at (at + length src) d (omega arith)) (sym (append_assoc (take at d) src (drop (at + length src) d)))

pub pasted_next : (front src d : List ℕ) → pasted_at (length front) src (over front d) ≡ over (front ++ src) d
unfolding pasted_at over
pasted_next front src d =
    rw (
      take-append_seam front (drop (length front) d),
      drop-append-add front (drop (length front) d) (length src),
      drop-drop (length src) (length front) d,
      length-append front src,
    )

pub pasted_behind :
    (at : ℕ) (front src d e : List ℕ) → length front ≡ at → e ≡ over front d → pasted_at at src e ≡ over (front ++ src) d
pasted_behind at front src d e n p = ap₂ (λ (k : ℕ) (x : List ℕ). pasted_at k src x) (sym n) p ∙ pasted_next front src d

-- what is put at the front of the buffer
pub pasted_first : (src d : List ℕ) → pasted_at 0 src d ≡ over src d
unfolding pasted_at over
pasted_first src d = ap (λ (k : ℕ). src ++ drop k d) (zero-add (length src))

-- a copy over zeros leaves zeros behind it
zeros : (m n : ℕ) → m ≡ n → ◌≡◌ {A = List ℕ} (replicate m 0) (replicate n 0)
zeros m n e = ap (λ (k : ℕ). replicate k 0) e

drop_zeros : (n room : ℕ) → ◌≡◌ {A = List ℕ} (drop n (replicate room 0)) (replicate (room - n) 0)
drop_zeros zero room = zeros room (room - 0) (omega arith)
drop_zeros (suc n) zero = zeros 0 (0 - suc n) (omega arith)
drop_zeros (suc n) (suc room) = drop_zeros n room ∙ zeros (room - n) (suc room - suc n) (omega arith)

pub over_zeros : (room : ℕ) (bytes : List ℕ) → over bytes (replicate room 0) ≡ padded room bytes
unfolding over padded
over_zeros room bytes = rw (drop_zeros (length bytes) room)

pub copied_over_zeros : (room : ℕ) (src : List ℕ) → take (length src) src ++ drop (length src) (replicate room 0) ≡ padded room src
unfolding padded
copied_over_zeros room src = rw (take-length src, drop_zeros (length src) room)
