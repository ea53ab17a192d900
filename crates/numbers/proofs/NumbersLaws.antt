-- Words read out of a part of a slice. Leans on nothing. Assumes nothing.
use Prim.Native.Nat.{ℕ, ◌+◌, ◌-◌}
use mathlib.Core.Path.{◌≡◌}
use mathlib.Core.List.{List}
use native.Mathlib.Nat.{add_assoc}
use native.Mathlib.Omega.{arith}
use lib.ListN.{length, take, drop, length-drop}
use lib.Seq.{get_or-drop, take_all}
use Rattle.trade.specs.Bytes.{word}

-- a part that goes to the end of its slice
pub part_tail : (at : ℕ) (l : List ℕ) → take (length l - at) (drop at l) ≡ drop at l
part_tail at l = take_all (length l - at) (drop at l) (omega (arith, length-drop at l))

pub word_drop : (l : List ℕ) (a b : ℕ) → word (drop a l) b ≡ word l (a + b)
unfolding word
word_drop l a b = rw (get_or-drop a l b 0, get_or-drop a l (b + 1) 0, add_assoc a b 1)
