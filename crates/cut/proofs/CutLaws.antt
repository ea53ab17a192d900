-- Bytes of a section moved in place: parts that change about, bytes that come in among those in use and go again, and zeros behind
-- them. Leans on the trade's Exchange. Assumes nothing.
use Prim.Native.Nat.{ℕ, ◌+◌, ◌-◌, ◌≤◌}
use mathlib.Core.Path.{◌≡◌, refl, sym, ◌∙◌, ap, ap₂}
use mathlib.Core.List.{List, [], ◌++◌, append_assoc, append-nil, reverse, reverse-append, reverse-reverse}
use native.Mathlib.Omega.{arith}
use lib.ListN.{length, take, drop, replicate, length-append, length-drop, take-append-drop, drop_of_length-le, length-reverse}
use lib.Seq.{length-take-le, take-take, take-add, take_at, drop_at, slice, length-slice}
use borrow.Rule.Slice.PartMut.{mid_of, put_mid, Post-is, mid_len}
use Rattle.std.proofs.lemmas.List.{drop-take}
use Rattle.trade.specs.Bytes.{part, padded, over}
use Rattle.trade.specs.Exchange.{spliced}
use Rattle.trade.proofs.Exchange.{length_spliced}
use Rattle.numbers.specs.Pasting.{pasted_at}
use Rattle.cut.specs.Turned.{turned}

-- A LIST IN PARTS: what stands before a place, up to a second, up to a third, and behind it
two_parts : (from to : ℕ) (l : List ℕ) → from ≤ to → take to l ≡ take from l ++ slice from to l
two_parts from to l h = sym (take-append-drop from (take to l)) ∙ ap (λ (a : List ℕ). a ++ drop from (take to l)) (take-take from to l h)

in_parts :
    (from middle to : ℕ) (l : List ℕ)
    → from ≤ middle
    → middle ≤ to
    → l ≡ take from l ++ (slice from middle l ++ (slice middle to l ++ drop to l))
in_parts from middle to l h g =
    sym (take-append-drop to l)
    ∙ ap (λ (a : List ℕ). a ++ drop to l) (two_parts middle to l g ∙ ap (λ (a : List ℕ). a ++ slice middle to l) (two_parts from middle l h))
    ∙ simp append_assoc

-- one part reversed where it stands
abbrev flipped : ℕ → ℕ → List ℕ → List ℕ
flipped from to l = take from l ++ (reverse (slice from to l) ++ drop to l)

flipped_part :
    (from to : ℕ) (a p r : List ℕ)
    → length a ≡ from
    → from + length p ≡ to
    → flipped from to (a ++ (p ++ r)) ≡ a ++ (reverse p ++ r)
flipped_part from to a p r e f =
    let both : length (a ++ p) ≡ to = length-append a p ∙ ap (λ (n : ℕ). n + length p) e ∙ f in
    rw (
      take_at a (p ++ r) from e,
      ← append_assoc a p r,
      take_at (a ++ p) r to both,
      drop_at a p from e,
      drop_at (a ++ p) r to both,
    )

-- PARTS THAT CHANGE ABOUT
turned_parts :
    (from middle to : ℕ) (a p q r : List ℕ)
    → length a ≡ from
    → from + length p ≡ middle
    → middle + length q ≡ to
    → turned from middle to (a ++ (p ++ (q ++ r))) ≡ a ++ (q ++ (p ++ r))
unfolding turned
turned_parts from middle to a p q r e f g =
    let two : length (a ++ p) ≡ middle = length-append a p ∙ ap (λ (n : ℕ). n + length p) e ∙ f in
    let three : length (a ++ p ++ q) ≡ to = length-append (a ++ p) q ∙ ap (λ (n : ℕ). n + length q) two ∙ g in
    rw (
      take_at a (p ++ (q ++ r)) from e,
      ← append_assoc a p (q ++ r),
      take_at (a ++ p) (q ++ r) middle two,
      ← append_assoc (a ++ p) q r,
      take_at (a ++ p ++ q) r to three,
      drop_at (a ++ p) q middle two,
      drop_at a p from e,
      drop_at (a ++ p ++ q) r to three,
    )

-- a part that is lent and comes back reversed
pub reversed_part :
    (from to : ℕ) (l part : List ℕ)
    → from ≤ to
    → part ≡ reverse (mid_of from (to - from) l)
    → put_mid from (to - from) l part ≡ flipped from to l
reversed_part from to l part h e =
    let whole : from + (to - from) ≡ to = omega arith in
    let same : slice from to l ≡ mid_of from (to - from) l = ap (λ (n : ℕ). drop from (take n l)) (sym whole) ∙ drop-take from (to - from) l in
    rw (e, Post-is from to l h, same)

-- each part reversed, and then both together
pub turned_in_turn :
    (from middle to : ℕ) (l l₁ l₂ l₃ : List ℕ)
    → from ≤ middle
    → middle ≤ to
    → to ≤ length l
    → l₁ ≡ flipped from middle l
    → l₂ ≡ flipped middle to l₁
    → l₃ ≡ flipped from to l₂
    → l₃ ≡ turned from middle to l
unfolding turned
turned_in_turn from middle to l l₁ l₂ l₃ h g k e₁ e₂ e₃ =
    let a = take from l in
    let p = slice from middle l in
    let q = slice middle to l in
    let r = drop to l in
    let front : length a ≡ from = length-take-le from l (omega arith) in
    let size_p : length (reverse p) ≡ middle - from = length-reverse p ∙ length-slice from middle l (omega arith) in
    let size_q : length (reverse q) ≡ to - middle = length-reverse q ∙ length-slice middle to l k in
    let f₁ : l₁ ≡ a ++ reverse p ++ (q ++ r) =
    e₁
    ∙ ap (flipped from middle) (in_parts from middle to l h g)
    ∙ flipped_part from middle a p (q ++ r) front (omega (arith, length-slice from middle l (omega arith)))
    ∙ sym (append_assoc a (reverse p) (q ++ r)) in
    let f₂ : l₂ ≡ a ++ ((reverse p ++ reverse q) ++ r) =
    e₂
    ∙ ap (flipped middle to) f₁
    ∙ flipped_part middle to (a ++ reverse p) q r (omega (arith, length-append a (reverse p), front, size_p)) (omega (arith, length-slice middle to l k))
    ∙ simp append_assoc in
    e₃
    ∙ ap (flipped from to) f₂
    ∙ flipped_part from to a (reverse p ++ reverse q) r front (omega (arith, length-append (reverse p) (reverse q), size_p, size_q))
    ∙ rw (reverse-append (reverse p) (reverse q), reverse-reverse q, reverse-reverse p, append_assoc q p r)

-- bytes in use without those from one place up to another
without : (from to end : ℕ) (l : List ℕ) → from ≤ end → spliced from to [] (take end l) ≡ take from l ++ slice to end l
unfolding spliced
without from to end l h =
    ap (λ (a : List ℕ). a ++ [] ++ drop to (take end l)) (take-take from end l h)
    ∙ ap (λ (a : List ℕ). a ++ drop to (take end l)) (append-nil (take from l))

-- stand in front once these have changed about with the ones behind them
pub left_front :
    (from to end : ℕ) (l : List ℕ)
    → from ≤ to
    → to ≤ end
    → end ≤ length l
    → take (end - (to - from)) (turned from to end l) ≡ spliced from to [] (take end l)
unfolding turned
left_front from to end l h g k =
    let a = take from l in
    let t = slice to end l in
    let size : length (a ++ t) ≡ end - (to - from) =
    length-append a t ∙ omega (arith, length-take-le from l (omega arith), length-slice to end l k) in
    ap (take (end - (to - from))) (sym (append_assoc a t (slice from to l ++ drop end l)))
    ∙ take_at (a ++ t) (slice from to l ++ drop end l) (end - (to - from)) size
    ∙ sym (without from to end l (omega arith))

-- ZEROS in the part from a place on
pub zeroed :
    (end : ℕ) (l filled : List ℕ)
    → end ≤ length l
    → filled ≡ replicate (length (mid_of end (length l - end) l)) 0
    → put_mid end (length l - end) l filled ≡ padded (length l) (take end l)
unfolding padded
zeroed end l filled h e =
    rw (
      e,
      mid_len end (length l) l (omega arith),
      Post-is end (length l) l h,
      drop_of_length-le l {i = length l} (omega arith),
      append-nil {A = ℕ} (replicate (length l - end) 0),
      length-take-le end l h,
    )

-- HELD BYTES COME IN at a place of the bytes in use: what was put behind these changes about with those from the place on
module _ (at end : ℕ) (held l : List ℕ) (within : at ≤ end) (room : end + length held ≤ length l) where
  pub length_entered : length (spliced at at held (take end l)) ≡ end + length held
  length_entered =
      let used : length (take end l) ≡ end = length-take-le end l (omega arith) in
      length_spliced at at held (take end l) (omega arith) ∙ omega arith

  pub entered_in_turn : turned at end (end + length held) (pasted_at end held l) ≡ over (spliced at at held (take end l)) l
  unfolding pasted_at over spliced
  entered_in_turn =
      let a = take at l in
      let t = slice at end l in
      let r = drop (end + length held) l in
      ap (turned at end (end + length held)) (ap (λ (u : List ℕ). u ++ held ++ r) (two_parts at end l within) ∙ simp append_assoc)
      ∙ turned_parts at end (end + length held) a t held r (length-take-le at l (omega arith))
      (omega (arith, length-slice at end l (omega arith))) refl
      ∙ sym
      (ap₂ (λ (x : List ℕ) (n : ℕ). x ++ drop n l) (ap (λ (x : List ℕ). x ++ held ++ t) (take-take at end l within)) length_entered
      ∙ simp append_assoc)

  -- AND GO AGAIN: as many from the place on change about with those in use behind them, and the held ones are put over them
  abbrev gone : List ℕ
  gone = spliced at (at + length held) [] (take (end + length held) l)

  length_gone : length gone ≡ end
  length_gone =
      let used : length (take (end + length held) l) ≡ end + length held = length-take-le (end + length held) l room in
      length_spliced at (at + length held) [] (take (end + length held) l) (omega arith) ∙ omega arith

  pub left_in_turn : pasted_at end held (turned at (at + length held) (end + length held) l) ≡ over (gone ++ held) l
  unfolding pasted_at over turned
  left_in_turn =
      let a = take at l in
      let p = slice at (at + length held) l in
      let t = slice (at + length held) (end + length held) l in
      let r = drop (end + length held) l in
      let size_a : length a ≡ at = length-take-le at l (omega arith) in
      let size_p : length p ≡ length held = length-slice at (at + length held) l (omega arith) ∙ omega arith in
      let size_t : length t ≡ end - at = length-slice (at + length held) (end + length held) l room ∙ omega arith in
      let front : length (a ++ t) ≡ end = length-append a t ∙ omega arith in
      let all : length (a ++ t ++ p) ≡ end + length held = length-append (a ++ t) p ∙ omega arith in
      let seam : a ++ (t ++ (p ++ r)) ≡ a ++ t ++ (p ++ r) = sym (append_assoc a t (p ++ r)) in
      ap₂ (λ (x y : List ℕ). x ++ held ++ y) (ap (take end) seam ∙ take_at (a ++ t) (p ++ r) end front)
      (ap (drop (end + length held)) (seam ∙ sym (append_assoc (a ++ t) p r)) ∙ drop_at (a ++ t ++ p) r (end + length held) all)
      ∙ sym
      (ap₂ (λ (x : List ℕ) (n : ℕ). x ++ held ++ drop n l) (without at (at + length held) (end + length held) l (omega arith))
      (length-append gone held ∙ ap (λ (n : ℕ). n + length held) length_gone))

-- so that what came in and goes again leaves the section as it was
pub out_again :
    (at end : ℕ) (held l : List ℕ)
    → at ≤ end
    → end + length held ≤ length l
    → (s kept : List ℕ)
    → s ≡ over (spliced at at held (take end l)) l
    → kept ≡ part end (length held) l
    → over (spliced at (at + length kept) [] (take (end + length kept) s) ++ kept) s ≡ l
unfolding part over spliced
out_again at end held l within room s kept e f =
    let k = length held in
    let a = take at (take end l) in
    let t = drop at (take end l) in
    let x = a ++ held ++ t in
    let r = drop (end + k) l in
    let used : length (take end l) ≡ end = length-take-le end l (omega arith) in
    let size_a : length a ≡ at = length-take-le at (take end l) (omega arith) in
    let size_x : length x ≡ end + k = length_entered at end held l within room in
    let size_kept : length kept ≡ k = ap length f ∙ length-take-le k (drop end l) (omega (arith, length-drop end l)) in
    let first : s ≡ x ++ r = e ∙ ap (λ (n : ℕ). x ++ drop n l) size_x in
    let front : take (end + k) s ≡ x = ap (take (end + k)) first ∙ take_at x r (end + k) size_x in
    let back : drop (end + k) s ≡ r = ap (drop (end + k)) first ∙ drop_at x r (end + k) size_x in
    let old : take at x ++ [] ++ drop (at + k) x ≡ take end l =
    ap₂ (λ (u v : List ℕ). u ++ [] ++ v) (ap (take at) (append_assoc a held t) ∙ take_at a (held ++ t) at size_a)
    (drop_at (a ++ held) t (at + k) (length-append a held ∙ omega arith))
    ∙ ap (λ (u : List ℕ). u ++ t) (append-nil a)
    ∙ take-append-drop at (take end l) in
    let whole : take end l ++ kept ≡ take (end + k) l = ap (λ (u : List ℕ). take end l ++ u) f ∙ sym (take-add end k l) in
    let y : take at (take (end + length kept) s) ++ [] ++ drop (at + length kept) (take (end + length kept) s) ++ kept ≡ take (end + k) l =
    rw (size_kept, front, old) whole in
    ap (λ (u : List ℕ). u ++ drop (length u) s) y
    ∙ ap (λ (n : ℕ). take (end + k) l ++ drop n s) (length-take-le (end + k) l room)
    ∙ ap (λ (u : List ℕ). take (end + k) l ++ u) back
    ∙ take-append-drop (end + k) l

-- and the bytes that went stand behind those in use
pub went_behind :
    (at end size : ℕ) (l : List ℕ) → at ≤ end → end + size ≤ length l → part end size (turned at (at + size) (end + size) l) ≡ part at size l
unfolding part turned
went_behind at end size l h k =
    let a = take at l in
    let q = slice (at + size) (end + size) l in
    let p = slice at (at + size) l in
    let r = drop (end + size) l in
    let front : length a ≡ at = length-take-le at l (omega arith) in
    let both : length (a ++ q) ≡ end = length-append a q ∙ omega (arith, front, length-slice (at + size) (end + size) l k) in
    let went : length p ≡ size = length-slice at (at + size) l (omega arith) ∙ omega arith in
    let same : p ≡ take size (drop at l) = ap (drop at) (take-add at size l) ∙ drop_at a (take size (drop at l)) at front in
    ap (λ (b : List ℕ). take size (drop end b)) (sym (append_assoc a q (p ++ r)))
    ∙ ap (take size) (drop_at (a ++ q) (p ++ r) end both)
    ∙ take_at p r size went
    ∙ same
