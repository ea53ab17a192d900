-- `listing::input::read_full` takes the bytes that it puts at the front of the buffer off those that are left: each read puts its own behind
-- what was read before. Assumes nothing.
use Rattle.std.proofs.Common.{◌≡◌, ℕ, ◌+◌, ◌≤◌, List, ◌++◌, length, take, rules, sym, ap, ap₂, ◌∙◌, subst, le_refl, drop_at, length-take-le}
use Rattle.std.proofs.lemmas.Slice.{take-put_mid_below}
use Rattle.std.proofs.KnownBytes.{Consumes-trans}
use Rattle.std.specs.Io.KnownBytes.{Consumes}
use borrow.Rule.Slice.PartMut.{put_mid, post_of}
use lib.Seq.{take-add, take-append-le}
use Rattle.listing.proofs.input.read_full.Goals as goal

-- what a read puts into the part behind the front stands behind the front
front-put_mid : (at k n : ℕ) (xs ys : List ℕ) → at ≤ length xs → n ≤ length ys → take (at + n) (put_mid at k xs ys) ≡ take at xs ++ take n ys
front-put_mid at k n xs ys within fits =
    let after = post_of at k xs in
    let front = take-put_mid_below at k xs ys at (le_refl at) within in
    let rest = drop_at (take at xs) (ys ++ after) at (length-take-le at xs within) in
    take-add at n (put_mid at k xs ys) ∙ ap₂ (λ f r. f ++ take n r) front rest ∙ ap (λ l. take at xs ++ l) (take-append-le n ys after fits)

pub loop-done-preserved : goal.loop-done-preserved
loop-done-preserved g c = record {
  filled = search rules;
  read = subst (Consumes _ _) (sym (front-put_mid c.loop-done.done _ c.in_ok-n.n c.loop-done.buffer c.read.new.buf c.loop-done.invariant.filled c.in_ok-n.ensures.bound.0))
      (Consumes-trans _ _ _ _ _ c.loop-done.invariant.read c.in_ok-n.ensures.bytes.0);
}
