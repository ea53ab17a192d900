-- `cut::cut::turn` meets its contract: each part is reversed, and then both together. Assumes nothing.
use native.Mathlib.Omega.{arith}
use Prim.Native.Nat.{◌-◌}
use borrow.Rule.Slice.PartMut.{put_mid}
use Rattle.cut.proofs.CutLaws.{turned_in_turn, reversed_part}
use Rattle.cut.proofs.cut.turn.Goals as goal

pub returns : goal.returns
returns c =
    let a = c.args in
    let (h, g, k) = c.requires in
    let first = put_mid a.from (a.middle - a.from) a.section.now c.reverse.new.self in
    let second = put_mid a.middle (a.to - a.middle) first c.reverse-2.new.self in
    turned_in_turn a.from a.middle a.to a.section.now first second (put_mid a.from (a.to - a.from) second c.reverse-3.new.self) h g k
    (reversed_part a.from a.middle a.section.now c.reverse.new.self h c.reverse.ensures.after)
    (reversed_part a.middle a.to first c.reverse-2.new.self g c.reverse-2.ensures.after)
    (reversed_part a.from a.to second c.reverse-3.new.self (omega (arith, h, g)) c.reverse-3.ensures.after)
