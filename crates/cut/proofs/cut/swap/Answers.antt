-- `cut::cut::swap` meets its contract: the part that is as long as the held bytes changes about with them. Assumes nothing.
use Prim.Native.Nat.{ℕ, ◌+◌, ◌-◌}
use mathlib.Core.Path.{◌≡◌, ◌∙◌, ap}
use native.Mathlib.Omega.{arith}
use lib.ListN.{length, take, drop}
use Rattle.trade.specs.Bytes.{part}
use Rattle.numbers.proofs.PastingLaws.{pasted_whole}
use Rattle.cut.proofs.cut.swap.Goals as goal

pub returns : goal.returns
unfolding part
returns c =
    let a = c.args in
    let size = length a.held.now in
    let cut : a.at + size - a.at ≡ size = omega arith in record {
      section_after = rw c.swap_with_slice.ensures.after (pasted_whole a.at a.held.now a.section.now);
      held_after = c.swap_with_slice.ensures.other_after ∙ ap (λ (n : ℕ). take n (drop a.at a.section.now)) cut;
    }
