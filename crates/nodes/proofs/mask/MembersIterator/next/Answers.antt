-- `next` of `nodes::mask::Members` takes the lowest node out of the set. Assumes nothing.
use native.Mathlib.Omega.{arith}
use Rattle.nodes.proofs.LowestLaws.{trailing_lowest}
use Rattle.nodes.proofs.mask.MembersIterator.next.Goals as goal

pub returns-clause-steps : goal.returns-clause-steps
returns-clause-steps c =
    let low = trailing_lowest 64 c.args.self.now.0 (omega arith) (omega arith) in
    record { numbered = low.0; held = low.1.set; below = low.1.below; left = low.1.cleared }
