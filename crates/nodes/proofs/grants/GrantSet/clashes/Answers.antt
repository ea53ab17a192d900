-- `nodes::grants::GrantSet::clashes` is the tests of the definition. Assumes nothing.
use Rattle.nodes.specs.Grants.{clashes_with, Holds}
use Rattle.nodes.proofs.grants.GrantSet.clashes.Goals as goal

pub returns : goal.returns
unfolding clashes_with Holds
returns c =
    let first = c.has.ensures in
    let second = c.has-2.ensures in
    let sender = c.row_mask.ensures in
    let receiver = c.row_mask-2.ensures in
    record {
      exact = rw (first, second, sender, receiver);
      conflicts = λ us h. rw (first, second, sender, receiver) (h c.args.t c.requires);
    }
