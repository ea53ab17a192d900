-- `nodes::grants::GrantSet::with` adds the nodes of the grant and their rows. Assumes nothing.
use native.Mathlib.Omega.{arith}
use Rattle.nodes.specs.Grants.{one_more}
use Rattle.nodes.proofs.GrantsLaws.{holds_more}
use Rattle.nodes.proofs.grants.GrantSet.with.Goals as goal

pub returns : goal.returns
unfolding one_more
returns c =
    let sender = c.only.ensures in
    let receiver = c.only-2.ensures in
    let row = c.row_mask.ensures in
    let other = c.row_mask-2.ensures in
    record {
      exact = rw (sender, receiver, row, other);
      holds =
          λ us h.
          rw (sender, receiver, row, other)
          (holds_more c.args.rows.now (λ i. omega (arith, c.type_inv.rows i)) c.args.self us c.args.t c.requires h);
    }
