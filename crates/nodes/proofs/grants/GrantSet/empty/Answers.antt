-- `nodes::grants::GrantSet::empty` holds no grants. Assumes nothing.
use mathlib.Core.Path.{refl}
use Rattle.nodes.proofs.GrantsLaws.{holds_none}
use Rattle.nodes.proofs.grants.GrantSet.empty.Goals as goal

pub returns : goal.returns
returns c = record { exact = refl; holds = holds_none }
