-- `slot::granting::grant_of` names the instance and the step. Assumes nothing.
use mathlib.Core.Path.{ap}
use Rattle.trade.specs.declared.clock.Instance.{Instance}
use Rattle.slot.specs.Granting.{grant_by}
use Rattle.slot.proofs.granting.grant_of.Goals as goal

pub returns : goal.returns
unfolding grant_by
returns c =
    let a = c.args in
    ap (λ (v : Instance). record { id = a.flow.id; instance = v; step = a.done; transmission = a.step }) (λ t. record { 0 = c.instance_at.ensures t })
