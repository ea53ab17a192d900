-- `area::refusals::is_overrun` asks for a release and for steps left. Assumes nothing.
use mathlib.Core.Path.{ap}
use mathlib.Core.Bool.{Bool, ◌&&◌}
use lib.Dec.{ltb}
use Rattle.area.specs.Refusals.{overrun_at}
use Rattle.area.proofs.refusals.is_overrun.Goals as goal

pub returns : goal.returns
unfolding overrun_at
returns c =
    let a = c.args in
    ap (λ (b : Bool). b && ltb a.p.done.0 a.flow.len) c.is_released.ensures
