-- `bounds::rising::instances` meets its contract. Assumes nothing.
use Prim.Native.Nat.{ℕ, zero, suc, ◌+◌, ◌-◌, ◌*◌, ◌≤◌, ◌<◌}
use mathlib.Core.Path.{◌≡◌, ◌∙◌}
use native.Mathlib.Omega.{arith}
use Rattle.std.proofs.lemmas.Grind.{div_ceil_times}
use Rattle.trade.specs.Bound.{ceil, instances}
use Rattle.trade.proofs.Instances.{ceil_at, instances_most}
use Rattle.bounds.proofs.rising.instances.Goals as goal

pub returns-then-reach-period : goal.returns-then-reach-period
unfolding instances
returns-then-reach-period c = (ceil_at (c.args.r + c.args.carry - 1) c.args.period 0 c.requires.4 (omega arith) (omega (arith, c.requires.0, c.requires.2)), omega arith)

pub returns-then-reach-period-2 : goal.returns-then-reach-period-2
unfolding instances
returns-then-reach-period-2 c = (ceil_at (c.args.r + c.args.carry - 1) c.args.period 1 c.requires.4 (omega arith) (omega arith), omega arith)

-- a quotient rounded up is the only number so near
rounded_up : (a b d : ℕ) → 1 ≤ a → 1 ≤ b → a ≤ d * b → d * b < a + b → d ≡ ceil a b
rounded_up a b zero p q least most = absurd (omega arith)
rounded_up a b (suc n) p q least most = ceil_at a b n q least (omega arith)

pub returns : goal.returns
unfolding instances
returns c =
    let reach : ℕ = c.args.r + c.args.carry - 1 in
    let near = div_ceil_times reach c.args.period c.requires.4 in
    let is : c.div_ceil.result ≡ ceil reach c.args.period = c.div_ceil.ensures ∙ rounded_up reach c.args.period _ (omega (arith, c.requires.0, c.requires.2)) c.requires.4 near.0 near.1 in
    (is, omega (arith, is, instances_most c.args.r c.args.carry c.args.period c.requires.4))
