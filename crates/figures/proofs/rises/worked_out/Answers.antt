-- `figures::rises::worked_out` works the words in, the last first. The loop's invariant: each line says what is reached over the columns
-- from j on. Assumes nothing.
use Rattle.std.proofs.Common.{◌≡◌, ℕ, suc, ◌-◌, subst, arith}
use Rattle.trade.specs.Interference.{worst_path}
use Rattle.figures.specs.Rises.{Says}
use Rattle.figures.proofs.RisesLaws.{reached_in, lanes_none, lanes_more, lanes_low, lanes_reached}
use Rattle.figures.proofs.rises.worked_out.Goals as goal

pub loop-j-init : goal.loop-j-init
loop-j-init c =
    let count : ℕ = c.args.count in
    let none : count - count ≡ 0 = omega arith in
    λ n lanes M f e m. rw none (lanes_none n lanes M c.args.ends count e)

pub loop-j-preserved : goal.loop-j-preserved
loop-j-preserved c =
    let a = c.args in
    let loop = c.loop-j in
    let j : ℕ = loop.j - 1 in
    let k : ℕ = a.count - loop.j in
    let now : loop.j ≡ suc j = omega arith in
    let more : a.count - j ≡ suc k = omega arith in
    λ n lanes M f e m.
    rw more
    (lanes_more n lanes M j k _ c.worked-line.result (λ lane b h l. m.at lane j b h (omega arith) l)
    (c.worked-line.ensures n lanes (reached_in n lanes M (suc j) k) f (lanes_low n lanes M (suc j) k (omega (arith, c.requires.1)))
    (m.ends j (omega arith)) (subst (λ (i : ℕ). Says n lanes loop.line (reached_in n lanes M i k)) now (loop.invariant n lanes M f e m))))

pub returns : goal.returns
unfolding worst_path
returns c n lanes M f e m =
    let a = c.args in
    let loop = c.loop-j in
    let none : loop.j ≡ 0 = omega arith in
    let all : a.count - 0 ≡ a.count = omega arith in
    lanes_reached n lanes M 0 a.count loop.line (rw (none, all) at (loop.invariant n lanes M f e m))
