-- `bounds::rising::least_needed` meets its contract: the sum is that of the figures of the flows above. Assumes nothing.
use Rattle.std.proofs.Common.{◌≡◌, ℕ, zero, suc, ◌+◌, ◌*◌, ◌≤◌, List, length, get_or, take, refl, ap, ◌∙◌, arith}
use Rattle.std.specs.List.{sum}
use Rattle.std.proofs.lemmas.List.Sums.{sum_by_more}
use Rattle.std.proofs.lemmas.Iterator.{YieldsList-from_slice}
use Rattle.std.proofs.lemmas.Iterator.Consumers.{sum_from_yields_List, fits_from_yields_list}
use Rattle.trade.specs.First.{sum_to}
use Rattle.trade.proofs.Sums.{sum_most}
use Rattle.bounds.specs.Terms.{least_in}
use Rattle.bounds.proofs.rising.least_needed.Goals as goal
use Rattle.bounds.proofs.rising.least_needed.Goals.{After-sum, Start}

-- the sum of the first figures
sum_first : (xs : List ℕ) (k : ℕ) → k ≤ length xs → sum (take k xs) ≡ sum_to (λ h. get_or xs h 0) k
unfolding sum_to
sum_first xs zero h = refl
sum_first xs (suc k) h =
    let on : suc k ≡ k + 1 = omega arith in
    ap (λ (n : ℕ). sum (take n xs)) on
    ∙ sum_by_more (λ (x : ℕ). x) xs k 0 (omega arith)
    ∙ ap (λ (s : ℕ). s + get_or xs k 0) (sum_first xs k (omega arith))

-- it is small
small : (c : Start) → sum (take c.args.above c.args.figures.now) ≤ 255 * 32
small c =
    let figures : List ℕ = c.args.figures.now in
    omega (arith, sum_first figures c.args.above (omega (arith, c.requires.0, c.told-figures)), sum_most (λ h. get_or figures h 0) 255 c.args.above c.requires.2, c.requires.0)

pub sum-requires-clause-fits : goal.sum-requires-clause-fits
sum-requires-clause-fits c =
    fits_from_yields_list c.iter.result _ (YieldsList-from_slice (take c.args.above c.args.figures.now) cc)
    (omega (arith, small (goal.at.sum-requires-clause-fits c).Start))

-- what is summed
is_sum : (c : After-sum) → c.sum.result ≡ sum (take c.args.above c.args.figures.now)
is_sum c = sum_from_yields_List c.iter.result _ c.sum.ensures.ran (YieldsList-from_slice (take c.args.above c.args.figures.now) cc)

pub overflow_add-result : goal.overflow_add-result
overflow_add-result c = omega (arith, is_sum c, small (goal.at.overflow_add-result c).Start, c.requires.1)

pub returns : goal.returns
unfolding least_in
returns c =
    let a = c.args in
    ap (λ (s : ℕ). a.len + s) (is_sum c ∙ sum_first a.figures.now a.above (omega (arith, c.requires.0, c.told-figures)))
