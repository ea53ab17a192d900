-- `sections::at_once::count_off` meets its contract: it has counted the steps before k. Assumes nothing.
use Prim.Native.Nat.{ℕ, ◌/◌, ◌%◌}
use mathlib.Core.Path.{◌≡◌, refl, sym, ◌∙◌, ap}
use native.Mathlib.Omega.{arith}
use lib.Dec.{eqb}
use Rattle.trade.specs.First.{sum_to}
use Rattle.trade.specs.Facts.{step_in}
use Rattle.trade.specs.Interference.{one}
use Rattle.sections.specs.Steps.{own, off}
use Rattle.sections.proofs.AtOnceLaws.{counted, off_alone, sum_none, sum_more}
use Rattle.sections.proofs.at_once.count_off.Goals as goal

pub loop-k-init : goal.loop-k-init
unfolding own
loop-k-init c =
    let steps = c.args.steps.now in
    let f : ℕ → ℕ = λ j. one (off steps j) in
    let first = c.both_at-first.result in
    let alone : eqb (first % 256) (first / 256) ≡ own (step_in steps 0) =
    rw (c.both_at-first.ensures.0, c.both_at-first.ensures.1) refl in
    let start : c.from-count.result ≡ f 0 = c.from-count.ensures ∙ (counted _).0 ∙ ap one (alone ∙ sym (off_alone steps)) in
    (omega (arith, c.from-count.ensures, (counted (eqb (first % 256) (first / 256))).1), omega (arith, sum_more f 0, sum_none f))

pub is_off-requires : goal.is_off-requires
is_off-requires c = (omega arith, omega arith)

pub loop-k-preserved : goal.loop-k-preserved
loop-k-preserved c =
    let steps = c.args.steps.now in
    let loop = c.loop-k in
    let f : ℕ → ℕ = λ j. one (off steps j) in
    let more : c.from-count-in-loop-k.result ≡ f loop.k = c.from-count-in-loop-k.ensures ∙ (counted _).0 ∙ ap one c.is_off.ensures in
    (omega (arith, c.from-count-in-loop-k.ensures, (counted c.is_off.result).1), omega (arith, sum_more f loop.k))

pub returns : goal.returns
returns c =
    let steps = c.args.steps.now in
    c.loop-k.invariant.1 ∙ ap (sum_to (λ j. one (off steps j))) (omega arith)
