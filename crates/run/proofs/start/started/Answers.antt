-- `run::start::started` makes one flow after another idle in the empty run. Assumes nothing.
use mathlib.Core.Path.{◌∙◌, ap}
use native.Mathlib.Omega.{arith}
use borrow.Author.Count.{below_more}
use lib.ListN.{length, length-set}
use Rattle.trade.specs.declared.state.Progress.{Progress}
use Rattle.trade.specs.declared.state.Run.{Run}
use Rattle.slot.specs.States.{place_of}
use Rattle.slot.proofs.Places.{stored, unstored, unused}
use Rattle.run.proofs.start.started.Goals as goal

pub loop-i-init : goal.loop-i-init
loop-i-init c =
    let empty = c.empty-run.ensures in (
      ap (λ (r : Run). length r.flows) empty,
      ap (λ (r : Run). r.slot.0) empty,
      λ k h. absurd (omega arith),
      λ k h. ap (λ (r : Run). place_of r.flows k) empty ∙ unused k,
    )

pub overflow_cast-len_at : goal.overflow_cast-len_at
overflow_cast-len_at c = omega (arith, c.len_at.ensures.0, (c.args.parts.formed.fields c.loop-i.i c.loop-i-test.true).len.1)

pub loop-i-preserved : goal.loop-i-preserved
loop-i-preserved c =
    let loop = c.loop-i in (
      simp length-set loop.invariant.0,
      loop.invariant.1,
      below_more _ _ (λ k h. unstored loop.run.flows loop.i k _ (λ e. omega arith) ∙ loop.invariant.2 k h)
          (stored loop.run.flows loop.i _ (omega arith) ∙ ap (λ (p : Progress). p.done.0) c.idle.ensures ∙ c.len_at.ensures.0),
      λ k h. unstored loop.run.flows loop.i k _ (λ e. omega arith) ∙ loop.invariant.3 k (omega arith),
    )

pub returns : goal.returns
returns c =
    let loop = c.loop-i in
    record {
      slot = loop.invariant.1;
      places = λ k h. loop.invariant.2 k (omega arith);
      others = λ k h. loop.invariant.3 k (omega arith);
    }
