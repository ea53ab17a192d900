-- `sections::steps::first_bad_step` meets its contract: no step before j is bad. Assumes nothing.
use mathlib.Core.Path.{◌∙◌, sym}
use borrow.Author.Count.{below_more}
use native.Mathlib.Omega.{arith}
use Rattle.trade.proofs.First.{first_unique}
use Rattle.sections.specs.Steps.{bad_in_plan}
use Rattle.sections.proofs.steps.first_bad_step.Goals as goal

pub loop-j-init : goal.loop-j-init
loop-j-init c = λ k h. absurd (omega arith)

pub returns-then-is_bad_step : goal.returns-then-is_bad_step
returns-then-is_bad_step c =
    let a = c.args in
    let j = c.loop-j.j in
    let here = first_unique (bad_in_plan a.nodes a.plan.now) a.len j (omega arith) c.loop-j.invariant (λ h. sym c.is_bad_step.ensures ∙ c.if-is_bad_step.true) in record {
      found = (omega arith, sym here);
      none = tt;
    }

pub loop-j-preserved : goal.loop-j-preserved
loop-j-preserved c = below_more _ _ c.loop-j.invariant (sym c.is_bad_step.ensures ∙ c.if-is_bad_step.false)

pub returns : goal.returns
returns c =
    let a = c.args in
    let end = first_unique (bad_in_plan a.nodes a.plan.now) a.len a.len (omega arith) (λ k h. c.loop-j.invariant k (omega arith)) (λ h. absurd (omega arith)) in record {
      found = tt;
      none = omega (arith, end);
    }
