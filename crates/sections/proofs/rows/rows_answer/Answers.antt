-- `sections::rows::rows_answer` meets its contract: no row before x is bad. Assumes nothing.
use mathlib.Core.Path.{◌∙◌, sym}
use mathlib.Core.List.{[]}
use borrow.Author.Count.{below_more}
use native.Mathlib.Omega.{arith}
use Rattle.trade.specs.Facts.{facts_in, facts_of}
use Rattle.trade.specs.Codes.{bad_row, code5}
use Rattle.trade.proofs.Answers.{given_first_at, given_first_none}
use Rattle.sections.proofs.rows.rows_answer.Goals as goal

pub loop-x-init : goal.loop-x-init
loop-x-init c = (omega arith, λ k h. absurd (omega arith))

pub returns-then-is_bad_row : goal.returns-then-is_bad_row
unfolding code5 facts_of
returns-then-is_bad_row c =
    let a = c.args in
    let loop = c.loop-x in
    sym
    (given_first_at 5 (bad_row (facts_in a.nodes 0 a.rows.now [] [])) a.nodes loop.x (omega arith) loop.invariant.1
    (sym c.is_bad_row.ensures ∙ c.if-is_bad_row.true))

pub loop-x-preserved : goal.loop-x-preserved
loop-x-preserved c =
    (omega arith, below_more _ _ c.loop-x.invariant.1 (sym c.is_bad_row.ensures ∙ c.if-is_bad_row.false))

pub returns : goal.returns
unfolding code5 facts_of
returns c =
    let a = c.args in
    sym
    (given_first_none 5 (bad_row (facts_in a.nodes 0 a.rows.now [] [])) a.nodes
    (λ k h. c.loop-x.invariant.1 k (omega arith)))
