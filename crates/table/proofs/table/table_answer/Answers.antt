-- `table::table::table_answer` meets its contract: each code is that of what the table says, the first refusal is the answer, and the parts
-- of a table that passes are well formed. Assumes nothing.
use mathlib.Core.Path.{◌≡◌, ◌∙◌, sym}
use mathlib.Core.Bool.{false, ◌||◌}
use native.Mathlib.Omega.{arith}
use Rattle.trade.specs.Limits.{most_nodes, most_flows}
use Rattle.trade.specs.Layout.{Sections, sections}
use Rattle.trade.specs.Codes.{outside}
use Rattle.trade.specs.Refusals.{answer_of}
use Rattle.trade.proofs.Refusals.{refuses, handed_on}
use Rattle.sections.proofs.FormedLaws.{formed_when}
use Rattle.table.proofs.TableLaws.{few_nodes, few_flows, plans_fit, refused_three, refused_five, refused_six, left_to_eight}
use Rattle.table.proofs.table.table_answer.Goals as goal
use Rattle.table.proofs.table.table_answer.Goals.{Else-is_miscounted, Start}

-- the table, whose counts are in range
abbrev given : Start → Sections
given s = sections s.args.nodes s.args.flows s.args.rows.now s.args.records.now s.args.steps.now

counted : (c : Else-is_miscounted) → (outside 1 most_nodes c.args.nodes || outside 0 most_flows c.args.flows) ≡ false
counted c = sym c.is_miscounted.ensures ∙ c.if-is_miscounted.false

pub returns-then-is_miscounted-clause-answer : goal.returns-then-is_miscounted-clause-answer
returns-then-is_miscounted-clause-answer c =
    refused_three (given (goal.at.returns-then-is_miscounted-clause-answer c).Start) (sym c.is_miscounted.ensures ∙ c.if-is_miscounted.true)

pub rows_answer-requires : goal.rows_answer-requires
rows_answer-requires c =
    let p = goal.at.rows_answer-requires c in
    let few = few_nodes (given p.Start) (counted p.Else-is_miscounted) in
    (few, omega (arith, few, c.requires.rows))

pub returns-in_err-rows_answer-clause-answer : goal.returns-in_err-rows_answer-clause-answer
returns-in_err-rows_answer-clause-answer c =
    let p = goal.at.returns-in_err-rows_answer-clause-answer c in
    let e = c.in_err-rows_answer.field-0.0 in
    handed_on c.from_residual.result e c.from_residual.ensures.1
    ∙ refused_five (given p.Start) (counted p.Else-is_miscounted) (answer_of e) (refuses e) c.in_err-rows_answer.ensures

pub records_answer-requires : goal.records_answer-requires
records_answer-requires c =
    let p = goal.at.records_answer-requires c in
    omega (arith, few_flows (given p.Start) (counted p.Else-is_miscounted), c.requires.records)

pub returns-in_err-records_answer-clause-answer : goal.returns-in_err-records_answer-clause-answer
returns-in_err-records_answer-clause-answer c =
    let p = goal.at.returns-in_err-records_answer-clause-answer c in
    let e = c.in_err-records_answer.field-0.0 in
    handed_on c.from_residual-in_err-records_answer.result e c.from_residual-in_err-records_answer.ensures.1
    ∙ refused_six (given p.Start) (counted p.Else-is_miscounted) c.in_ok-rows_answer.ensures (answer_of e) (refuses e) c.in_err-records_answer.ensures

pub steps_answer-requires : goal.steps_answer-requires
steps_answer-requires c =
    let p = goal.at.steps_answer-requires c in
    let few = few_flows (given p.Start) (counted p.Else-is_miscounted) in
    record {
      flows_le_most_flows = (few, omega (arith, few, c.requires.records));
      flows_in_bounds = plans_fit (given p.Start) (counted p.Else-is_miscounted) c.in_ok-records_answer.ensures c.requires.steps;
    }

pub returns-in_err-steps_answer-clause-answer : goal.returns-in_err-steps_answer-clause-answer
returns-in_err-steps_answer-clause-answer c =
    let p = goal.at.returns-in_err-steps_answer-clause-answer c in
    let e = c.in_err-steps_answer.field-0.0 in
    handed_on c.from_residual-in_err-steps_answer.result e c.from_residual-in_err-steps_answer.ensures.1
    ∙ c.in_err-steps_answer.ensures
    ∙ left_to_eight (given p.Start) (counted p.Else-is_miscounted) c.in_ok-rows_answer.ensures c.in_ok-records_answer.ensures

pub invariant_of-result : goal.invariant_of-result
invariant_of-result c =
    let p = goal.at.invariant_of-result c in
    let a = c.args in
    let t = given p.Start in
    let three = counted p.Else-is_miscounted in
    record {
      formed =
          formed_when a.nodes a.flows a.rows.now a.records.now a.steps.now (few_nodes t three) (few_flows t three)
          (omega (arith, few_nodes t three, c.requires.rows))
          (omega (arith, few_flows t three, c.requires.records))
          (plans_fit t three c.in_ok-records_answer.ensures c.requires.steps)
          c.in_ok-records_answer.ensures
          c.in_ok-steps_answer.ensures;
    }

pub returns-clause-answer : goal.returns-clause-answer
returns-clause-answer c =
    let p = goal.at.returns-clause-answer c in
    c.in_ok-steps_answer.ensures
    ∙ left_to_eight (given p.Start) (counted p.Else-is_miscounted) c.in_ok-rows_answer.ensures c.in_ok-records_answer.ensures
