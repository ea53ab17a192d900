-- `book::parts::sections_answer` meets its contract: each code is that of what the slice says, the first refusal is the answer, and the
-- parts of a book that passes are its sections, and well formed. Assumes nothing.
use Prim.Native.Nat.{◌*◌}
use mathlib.Core.Path.{◌≡◌, refl, ◌∙◌, sym, ap}
use mathlib.Core.List.{[]}
use native.Mathlib.Omega.{arith}
use lib.ListN.{length}
use Rattle.trade.specs.Limits.{step_bytes}
use Rattle.trade.specs.First.{sum_to}
use Rattle.trade.specs.Layout.{field, sections_of}
use Rattle.trade.specs.Facts.{facts_in}
use Rattle.trade.specs.Answers.{done}
use Rattle.trade.specs.Codes.{code5, code6}
use Rattle.trade.specs.Refusals.{answer_of}
use Rattle.trade.proofs.Refusals.{refuses, handed_on}
use Rattle.sections.proofs.FormedLaws.{formed_when}
use Rattle.book.proofs.PartsLaws.{length_rows, length_records, counts, refused_five, refused_six, refused_seven, left_to_eight}
use Rattle.book.proofs.parts.sections_answer.Goals as goal
use Rattle.book.proofs.parts.sections_answer.Goals.{After-steps_before-used, Else-used-room, In_ok-records_answer, In_ok-rows_answer, In_ok-steps_answer}

-- the codes of the parts are those of the sections
five : (c : In_ok-rows_answer) → done 0 ≡ code5 (facts_in c.args.f.nodes 0 (sections_of c.args.slice.now).rows [] [])
five c = rw c.rows_of-rows.ensures at c.in_ok-rows_answer.ensures

six : (c : In_ok-records_answer) → done 0 ≡ code6 (facts_in 0 c.args.f.flows [] (sections_of c.args.slice.now).records [])
six c = rw c.records_of-records.ensures at c.in_ok-records_answer.ensures

-- the sum of L against the steps' bytes
sums :
    (c : After-steps_before-used)
    → (2 * c.steps_before-used.result ≡ step_bytes * sum_to (λ i. field (sections_of c.args.slice.now).records i 4) c.args.f.flows)
sums c = rw (c.steps_before-used.ensures.0, c.records_of-records.ensures)

-- where they agree
even :
    (c : Else-used-room)
    → (2 * c.steps_before-used.result ≡ step_bytes * sum_to (λ i. field (sections_of c.args.slice.now).records i 4) c.args.f.flows)
    → step_bytes * sum_to (λ i. field (sections_of c.args.slice.now).records i 4) c.args.f.flows ≡ length (sections_of c.args.slice.now).steps
even c sum = sym sum ∙ c.if-used-room.false ∙ ap length c.steps_of-steps.ensures

pub rows_answer-requires : goal.rows_answer-requires
rows_answer-requires c =
    let a = c.args in
    let l = c.requires in
    (l.nodes, rw (c.rows_of-rows.ensures, length_rows a.slice.now a.f l) (omega arith))

pub returns-in_err-rows_answer-clause-answer : goal.returns-in_err-rows_answer-clause-answer
returns-in_err-rows_answer-clause-answer c =
    let e = c.in_err-rows_answer.field-0.0 in
    handed_on c.from_residual.result e c.from_residual.ensures.1
    ∙ refused_five c.args.slice.now c.args.f c.requires (answer_of e) (refuses e) (rw c.rows_of-rows.ensures at c.in_err-rows_answer.ensures)

pub records_answer-requires : goal.records_answer-requires
records_answer-requires c =
    let a = c.args in
    let l = c.requires in
    rw (c.records_of-records.ensures, length_records a.slice.now a.f l) (omega arith)

pub returns-in_err-records_answer-clause-answer : goal.returns-in_err-records_answer-clause-answer
returns-in_err-records_answer-clause-answer c =
    let e = c.in_err-records_answer.field-0.0 in
    handed_on c.from_residual-in_err-records_answer.result e c.from_residual-in_err-records_answer.ensures.1
    ∙ refused_six c.args.slice.now c.args.f c.requires (five (goal.at.returns-in_err-records_answer-clause-answer c).In_ok-rows_answer)
    (answer_of e) (refuses e) (rw c.records_of-records.ensures at c.in_err-records_answer.ensures)

pub steps_before-used-requires : goal.steps_before-used-requires
steps_before-used-requires c =
    let a = c.args in
    let l = c.requires in
    (l.flows, rw (c.records_of-records.ensures, length_records a.slice.now a.f l) (omega arith))

pub overflow_mul-used : goal.overflow_mul-used
overflow_mul-used c = omega (arith, c.steps_before-used.ensures.1, c.requires.flows)

pub returns-then-used-room-clause-answer : goal.returns-then-used-room-clause-answer
returns-then-used-room-clause-answer c =
    let p = goal.at.returns-then-used-room-clause-answer c in
    refused_seven c.args.slice.now c.args.f c.requires (five p.In_ok-rows_answer) (six p.In_ok-records_answer)
    (λ z. c.if-used-room.true (sums p.After-steps_before-used ∙ z ∙ ap length (sym c.steps_of-steps.ensures)))

pub steps_answer-requires : goal.steps_answer-requires
steps_answer-requires c =
    let a = c.args in
    let l = c.requires in
    let p = goal.at.steps_answer-requires c in record {
      flows_le_most_flows = (l.flows, rw (c.records_of-records.ensures, length_records a.slice.now a.f l) (omega arith));
      flows_in_bounds = rw (c.records_of-records.ensures, c.steps_of-steps.ensures, even p.Else-used-room (sums p.After-steps_before-used)) (omega arith);
    }

pub returns-in_err-steps_answer-clause-answer : goal.returns-in_err-steps_answer-clause-answer
returns-in_err-steps_answer-clause-answer c =
    let p = goal.at.returns-in_err-steps_answer-clause-answer c in
    let e = c.in_err-steps_answer.field-0.0 in
    handed_on c.from_residual-in_err-steps_answer.result e c.from_residual-in_err-steps_answer.ensures.1
    ∙ (rw (c.records_of-records.ensures, c.steps_of-steps.ensures) at c.in_err-steps_answer.ensures)
    ∙ left_to_eight c.args.slice.now c.args.f c.requires (five p.In_ok-rows_answer) (six p.In_ok-records_answer)
    (even p.Else-used-room (sums p.After-steps_before-used))

-- where codes 6 and 8 have passed the sections are well formed
pub invariant_of-result : goal.invariant_of-result
invariant_of-result c =
    let a = c.args in
    let l = c.requires in
    let records = c.records_of-records.result.now in
    record {
      formed =
          formed_when a.f.nodes a.f.flows c.rows_of-rows.result.now records c.steps_of-steps.result.now l.nodes l.flows
          (rw (c.rows_of-rows.ensures, length_rows a.slice.now a.f l) (omega arith))
          (rw (c.records_of-records.ensures, length_records a.slice.now a.f l) (omega arith))
          (let sum : c.steps_before-used.result ≡ sum_to (λ i. field records i 4) a.f.flows = c.steps_before-used.ensures.0 in omega arith)
          c.in_ok-records_answer.ensures
          c.in_ok-steps_answer.ensures;
    }

pub returns-clause-answer : goal.returns-clause-answer
returns-clause-answer c =
    let p = goal.at.returns-clause-answer c in
    (rw (c.records_of-records.ensures, c.steps_of-steps.ensures) at c.in_ok-steps_answer.ensures)
    ∙ left_to_eight c.args.slice.now c.args.f c.requires (five p.In_ok-rows_answer) (six p.In_ok-records_answer)
    (even p.Else-used-room (sums p.After-steps_before-used))

pub returns-clause-parts : goal.returns-clause-parts
returns-clause-parts c =
    let counted = counts c.args.slice.now c.args.f c.requires in
    rw (c.rows_of-rows.ensures, c.records_of-records.ensures, c.steps_of-steps.ensures, counted.0, counted.1) refl
