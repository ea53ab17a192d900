-- `why::told::told_in` tests the run that it read, then the place, and tells of the run after its releases. Assumes nothing.
use mathlib.Core.Path.{◌≡◌, sym, ◌∙◌, ap}
use Rattle.trade.specs.Facts.{Facts, facts_in, facts_of}
use Rattle.std.proofs.lemmas.Result.{err_from_is_err_and}
use Rattle.trade.specs.Refusals.{answer_of, tested}
use Rattle.trade.specs.declared.answer.Answer.{Answer}
use Rattle.trade.proofs.Refusals.{refuses}
use Rattle.slot.specs.States.{slot_in}
use Rattle.run.specs.Calls.{slot_answer}
use Rattle.run.proofs.RunSlotLaws.{read_answer}
use Rattle.why.proofs.WhyLaws.{told_is, slot_refused, place_refused, place_told}
use Rattle.why.proofs.told.told_in.Goals as goal
use Rattle.why.proofs.told.told_in.Goals.{In_ok-due, Start}

-- what the sections say
abbrev facts : Start → Facts
facts s = facts_in 0 s.args.parts.flows s.args.parts.rows.now s.args.parts.records.now s.args.parts.steps.now

pub due_in-due-requires : goal.due_in-due-requires
due_in-due-requires c =
    let formed = c.args.parts.formed in
    (formed.recorded, λ i h. (formed.fields i h).period.0, formed.most, c.read_run.ensures.size)

-- the run that was read is answered as the area's
pub returns-in_err-due : goal.returns-in_err-due
returns-in_err-due c =
    let a = c.args in
    let refusal = c.in_err-due.field-0.0 in
    let (e, is, same) = err_from_is_err_and c.from_residual.result c.from_residual.ensures.1 in
    rw (is, same)
    (slot_refused (facts (goal.at.returns-in_err-due c).Start) a.area.now a.place (answer_of refusal)
    (ap tested (sym (c.in_err-due.was)) ∙ c.due_in-due.ensures.answer
    ∙ read_answer a.parts.flows a.parts.rows.now a.parts.records.now a.parts.steps.now a.area.now c.args.parts.formed.most c.read_run.result c.read_run.ensures) (refuses refusal))

-- and passes
passed : (c : In_ok-due) → (slot_answer (facts_in 0 c.args.parts.flows c.args.parts.rows.now c.args.parts.records.now c.args.parts.steps.now) c.args.area.now).code ≡ 0
passed c =
    let a = c.args in
    sym
    (ap (λ (r : Answer). r.code)
    (ap tested (sym (c.in_ok-due.was)) ∙ c.due_in-due.ensures.answer
    ∙ read_answer a.parts.flows a.parts.rows.now a.parts.records.now a.parts.steps.now a.area.now c.args.parts.formed.most c.read_run.result c.read_run.ensures))

pub returns-then-parts-place : goal.returns-then-parts-place
unfolding facts_of
returns-then-parts-place c =
    place_refused (facts (goal.at.returns-then-parts-place c).Start) c.args.area.now c.args.place (passed (goal.at.returns-then-parts-place c).In_ok-due) c.if-parts-place.true

pub returns : goal.returns
unfolding facts_of slot_in
returns c =
    let a = c.args in
    let due = c.due_in-due in
    c.told.ensures
    ∙ told_is a.parts.flows a.parts.rows.now a.parts.records.now a.parts.steps.now a.area.now c.args.parts.formed.most c.read_run.result c.read_run.ensures due.result.run due.ensures.after
    due.result.firsts due.ensures.firsts a.place c.if-parts-place.false
    ∙ place_told (facts (goal.at.returns c).Start) a.area.now a.place (passed (goal.at.returns c).In_ok-due) c.if-parts-place.false
