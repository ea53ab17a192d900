-- `why::told::told_by` tests the rules of the book and of the run area in their order, and leaves the slot its own. Assumes nothing.
use Prim.Native.Nat.{ℕ}
use mathlib.Core.Path.{◌≡◌, sym, ◌∙◌, ap}
use native.Mathlib.Omega.{arith}
use Rattle.std.proofs.lemmas.Result.{err_from_is_err_and}
use Rattle.trade.specs.Layout.{Sections}
use Rattle.trade.specs.Facts.{facts_in, facts_of, said}
use Rattle.trade.specs.Calls.{read_answer}
use Rattle.trade.specs.Refusals.{answer_of}
use Rattle.trade.specs.declared.answer.Answer.{Answer}
use Rattle.trade.proofs.Refusals.{refuses}
use Rattle.why.specs.Told.{told_in}
use Rattle.why.proofs.AskLaws.{ask_refused, book_refused, area_short, slot_tells, sections_tell}
use Rattle.why.proofs.told.told_by.Goals as goal
use Rattle.why.proofs.told.told_by.Goals.{In_ok-parts}

-- the book passed
passed : (c : In_ok-parts) → (read_answer c.args.book.now).code ≡ 0
passed c = sym (ap (λ (r : Answer). r.code) c.in_ok-parts.ensures.answer)

pub returns-in_err-parts : goal.returns-in_err-parts
returns-in_err-parts c =
    let a = c.args in
    let refusal = c.in_err-parts.field-0.0 in
    let refused = c.in_err-parts.ensures.answer in
    let (e, is, same) = err_from_is_err_and c.from_residual.result c.from_residual.ensures.1 in
    rw (is, same)
    (ask_refused a.book.now a.area.now a.place (answer_of refusal)
    (book_refused a.book.now a.area.now a.place (λ z. refuses refusal (ap (λ (r : Answer). r.code) refused ∙ z)) ∙ sym refused) (refuses refusal))

pub returns-then-area-lt-AREA_BYTES : goal.returns-then-area-lt-AREA_BYTES
returns-then-area-lt-AREA_BYTES c =
    let a = c.args in
    ask_refused a.book.now a.area.now a.place _
    (area_short a.book.now a.area.now a.place (passed (goal.at.returns-then-area-lt-AREA_BYTES c).In_ok-parts) c.if-area-lt-AREA_BYTES.true)
    (λ (z : ◌≡◌ {A = ℕ} 13 0). omega arith)

-- what is told over the book's sections is told of the call
pub returns : goal.returns
unfolding said facts_of
returns c =
    let a = c.args in
    let done = passed (goal.at.returns c).In_ok-parts in
    c.told_in.ensures
    ∙ ap (λ (s : Sections). told_in (facts_in 0 s.flows s.rows s.records s.steps) a.area.now a.place) c.in_ok-parts.ensures.parts
    ∙ sections_tell a.book.now a.area.now a.place done c.if-area-lt-AREA_BYTES.false
    ∙ sym (slot_tells a.book.now a.area.now a.place done c.if-area-lt-AREA_BYTES.false)
