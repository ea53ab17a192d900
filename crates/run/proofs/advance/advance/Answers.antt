-- `run::advance::advance` tests the rules of the book and of lent memory in their order, and leaves the slot its own. Assumes nothing.
use Prim.Native.Nat.{ℕ, ◌*◌, ◌≤◌}
use mathlib.Core.Path.{◌≡◌, sym, ◌∙◌, ap, subst}
use native.Mathlib.Omega.{arith}
use lib.ListN.{length}
use Rattle.trade.specs.Limits.{grant_bytes}
use Rattle.trade.specs.Layout.{Sections}
use Rattle.trade.specs.Facts.{facts_in, facts_of, said}
use Rattle.trade.specs.Refusals.{answered, answer_of}
use Rattle.trade.specs.Calls.{read_answer}
use Rattle.trade.specs.declared.answer.Answer.{Answer}
use Rattle.trade.proofs.Refusals.{refuses, number_handed_on}
use Rattle.run.specs.Calls.{RunsSlot, Advances}
use Rattle.run.proofs.AdvanceLaws.{advance_refused, book_refused, area_short, grants_short, slot_advances}
use Rattle.run.proofs.advance.advance.Goals as goal
use Rattle.run.proofs.advance.advance.Goals.{In_ok-parts}

-- the book passed, and its flows are those of the parts
passed : (c : In_ok-parts) → (read_answer c.args.book.now).code ≡ 0
passed c = sym (ap (λ (r : Answer). r.code) c.in_ok-parts.ensures.answer)

flows : (c : In_ok-parts) → c.in_ok-parts.parts.flows ≡ (said c.args.book.now).flows
unfolding said facts_of
flows c = ap (λ (s : Sections). s.flows) c.in_ok-parts.ensures.parts

pub returns-in_err-parts : goal.returns-in_err-parts
returns-in_err-parts c =
    let a = c.args in
    let e = c.in_err-parts.field-0.0 in
    let refused = c.in_err-parts.ensures.answer in
    subst (λ (r : Answer). Advances (record { book = a.book.now; area = a.area.now; grants = a.grants.now }) r a.area.now a.grants.now)
    (sym (number_handed_on (λ n. n) c.from_residual.result e c.from_residual.ensures.1))
    (advance_refused a.book.now a.area.now a.grants.now (answer_of e)
    (book_refused a.book.now a.area.now a.grants.now (λ z. refuses e (ap (λ (r : Answer). r.code) refused ∙ z)) ∙ sym refused) (refuses e))

pub returns-then-area-lt-AREA_BYTES : goal.returns-then-area-lt-AREA_BYTES
returns-then-area-lt-AREA_BYTES c =
    let a = c.args in
    advance_refused a.book.now a.area.now a.grants.now _
    (area_short a.book.now a.area.now a.grants.now (passed (goal.at.returns-then-area-lt-AREA_BYTES c).In_ok-parts) c.if-area-lt-AREA_BYTES.true)
    (λ (z : ◌≡◌ {A = ℕ} 13 0). omega arith)

pub returns-then-grants-parts : goal.returns-then-grants-parts
returns-then-grants-parts c =
    let a = c.args in
    let p = (goal.at.returns-then-grants-parts c).In_ok-parts in
    advance_refused a.book.now a.area.now a.grants.now _
    (grants_short a.book.now a.area.now a.grants.now (passed p) c.if-area-lt-AREA_BYTES.false (rw (← flows p) c.if-grants-parts.true))
    (λ (z : ◌≡◌ {A = ℕ} 13 0). omega arith)

pub returns : goal.returns
returns c =
    let a = c.args in
    let p = (goal.at.returns c).In_ok-parts in
    let lent : grant_bytes * (said a.book.now).flows ≤ length a.grants.now = rw (← flows p) c.if-grants-parts.false in
    slot_advances a.book.now a.area.now a.grants.now (passed p) c.if-area-lt-AREA_BYTES.false lent (answered (λ n. n) c.run_slot.result) _ _
    (subst (λ (s : Sections). RunsSlot (facts_in 0 s.flows s.rows s.records s.steps) a.area.now a.grants.now (answered (λ n. n) c.run_slot.result) c.run_slot.new.area c.run_slot.new.grants)
    c.in_ok-parts.ensures.parts c.run_slot.ensures)
