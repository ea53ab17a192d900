-- `run::start::start` meets its contract: the rules of check and then 13 are tested, and where all pass every flow is idle. Assumes nothing.
use Prim.Native.Nat.{ℕ}
use mathlib.Core.Path.{◌≡◌, sym, ◌∙◌, ap, subst}
use mathlib.Core.List.{List}
use Rattle.std.specs.Prelude.{Result}
use native.Mathlib.Omega.{arith}
use Rattle.trade.specs.Layout.{Sections}
use Rattle.trade.specs.Facts.{facts_in, facts_of, said}
use Rattle.trade.specs.Refusals.{answer_of, tested}
use Rattle.trade.specs.Calls.{read_answer, check_answer}
use Rattle.trade.specs.declared.answer.Answer.{Answer}
use Rattle.trade.specs.declared.refusal.Refusal.{Refusal}
use Rattle.trade.proofs.Refusals.{refuses, handed_on}
use Rattle.bounds.specs.Bounds.{bounded_in, bounded_by}
use Rattle.bounds.specs.declared.bounds.Checked.{Checked}
use Rattle.bounds.proofs.CheckLaws.{check_refused, check_passed, said_bounded}
use Rattle.run.specs.Calls.{Starts}
use Rattle.run.specs.Idle.{Idle}
use Rattle.run.proofs.StartLaws.{start_refused, check_refuses, start_short, start_done}
use Rattle.run.proofs.start.start.Goals as goal
use Rattle.run.proofs.start.start.Goals.{In_ok-parts}

abbrev coded : Answer → ℕ
coded a = a.code

-- the book passed
passed : (c : In_ok-parts) → (read_answer c.args.book.now).code ≡ 0
passed c = sym (ap coded c.in_ok-parts.ensures.answer)

-- what the bounds come to is what check answers
checked :
    (c : In_ok-parts) (x : Checked)
    → x ≡ bounded_by (facts_in 0 c.in_ok-parts.parts.flows c.in_ok-parts.parts.rows.now c.in_ok-parts.parts.records.now c.in_ok-parts.parts.steps.now)
    → x.answer ≡ check_answer c.args.book.now
unfolding bounded_in said facts_of
checked c x e =
    let b = c.args.book.now in
    ap (λ (r : Checked). r.answer)
    (e ∙ ap (λ (s : Sections). bounded_by (facts_in 0 s.flows s.rows s.records s.steps)) c.in_ok-parts.ensures.parts ∙ said_bounded b (passed c))
    ∙ sym (check_passed b (passed c))

-- what check refuses
refused :
    (b area : List ℕ) (r : Result Unit Refusal) (e : Refusal)
    → tested r ≡ answer_of e
    → answer_of e ≡ check_answer b
    → Starts (record { book = b; area = area }) (tested r) area
refused b area r e same k =
    let n : (check_answer b).code ≡ 0 → ⊥ = λ z. refuses e (ap coded k ∙ z) in
    start_refused b area (tested r) (check_refuses b area n ∙ sym k ∙ sym same) (λ z. refuses e (sym (ap coded same) ∙ z))

pub returns-in_err-parts : goal.returns-in_err-parts
returns-in_err-parts c =
    let a = c.args in
    let e = c.in_err-parts.field-0.0 in
    let k = c.in_err-parts.ensures.answer in
    refused a.book.now a.area.now c.from_residual.result e (handed_on c.from_residual.result e c.from_residual.ensures.1)
    (k ∙ sym (check_refused a.book.now (λ z. refuses e (ap coded k ∙ z))))

pub returns-in_err-bounds_of : goal.returns-in_err-bounds_of
returns-in_err-bounds_of c =
    let a = c.args in
    let e = c.in_err-bounds_of.field-0.0 in
    refused a.book.now a.area.now c.from_residual-in_err-bounds_of.result e (handed_on c.from_residual-in_err-bounds_of.result e c.from_residual-in_err-bounds_of.ensures.1)
    (checked (goal.at.returns-in_err-bounds_of c).In_ok-parts _ c.in_err-bounds_of.ensures)

pub returns-then-area-lt-AREA_BYTES : goal.returns-then-area-lt-AREA_BYTES
returns-then-area-lt-AREA_BYTES c =
    let a = c.args in
    let accepted = sym (ap coded (checked (goal.at.returns-then-area-lt-AREA_BYTES c).In_ok-parts _ c.in_ok-bounds_of.ensures)) in
    start_refused a.book.now a.area.now _ (start_short a.book.now a.area.now accepted c.if-area-lt-AREA_BYTES.true)
    (λ (z : ◌≡◌ {A = ℕ} 13 0). omega arith)

pub returns : goal.returns
unfolding said facts_of
returns c =
    let a = c.args in
    let p = (goal.at.returns c).In_ok-parts in
    let accepted = sym (ap coded (checked p _ c.in_ok-bounds_of.ensures)) in
    rw c.write_run.ensures
    (start_done a.book.now a.area.now accepted c.if-area-lt-AREA_BYTES.false c.started.result
    (subst (λ (s : Sections). Idle s.flows s.records c.started.result) c.in_ok-parts.ensures.parts c.started.ensures))
