-- `book::parts::open_book` meets its contract: the trailer decides codes 2 to 4, and the parts that it gives lie in the slice.
-- Assumes nothing.
use mathlib.Core.Path.{◌≡◌, ◌∙◌, sym, ap}
use native.Mathlib.Omega.{arith}
use lib.ListN.{length}
use Rattle.trade.specs.Layout.{trailer}
use Rattle.trade.specs.Answers.{done}
use Rattle.trade.specs.Refusals.{answer_of}
use Rattle.trade.specs.declared.answer.Answer.{Answer}
use Rattle.trade.proofs.Refusals.{refuses, handed_on}
use Rattle.book.specs.Frame.{trailer_in, trailer_answer}
use Rattle.book.proofs.PartsLaws.{trailer_read, too_short, trailer_refused, trailer_passed, in_order, lies}
use Rattle.book.proofs.OpenBookLaws.{opened_frame}
use Rattle.book.proofs.parts.open_book.Goals as goal
use Rattle.book.proofs.parts.open_book.Goals.{After-trailer_of-t, In_ok-trailer_answer}

-- the trailer that is read is the slice's
read : (c : After-trailer_of-t) → c.trailer_of-t.result ≡ trailer_in (trailer c.args.slice.now)
read c = c.trailer_of-t.ensures ∙ trailer_read c.args.slice.now

-- where it passes, it says where the parts lie
passed :
    (c : In_ok-trailer_answer)
    → c.trailer_of-t.result ≡ trailer_in (trailer c.args.slice.now)
    → (trailer_answer (trailer_in (trailer c.args.slice.now)) (length c.args.slice.now)).code ≡ 0
passed c e =
    let a : done 0 ≡ trailer_answer c.trailer_of-t.result (length c.args.slice.now) = c.in_ok-trailer_answer.ensures in
    sym (ap (λ (r : Answer). r.code) (rw e at a))

pub returns-then-slice-lt-TRAILER_BYTES-clause-answer : goal.returns-then-slice-lt-TRAILER_BYTES-clause-answer
returns-then-slice-lt-TRAILER_BYTES-clause-answer c = sym (too_short c.args.slice.now c.if-slice-lt-TRAILER_BYTES.true)

pub returns-in_err-trailer_answer-clause-answer : goal.returns-in_err-trailer_answer-clause-answer
returns-in_err-trailer_answer-clause-answer c =
    let slice = c.args.slice.now in
    let e = c.in_err-trailer_answer.field-0.0 in
    let a : answer_of e ≡ trailer_answer (trailer_in (trailer slice)) (length slice) =
    rw (read (goal.at.returns-in_err-trailer_answer-clause-answer c).After-trailer_of-t) at c.in_err-trailer_answer.ensures in
    handed_on c.from_residual.result e c.from_residual.ensures.1
    ∙ a
    ∙ sym (trailer_refused slice (omega arith) (λ z. refuses e (ap (λ (r : Answer). r.code) a ∙ z)))

pub frame_by-requires : goal.frame_by-requires
frame_by-requires c =
    let p = goal.at.frame_by-requires c in
    let t = in_order _ _ (passed p.In_ok-trailer_answer (read p.After-trailer_of-t)) in
    rw (read p.After-trailer_of-t) (omega arith, t.within, omega arith, omega arith)

pub sections_answer-requires : goal.sections_answer-requires
sections_answer-requires c =
    let p = goal.at.sections_answer-requires c in
    rw (c.frame_by.ensures, read p.After-trailer_of-t)
    (lies c.args.slice.now (omega arith) (in_order _ _ (passed p.In_ok-trailer_answer (read p.After-trailer_of-t))))

pub returns-clause-answer : goal.returns-clause-answer
returns-clause-answer c =
    let p = goal.at.returns-clause-answer c in
    c.sections_answer.ensures.answer
    ∙ sym (trailer_passed c.args.slice.now (omega arith) (passed p.In_ok-trailer_answer (read p.After-trailer_of-t)))

pub returns-clause-frame : goal.returns-clause-frame
returns-clause-frame c = opened_frame c.args.slice.now c.sections_answer.result (returns-clause-answer c) c.sections_answer.ensures.parts
