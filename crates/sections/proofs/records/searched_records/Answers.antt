-- `sections::records::searched_records` meets its contract: no record before i is bad. Assumes nothing.
use mathlib.Core.Path.{refl, ◌∙◌, sym}
use mathlib.Core.List.{[]}
use borrow.Author.Count.{below_more}
use native.Mathlib.Omega.{arith}
use Rattle.trade.specs.Facts.{facts_in, facts_of}
use Rattle.trade.specs.Codes.{bad_record, code6}
use Rattle.trade.proofs.First.{not_both}
use Rattle.trade.proofs.Answers.{given_first_at, given_first_none}
use Rattle.sections.proofs.records.searched_records.Goals as goal

pub loop-i-init : goal.loop-i-init
loop-i-init c = (omega arith, λ k h. absurd (omega arith))

pub is_bad_record-requires : goal.is_bad_record-requires
is_bad_record-requires c = record {
  record_bytes_in_bounds = omega arith;
  i_value = λ e. absurd (not_both refl e);
}

pub returns-then-is_bad_record : goal.returns-then-is_bad_record
unfolding code6 facts_of bad_record
returns-then-is_bad_record c =
    let a = c.args in
    let i = c.loop-i.i in
    sym
    (given_first_at 6 (bad_record (facts_in 0 0 [] a.records.now [])) a.flows i (omega arith)
    c.loop-i.invariant.1
    (sym c.is_bad_record.ensures ∙ c.if-is_bad_record.true))

pub loop-i-preserved : goal.loop-i-preserved
loop-i-preserved c = (
  omega arith,
  below_more _ _ c.loop-i.invariant.1 (sym c.is_bad_record.ensures ∙ c.if-is_bad_record.false),
)

pub returns : goal.returns
unfolding code6 facts_of bad_record
returns c =
    let a = c.args in
    sym
    (given_first_none 6 (bad_record (facts_in 0 0 [] a.records.now [])) a.flows
    (λ k h. c.loop-i.invariant.1 k (omega arith)))
