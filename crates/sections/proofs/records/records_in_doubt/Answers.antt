-- `sections::records::records_in_doubt` meets its contract: no record before i is bad where it says so, and the lower bytes of their ids are
-- marked. Assumes nothing.
use Prim.Native.Nat.{◌%◌}
use mathlib.Core.Path.{refl, ◌∙◌, sym}
use mathlib.Core.Bool.{true}
use mathlib.Core.List.{[]}
use borrow.Author.Count.{below_more}
use native.Mathlib.Omega.{arith}
use lib.ListN.{length-set}
use Rattle.trade.specs.Facts.{facts_in, facts_of}
use Rattle.trade.specs.Codes.{bad_record, code6}
use Rattle.trade.proofs.First.{or_false}
use Rattle.trade.proofs.Answers.{given_first_none}
use Rattle.sections.proofs.RecordsLaws.{unmet, mark_more}
use Rattle.sections.proofs.records.records_in_doubt.Goals as goal

pub loop-i-init : goal.loop-i-init
loop-i-init c = (λ e k h. absurd (omega arith), λ k h. absurd (omega arith), refl)

pub is_bad_record-bad-requires : goal.is_bad_record-bad-requires
is_bad_record-bad-requires c =
    let loop = c.loop-i in
    let records = c.args.records.now in record {
      record_bytes_in_bounds = omega arith;
      i_value = λ e. unmet loop.met records loop.i loop.invariant.1 (rw c.id_at.ensures at e);
    }

pub loop-i-preserved : goal.loop-i-preserved
loop-i-preserved c =
    let records = c.args.records.now in
    let loop = c.loop-i in (
      λ e.
          let none = or_false loop.bad c.is_bad_record-bad.result e in
          below_more _ _ (loop.invariant.0 none.0) (sym c.is_bad_record-bad.ensures ∙ none.1),
      rw c.id_at.ensures (mark_more loop.met records loop.i loop.invariant.2 loop.invariant.1),
      length-set loop.met (c.id_at.result % 256) true ∙ loop.invariant.2,
    )

pub returns : goal.returns
unfolding code6 facts_of bad_record
returns c =
    λ e.
    let a = c.args in
    given_first_none 6 (bad_record (facts_in 0 0 [] a.records.now [])) a.flows
    (λ k h. c.loop-i.invariant.0 e k (omega arith))
