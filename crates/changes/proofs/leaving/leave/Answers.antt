-- `changes::leaving::leave` meets its contract: the old table or the place refuses, or the flow goes. Assumes nothing.
use Prim.Native.Nat.{ℕ}
use mathlib.Core.Path.{◌≡◌, refl, sym, ◌∙◌, ap}
use borrow.Author.Rules.{rules}
use Rattle.std.specs.Prelude.{Result, IsErrAnd}
use Rattle.trade.specs.Kept.{KeptInMemory}
use Rattle.trade.specs.Answers.{done}
use Rattle.trade.specs.Calls.{Removing, leave_rules, without_flow, remove_answer, remove_of}
use Rattle.trade.specs.Refusals.{answer_of, tested}
use Rattle.trade.specs.declared.answer.Answer.{Answer}
use Rattle.trade.specs.declared.refusal.Refusal.{Refusal}
use Rattle.trade.proofs.Refusals.{refuses, handed_on}
use Rattle.table.specs.Table.{kept_in}
use Rattle.changes.specs.Change.{Returns}
use Rattle.rules.proofs.RulesLaws.{leaves, gives, old_decides, place_decides, leave_count}
use Rattle.changes.proofs.LeavingLaws.{leave_goes}
use Rattle.changes.proofs.leaving.leave.Goals as goal
use Rattle.changes.proofs.leaving.leave.Goals.{In_ok-leave_answer, Start}

-- what the call was handed
abbrev asked : Start → Removing
asked s = record { table = kept_in s.args.table.now; place = s.args.place }

abbrev coded : Answer → ℕ
coded a = a.code

memory : (s : Start) → KeptInMemory (asked s).table
memory s = record { sections = record { rows = search rules; records = search rules; steps = search rules }; figures = search rules }

-- what refuses
refused :
    (r : Removing) (tried : Result Unit Refusal) (e : Refusal)
    → IsErrAnd tried (λ x. x ≡ e)
    → answer_of e ≡ remove_answer r
    → Returns (remove_of r) (tested tried) r.table
unfolding remove_of
refused r tried e h k =
    let same = handed_on tried e h in
    let answered = same ∙ k in
    record { answer = answered; table = leaves _ _ _ _ answered (λ z. refuses e (sym (ap coded same) ∙ z)) }

pub returns-in_err-whole : goal.returns-in_err-whole
unfolding remove_answer
returns-in_err-whole c =
    let r = asked (goal.at.returns-in_err-whole c).Start in
    let e = c.in_err-whole.field-0.0 in
    let old = c.in_err-whole.ensures in
    refused r c.from_residual.result e c.from_residual.ensures.1
    (old ∙ sym (old_decides (λ q. q.table) leave_rules r (λ z. refuses e (ap coded old ∙ z))))

pub returns-in_err-leave_answer : goal.returns-in_err-leave_answer
unfolding remove_answer
returns-in_err-leave_answer c =
    let r = asked (goal.at.returns-in_err-leave_answer c).Start in
    let e = c.in_err-leave_answer.field-0.0 in
    refused r c.from_residual-in_err-leave_answer.result e c.from_residual-in_err-leave_answer.ensures.1
    (c.in_err-leave_answer.ensures ∙ sym (place_decides (λ q. q.table) leave_rules r (sym (ap coded c.in_ok-whole.ensures)) ∙ leave_count r))

pub flow_out-requires : goal.flow_out-requires
unfolding remove_answer
flow_out-requires c =
    let s = (goal.at.flow_out-requires c).Start in
    let r = asked s in
    leave_goes r (memory s)
    (ap coded (place_decides (λ q. q.table) leave_rules r (sym (ap coded c.in_ok-whole.ensures)) ∙ leave_count r) ∙ sym (ap coded c.in_ok-leave_answer.ensures))

pub returns : goal.returns
unfolding remove_of without_flow remove_answer
returns c =
    let r = asked (goal.at.returns c).Start in
    let e : done 0 ≡ remove_answer r =
    c.in_ok-leave_answer.ensures ∙ sym (place_decides (λ q. q.table) leave_rules r (sym (ap coded c.in_ok-whole.ensures)) ∙ leave_count r) in
    record { answer = e; table = c.flow_out.ensures ∙ gives _ _ _ _ e refl }
