-- What it is for a contract to leave one result, and that the contract of every public function of this crate does. The contracts are
-- those that the check reads in the code, `Post`. Assumes nothing.
use Prim.Native.Nat.{ℕ}
use mathlib.Core.Path.{◌≡◌, sym, ◌∙◌}
use mathlib.Core.List.{List}
use borrow.Fn.Kinds.{ParamKind, ResultKind, Out}
use Rattle.trade.proofs.answer.Answer.done.Kinds as done_kinds
use Rattle.trade.proofs.answer.Answer.done.Reads as done
use Rattle.trade.proofs.answer.Answer.refused.Kinds as refused_kinds
use Rattle.trade.proofs.answer.Answer.refused.Reads as refused
use Rattle.trade.proofs.answer.Answer.packed.Kinds as packed_kinds
use Rattle.trade.proofs.answer.Answer.packed.Reads as packed
use Rattle.trade.proofs.told.Told.answer.Kinds as told_answer_kinds
use Rattle.trade.proofs.told.Told.answer.Reads as told_answer
use Rattle.trade.proofs.state.Progress.idle.Kinds as idle_kinds
use Rattle.trade.proofs.state.Progress.idle.Reads as idle
use Rattle.trade.proofs.state.Run.empty.Kinds as empty_kinds
use Rattle.trade.proofs.state.Run.empty.Reads as empty
use Rattle.trade.proofs.limits.all_limits.Kinds as all_limits_kinds
use Rattle.trade.proofs.limits.all_limits.Reads as all_limits
use Rattle.trade.proofs.refusal.Refusal.answer.Kinds as refusal_answer_kinds
use Rattle.trade.proofs.refusal.Refusal.answer.Reads as refusal_answer
use Rattle.trade.proofs.refusal.AnswerFromResultUnitRefusal.from.Kinds as test_kinds
use Rattle.trade.proofs.refusal.AnswerFromResultUnitRefusal.from.Reads as test
use Rattle.trade.proofs.refusal.AnswerFromResultUsizeRefusal.from.Kinds as count_kinds
use Rattle.trade.proofs.refusal.AnswerFromResultUsizeRefusal.from.Reads as count

-- of two results that meet a contract on the same arguments, over its parameters' and its result's kinds, one is the other
abbrev pub OneResult : (n : ℕ) (ps : List (ParamKind n)) (k : ResultKind n) → Out n ps k → Type 0
OneResult n ps k Post = (κs : _) (a : _) (r r' : _) (s s' : _) → Post κs a r s → Post κs a r' s' → r ≡ r'

-- an equation leaves one
pub one_result : {A : Type 0} {x r r' : A} → r ≡ x → r' ≡ x → r ≡ r'
one_result p q = p ∙ sym q

pub done_unique : OneResult 0 done_kinds.ps done_kinds.r done.Post
done_unique κs a r r' s s' p q = one_result p q

pub refused_unique : OneResult 0 refused_kinds.ps refused_kinds.r refused.Post
refused_unique κs a r r' s s' p q = one_result p q

pub packed_unique : OneResult 0 packed_kinds.ps packed_kinds.r packed.Post
packed_unique κs a r r' s s' p q = one_result p q

pub told_answer_unique : OneResult 0 told_answer_kinds.ps told_answer_kinds.r told_answer.Post
told_answer_unique κs a r r' s s' p q = one_result p q

pub idle_unique : OneResult 0 idle_kinds.ps idle_kinds.r idle.Post
idle_unique κs a r r' s s' p q = one_result p q

pub empty_unique : OneResult 0 empty_kinds.ps empty_kinds.r empty.Post
empty_unique κs a r r' s s' p q = one_result p q

pub all_limits_unique : OneResult 0 all_limits_kinds.ps all_limits_kinds.r all_limits.Post
all_limits_unique κs a r r' s s' p q = one_result p q

pub refusal_answer_unique : OneResult 0 refusal_answer_kinds.ps refusal_answer_kinds.r refusal_answer.Post
refusal_answer_unique κs a r r' s s' p q = one_result p q

pub test_from_unique : OneResult 0 test_kinds.ps test_kinds.r test.Post
test_from_unique κs a r r' s s' p q = one_result p q

pub count_from_unique : OneResult 0 count_kinds.ps count_kinds.r count.Post
count_from_unique κs a r r' s s' p q = one_result p q
