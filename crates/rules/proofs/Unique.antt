-- Each public function's contract leaves one result, and one content of what it was lent. The contracts are those that the check
-- reads in the code, `Post`. Assumes nothing.
use mathlib.Core.Path.{◌≡◌, sym, ◌∙◌, ap}
use mathlib.Core.Bool.{cond}
use Prim.Native.Nat.{ℕ}
use mathlib.Core.List.{List}
use Rattle.trade.specs.Layout.{Sections}
use Rattle.trade.specs.Facts.{facts_of}
use Rattle.trade.specs.Kept.{figures_of}
use Rattle.rules.specs.Rules.{NewFigures}
use Rattle.trade.specs.Answers.{is_done}
use Rattle.trade.specs.declared.answer.Answer.{Answer}
use Rattle.trade.proofs.Unique.{OneResult, one_result}
use Rattle.trade.proofs.Refusals.{one_test}
use Rattle.rules.proofs.rules.old_answer.Kinds as old_answer_kinds
use Rattle.rules.proofs.rules.old_answer.Reads as old_answer
use Rattle.rules.proofs.rules.enter_answer.Kinds as enter_answer_kinds
use Rattle.rules.proofs.rules.enter_answer.Reads as enter_answer
use Rattle.rules.proofs.rules.leave_answer.Kinds as leave_answer_kinds
use Rattle.rules.proofs.rules.leave_answer.Reads as leave_answer
use Rattle.rules.proofs.rules.used_answer.Reads as used_answer

-- what is owed of a new table leaves one answer, and one list of figures
one_new : {t : Sections} {old : List ℕ} {r r' : Answer} {after after' : List ℕ} → NewFigures t old r after → NewFigures t old r' after' → (r ≡ r') × (after ≡ after')
one_new {t} {old} p q =
    let same = one_result p.answer q.answer in
    (same, p.figures ∙ ap (λ (x : Answer). cond (is_done x) (figures_of (facts_of t)) old) same ∙ sym q.figures)

pub old_answer_unique : OneResult 1 old_answer_kinds.ps old_answer_kinds.r old_answer.Post
old_answer_unique κs a r r' s s' p q = one_test r r' (one_result p q)

pub enter_answer_unique : OneResult 0 enter_answer_kinds.ps enter_answer_kinds.r enter_answer.Post
enter_answer_unique κs a r r' s s' p q = one_test r r' (one_result p q)

pub leave_answer_unique : OneResult 0 leave_answer_kinds.ps leave_answer_kinds.r leave_answer.Post
leave_answer_unique κs a r r' s s' p q = one_test r r' (one_result p q)

-- the answer, and the figures, which the answer decides
pub used_answer_unique :
    (κs : _) (a : _) (r r' : _) (s s' : _)
    → used_answer.Post κs a r s
    → used_answer.Post κs a r' s'
    → (r ≡ r') × (s.1.1.1.1.1.1.1.0.now ≡ s'.1.1.1.1.1.1.1.0.now)
used_answer_unique κs a r r' s s' p q = let n = one_new p q in (one_test r r' n.0, n.1)
