-- Each public function's contract leaves one result, and one content of what it was lent. The contracts are those that the check
-- reads in the code, `Post`. Assumes nothing.
use mathlib.Core.Path.{◌≡◌}
use seplogic.Ra.Ura.{Ura}
use base.Logic.{SProp, ent, sep, via, fst∗, snd∗, id⊢}
use prog.Memory.{Memory}
use prog.Routine.{Routine}
use types.Logic.{Logic}
use contract.Lifetimes.{Lfts}
use contract.Monad.{Fun, fact, fact_i, fact_mono, fact_use}
use denote.Signature.{Signature}
use denote.Triple.Clauses.{Ended, AtExit, Clauses, ensured, closing}
use denote.Triple.Entry.{Args, Res}
use denote.Triple.Spec.{Spec}
use Rattle.trade.proofs.Unique.{OneResult, one_result}
use Rattle.plans.proofs.SingleLaws.{singled_unique}
use Rattle.plans.proofs.Callee.{clause}
use Rattle.plans.proofs.steps.step_at.Kinds as step_at_kinds
use Rattle.plans.proofs.steps.step_at.Reads as step_at
use Rattle.plans.proofs.steps.step_count.Kinds as step_count_kinds
use Rattle.plans.proofs.steps.step_count.Reads as step_count
use Rattle.plans.proofs.steps.step_or_none.Kinds as step_or_none_kinds
use Rattle.plans.proofs.steps.step_or_none.Reads as step_or_none
use Rattle.plans.proofs.steps.plan_part.Reads as plan_part
use Rattle.plans.proofs.single.single.Reads as single
use Rattle.plans.specs.contracts.view.view_of as view_of
use Rattle.plans.specs.contracts.view.view_len as view_len
use Rattle.plans.specs.contracts.view.view_step as view_step
use Rattle.plans.proofs.view.plan_step.Kinds as plan_step_kinds
use Rattle.plans.proofs.view.plan_step.Reads as plan_step

pub step_at_unique : OneResult 1 step_at_kinds.ps step_at_kinds.r step_at.Post
step_at_unique κs a r r' s s' p q = one_result p q

pub step_count_unique : OneResult 1 step_count_kinds.ps step_count_kinds.r step_count.Post
step_count_unique κs a r r' s s' p q = one_result p q

pub step_or_none_unique : OneResult 1 step_or_none_kinds.ps step_or_none_kinds.r step_or_none.Post
step_or_none_unique κs a r r' s s' p q = one_result p q

-- a part is lent on: what it holds is one list
pub plan_part_unique : (κs : _) (a : _) (r r' : _) (s s' : _) → plan_part.Post κs a r s → plan_part.Post κs a r' s' → r.now ≡ r'.now
plan_part_unique κs a r r' s s' p q = one_result p q

pub single_unique : (κs : _) (a : _) (r r' : _) (s s' : _) → single.Post κs a r s → single.Post κs a r' s' → (r ≡ r') × (s.1.0.now ≡ s'.1.0.now)
single_unique κs a r r' s s' p q = (one_result p.1 q.1, singled_unique _ _ _ _ _ p.0 q.0)

pub plan_step_unique : OneResult 1 plan_step_kinds.ps plan_step_kinds.r plan_step.Post
plan_step_unique κs a r r' s s' p q = one_result p q

-- in the program logic: where a contract holds of two results of the same arguments, one is the other
abbrev pub OneAnswer : {M : Type 1} (𝓤 : Ura M) (S : Signature) → Spec 𝓤 S → Type 1
OneAnswer 𝓤 S spec =
    (κs : Lfts S.lifetimes) (a : Args S κs) (g : (spec κs a).ghost) (r r' : Res S κs)
    → ent 𝓤 (sep 𝓤 ((spec κs a).ensures g r) ((spec κs a).ensures g r')) (fact 𝓤 (r ≡ r'))

module _ {M : Type 1} {𝓤 : Ura M} (𝓛 : Logic 𝓤) where
  -- clauses that equate the result with what the arguments say leave one
  pub one_answer :
      (T : Ended) (c : Clauses 𝓤 T) (x : (κs : Lfts T.signature.lifetimes) → Args T.signature κs → Res T.signature κs)
      → ((κs : _) (a : _) (g : _) (r : _) (e : AtExit T κs) → ent 𝓤 ((c κs a).ensures g r e) (fact 𝓤 (r ≡ x κs a)))
      → OneAnswer 𝓤 T.signature (closing 𝓛 T c)
  one_answer T c x says κs a g r r' =
      let P : SProp 𝓤 = ensured 𝓛 T c κs a g r in
      let Q : SProp 𝓤 = ensured 𝓛 T c κs a g r' in
      fact_use 𝓤 (r ≡ x κs a) (via 𝓤 P (fst∗ 𝓤 P Q) (clause 𝓛 T c κs a g r (r ≡ x κs a) (says κs a g r)))
      (λ p.
      fact_use 𝓤 (r' ≡ x κs a) (via 𝓤 Q (snd∗ 𝓤 P Q) (clause 𝓛 T c κs a g r' (r' ≡ x κs a) (says κs a g r')))
      (λ q. fact_i 𝓤 (r ≡ r') (sep 𝓤 P Q) (one_result p q)))

module _ {M : Type 1} {𝓤 : Ura M} (𝓛 : Logic 𝓤) (mem : Memory → SProp 𝓤) (run : Routine → Fun 𝓤) where
  pub view_of_unique : OneAnswer 𝓤 view_of.signature (view_of.spec 𝓛 mem run)
  view_of_unique =
      one_answer 𝓛 view_of.ended (view_of.clauses 𝓛 mem run) (λ κs a. record { steps = a.0 })
      (λ κs a g r e. fact_mono 𝓤 (r.steps ≡ a.0) (r ≡ record { steps = a.0 }) (λ p i. record { steps = p i }))

  pub view_len_unique : OneAnswer 𝓤 view_len.signature (view_len.spec 𝓛 mem run)
  view_len_unique = one_answer 𝓛 view_len.ended (view_len.clauses 𝓛 mem run) _ (λ κs a g r e. id⊢ 𝓤 _)

  pub view_step_unique : OneAnswer 𝓤 view_step.signature (view_step.spec 𝓛 mem run)
  view_step_unique = one_answer 𝓛 view_step.ended (view_step.clauses 𝓛 mem run) _ (λ κs a g r e. id⊢ 𝓤 _)
