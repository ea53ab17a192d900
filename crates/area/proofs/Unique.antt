-- Each public function's contract leaves one result, and one content of what it was lent. The contracts are those that the check
-- reads in the code, `Post`. Assumes nothing.
use Prim.Native.Nat.{ℕ, ◌≤◌, ◌<◌}
use mathlib.Core.Path.{◌≡◌, sym, ◌∙◌, ap}
use mathlib.Core.Logic.{⊎_elim}
use native.Mathlib.Omega.{arith}
use lib.ListN.{get_or-eq_default}
use Rattle.trade.specs.Limits.{most_flows}
use Rattle.trade.specs.Facts.{Facts}
use Rattle.trade.specs.Run.{idle_of}
use Rattle.trade.specs.declared.clock.Slot.{Slot}
use Rattle.trade.specs.declared.state.Progress.{Progress}
use Rattle.trade.specs.declared.state.Run.{Run}
use Rattle.trade.proofs.First.{lt_or_ge}
use Rattle.trade.proofs.Refusals.{one_test}
use Rattle.trade.proofs.Unique.{OneResult, one_result}
use mathlib.Core.List.{List}
use Rattle.slot.specs.States.{place_of}
use Rattle.slot.proofs.Unique.{same_slots, same_run}
use Rattle.area.specs.Dues.{FirstReleases, AfterReleases}
use Rattle.area.proofs.area.read_run.Kinds as read_run_kinds
use Rattle.area.proofs.area.read_run.Reads as read_run
use Rattle.area.proofs.area.write_run.Reads as write_run
use Rattle.area.proofs.due.due_in.Kinds as due_in_kinds
use Rattle.area.proofs.due.due_in.Reads as due_in

pub read_run_unique : OneResult 1 read_run_kinds.ps read_run_kinds.r read_run.Post
unfolding place_of
read_run_unique κs a r r' s s' p q =
    same_run r r' (one_result p.slot q.slot) (one_result p.size q.size)
    (λ i. ⊎_elim (λ (h : i < most_flows). one_result (p.places i h) (q.places i h)) (λ (h : most_flows ≤ i). past i h) (lt_or_ge i most_flows))
  where
    past : (i : ℕ) → most_flows ≤ i → place_of r.flows i ≡ place_of r'.flows i
    past i h = ap (λ (x : Progress). x.done.0) (get_or-eq_default r.flows (idle_of 0) (omega (arith, p.size)) ∙ sym (get_or-eq_default r'.flows (idle_of 0) (omega (arith, q.size))))

pub write_run_unique : (κs : _) (a : _) (r r' : _) (s s' : _) → write_run.Post κs a r s → write_run.Post κs a r' s' → s.0.now ≡ s'.0.now
write_run_unique κs a r r' s s' p q = one_result p q

-- a run after its releases is one, and so are the first releases
same_after : (f : Facts) (run r r' : Run) → AfterReleases f run r → AfterReleases f run r' → r ≡ r'
same_after f run r r' p q =
    same_run r r' (one_result p.slot q.slot) (one_result p.size q.size)
    (λ i.
    ⊎_elim (λ (h : i < f.flows). one_result (p.places i h) (q.places i h)) (λ (h : f.flows ≤ i). one_result (p.others i h) (q.others i h))
    (lt_or_ge i f.flows))

same_firsts : (f : Facts) (r r' : List Slot) → FirstReleases f r → FirstReleases f r' → r ≡ r'
same_firsts f r r' p q =
    same_slots r r' (one_result p.size q.size)
    (λ i.
    ⊎_elim (λ (h : i < f.flows). one_result (p.phases i h) (q.phases i h)) (λ (h : f.flows ≤ i). one_result (p.others i h) (q.others i h))
    (lt_or_ge i f.flows))

pub due_in_unique : OneResult 1 due_in_kinds.ps due_in_kinds.r due_in.Post
due_in_unique κs a r r' s s' p q =
    let test = one_test r.test r'.test (one_result p.answer q.answer) in
    let run = same_after _ _ r.run r'.run p.after q.after in
    let firsts = same_firsts _ r.firsts r'.firsts p.firsts q.firsts in
    λ t. record { test = test t; run = run t; firsts = firsts t }
