-- Each public function's contract leaves one result, and one content of what it was lent. The contracts are those that the check
-- reads in the code, `Post`. Assumes nothing.
use Prim.Native.Nat.{ℕ}
use mathlib.Core.Path.{◌≡◌}
use mathlib.Core.List.{List}
use lib.ListN.{length}
use lib.Seq.{ext_get_or}
use Rattle.trade.specs.Run.{idle_of}
use Rattle.trade.specs.declared.clock.Slot.{Slot}
use Rattle.trade.specs.declared.state.Progress.{Progress}
use Rattle.trade.specs.declared.state.Run.{Run}
use Rattle.trade.proofs.Unique.{OneResult, one_result}
use Rattle.nodes.proofs.MaskLaws.{same_bits}
use Rattle.trade.specs.declared.node.Transmission.{Transmission}
use Rattle.plans.specs.Plan.{no_step}
use Rattle.slot.specs.States.{place_of, slot_in}
use Rattle.slot.specs.Choice.{sent_at}
use Rattle.slot.proofs.choice.chosen.Kinds as chosen_kinds
use Rattle.slot.proofs.choice.chosen.Reads as chosen
use Rattle.slot.proofs.granting.grant_all.Reads as grant_all
use Rattle.slot.proofs.release.is_released.Kinds as is_released_kinds
use Rattle.slot.proofs.release.is_released.Reads as is_released
use Rattle.slot.proofs.writer.write_grant.Reads as write_grant

-- places that are as many, and of which each says the same, are the same; so are slots, and runs
pub same_places : (ps qs : List Progress) → length ps ≡ length qs → ((i : ℕ) → place_of ps i ≡ place_of qs i) → ps ≡ qs
unfolding place_of
same_places ps qs size e = ext_get_or (idle_of 0) ps qs size (λ i h t. record { done = record { 0 = e i t } })

pub same_slots : (ps qs : List Slot) → length ps ≡ length qs → ((i : ℕ) → slot_in ps i ≡ slot_in qs i) → ps ≡ qs
unfolding slot_in
same_slots ps qs size e = ext_get_or (record { 0 = 0 }) ps qs size (λ i h t. record { 0 = e i t })

pub same_run : (r r' : Run) → r.slot.0 ≡ r'.slot.0 → length r.flows ≡ length r'.flows → ((i : ℕ) → place_of r.flows i ≡ place_of r'.flows i) → r ≡ r'
same_run r r' slot size places t = record { slot = record { 0 = slot t }; flows = same_places r.flows r'.flows size places t }

pub write_grant_unique : (κs : _) (a : _) (r r' : _) (s s' : _) → write_grant.Post κs a r s → write_grant.Post κs a r' s' → s.0.now ≡ s'.0.now
write_grant_unique κs a r r' s s' p q = one_result p q

pub is_released_unique : OneResult 0 is_released_kinds.ps is_released_kinds.r is_released.Post
is_released_unique κs a r r' s s' p q = one_result p q

same_sent : (ps qs : List Transmission) → length ps ≡ length qs → ((i : ℕ) → sent_at ps i ≡ sent_at qs i) → ps ≡ qs
unfolding sent_at
same_sent ps qs size e = ext_get_or no_step ps qs size (λ i h. e i)

pub chosen_unique : OneResult 1 chosen_kinds.ps chosen_kinds.r chosen.Post
chosen_unique κs a r r' s s' p q =
    let places = same_bits r.places r'.places (λ i. one_result (p.goes i) (q.goes i)) in
    let sent = same_sent r.sent r'.sent (one_result p.size q.size) (λ i. one_result (p.sends i) (q.sends i)) in
    λ t. record { places = places t; sent = sent t }

pub grant_all_unique :
    (κs : _) (a : _) (r r' : _) (s s' : _)
    → grant_all.Post κs a r s
    → grant_all.Post κs a r' s'
    → (r ≡ r') × (s.1.1.1.1.0.now ≡ s'.1.1.1.1.0.now)
grant_all_unique κs a r r' s s' p q = (
  λ t.
      record {
        run = same_run r.run r'.run (one_result p.slot q.slot) (one_result p.size q.size) (λ i. one_result (p.places i) (q.places i)) t;
        count = one_result p.count q.count t;
      },
  one_result p.grants q.grants,
)
