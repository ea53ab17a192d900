-- Empty programs, which the demands turn away: any program with such a call, whatever else it does, as long as it gives something for
-- whatever it is handed, be it bytes or other numbers. Leans on Demands.
use Rattle.std.specs.Prelude.{ℕ, suc, ◌*◌, ◌≤◌, ◌<◌, ◌≡◌, List, length, take}
use Rattle.trade.specs.Limits.{end_of_clock}
use Rattle.trade.specs.Bytes.{over}
use Rattle.trade.specs.Facts.{said}
use Rattle.trade.specs.Calls.{Advancing, Advanced, check_answer, flows_granted, advance_answer}
use Rattle.trade.specs.declared.clock.Slot.{Slot}
use Rattle.promise.specs.Demands.{Program, Done, Refused, Always, reported, Ran, RunBy, HasRun, Demand2, Demand3}

-- its check accepts what is to be accepted, whatever bounds it reports
abbrev pub Accepting : Program → Type 0
Accepting p = Always p.check (λ b checked. Done (check_answer b) → Done checked.answer)

-- from slot k on its runs count no grant: none at all, where k is 0; working in slot 0 alone, where it is 1
abbrev pub StopsAt : ℕ → Program → Type 0
StopsAt k p = (x : Ran) → RunBy p x → (t : Slot) → k ≤ t.0 → HasRun x t → (x.advanced t).answer.number ≡ 0

-- each breaks the demand that is named for it
pub record TurnedAway (p : Program) : Type 0 where
  -- demand 2: acceptance happens when bounds exist
  pub refusing_all : Always p.check (λ b checked. Refused checked.answer) → Demand2 p → ⊥
  -- demand 2: smallest bound, and greedy choice: one constant bound, one constant bound list, and one constant grant list, written over
  -- as much as is lent, with a constant count
  pub same_bound :
      (bound : ℕ)
      → Always p.check (λ b checked. Done checked.answer → (l : ℕ) → l < (said b).flows → reported checked l ≡ bound)
      → Demand2 p
      → ⊥
  pub same_bounds :
      (bounds : List ℕ) → Always p.check (λ b checked. Done checked.answer → checked.bounds ≡ bounds) → Demand2 p → ⊥
  pub same_grants :
      (grants : List ℕ) (count : ℕ)
      → Always p.advance
      (λ a advanced.
      Done advanced.answer
      → (advanced.answer.number ≡ count) × (advanced.grants ≡ take (length a.grants) (over grants a.grants)))
      → Demand2 p
      → ⊥
  -- demand 2: an advance that, where it is done, counts no grants; what demand 3 says of it stands below, at k = 0
  pub granting_nothing : Always p.advance (λ a advanced. Done advanced.answer → advanced.answer.number ≡ 0) → Demand2 p → ⊥
  -- demand 3, over any number of slots: one that works for some slots and then no more, while book A has an instance to come; whatever
  -- bounds its check reports
  pub stopping : Accepting p → (k : ℕ) → 10 * suc k ≤ end_of_clock → StopsAt k p → Demand3 p → ⊥
  -- such as bounds past the end of the clock, within which nothing would be owed
  pub bounds_past_the_clock :
      Accepting p
      → Always p.check (λ b checked. Done checked.answer → (l : ℕ) → l < (said b).flows → end_of_clock < reported checked l)
      → StopsAt 0 p
      → Demand3 p
      → ⊥
  -- demand 2: the count is that of the greedy set, so one that is wrong in a slot that is done is turned away; such as one more
  pub inventing_counts :
      (a : Advancing) (advanced : Advanced)
      → p.advance a advanced
      → Done (advance_answer a)
      → (advanced.answer.number ≡ length (flows_granted a) → ⊥)
      → Demand2 p
      → ⊥
  pub one_more :
      Always p.advance (λ a advanced. Done (advance_answer a) → advanced.answer.number ≡ suc (length (flows_granted a))) → Demand2 p → ⊥
