-- A FLOW TAKEN OUT: of the flows that are left none needs more than before, by any measure by which no pair costs more and none is carried in
-- longer. Leans on Monotone, Fair, Moved and Exchange. Assumes nothing.
use Prim.Native.Nat.{ℕ, zero, suc, ◌+◌, ◌-◌, ◌*◌, ◌≤◌, ◌<◌}
use mathlib.Core.Path.{◌≡◌, refl}
use mathlib.Core.Logic.{⊎_elim}
use native.Mathlib.Omega.{arith}
use native.Mathlib.Nat.{add-le-add}
use borrow.Author.Tests.{lt-ltb, le-ltb}
use Rattle.trade.specs.First.{sum_to}
use Rattle.trade.specs.Layout.{Sections, field}
use Rattle.trade.specs.Facts.{Facts, facts_of}
use Rattle.trade.specs.Table.{table_of}
use Rattle.trade.specs.Interference.{interference}
use Rattle.trade.specs.Exchange.{recut, before_out}
use Rattle.trade.specs.Calls.{leaving}
use Rattle.trade.specs.Bound.{Measure, instances, slots_needed, bound_by, fairly}
use Rattle.trade.proofs.First.{lt_or_ge}
use Rattle.trade.proofs.Sums.{sum_mono, sum_le, sum_next}
use Rattle.trade.proofs.Fair.{fair_carry}
use Rattle.trade.proofs.Monotone.{bound_lower, term_mono}
use Rattle.trade.proofs.Used.{Full, no_more_facts}
use Rattle.trade.proofs.Exchange.{Fits, field_before, field_behind, recut_no_more}
use Rattle.trade.proofs.Moved.{SamePlan, interference_moved, same_disturbs, plan_before, plan_behind}

-- WHERE a flow stood: in the same order, above the place where it stands, from there on one place further
pub out_below : (place i : ℕ) → i < place → before_out place i ≡ i
unfolding before_out
out_below place i l = rw (lt-ltb i place l) refl

pub out_past : (place i : ℕ) → place ≤ i → before_out place i ≡ suc i
unfolding before_out
out_past place i l = rw (le-ltb i place l) refl

pub out_order : (place h l : ℕ) → h < l → before_out place h < before_out place l
out_order place h l p =
    ⊎_elim (λ (u : l < place). omega (arith, out_below place l u, out_below place h (omega arith)))
    (λ (u : place ≤ l).
    ⊎_elim (λ (v : h < place). omega (arith, out_past place l u, out_below place h v)) (λ (v : place ≤ h). omega (arith, out_past place l u, out_past place h v))
    (lt_or_ge h place))
    (lt_or_ge l place)

pub out_most : (place i : ℕ) → before_out place i ≤ suc i
out_most place i =
    ⊎_elim (λ (l : i < place). omega (arith, out_below place i l)) (λ (l : place ≤ i). omega (arith, out_past place i l)) (lt_or_ge i place)

-- a sum over some of the indices, in their order, is no more than the sum over all
some_of : (u : ℕ → ℕ) (place l : ℕ) → sum_to (λ h. u (before_out place h)) l ≤ sum_to u (before_out place l)
unfolding sum_to
some_of u place zero = omega arith
some_of u place (suc l) =
    omega (
      arith,
      some_of u place l,
      sum_next (λ h. u (before_out place h)) l,
      sum_next u (before_out place l),
      sum_le u (suc (before_out place l)) (before_out place (suc l)) (out_order place l (suc l) (omega arith)),
    )

-- what is left of the flows of g where the one at a place is taken out
pub record TakenOut (place : ℕ) (f g : Facts) : Type 0 where
  pub there : place < g.flows
  pub flows : g.flows ≡ suc f.flows
  pub nodes : f.nodes ≡ g.nodes
  pub disturbs : f.disturbs ≡ g.disturbs
  pub id : (i : ℕ) → i < f.flows → f.id i ≡ g.id (before_out place i)
  pub phase : (i : ℕ) → i < f.flows → f.phase i ≡ g.phase (before_out place i)
  pub period : (i : ℕ) → i < f.flows → f.period i ≡ g.period (before_out place i)
  pub deadline : (i : ℕ) → i < f.flows → f.deadline i ≡ g.deadline (before_out place i)
  pub plan : (i : ℕ) → i < f.flows → SamePlan f g i (before_out place i)

-- a flow that is left was one of them
pub was_listed : (place : ℕ) (f g : Facts) → TakenOut place f g → (i : ℕ) → i < f.flows → before_out place i < g.flows
was_listed place f g t i l = omega (arith, t.flows, out_most place i)

-- the interference of two flows that are left is what it was
pub interference_out :
    (place : ℕ) (f g : Facts)
    → TakenOut place f g
    → (l h : ℕ)
    → l < f.flows
    → h < f.flows
    → interference f l h ≡ interference g (before_out place l) (before_out place h)
interference_out place f g t l h p q = interference_moved f g t.disturbs l h (before_out place l) (before_out place h) (t.plan l p) (t.plan h q)

module _ (place : ℕ) (f g : Facts) (t : TakenOut place f g) (periods : (i : ℕ) → i < g.flows → 1 ≤ g.period i) where
  abbrev was : ℕ → ℕ
  was i = before_out place i

  -- THE BOUNDS: by any two measures, where no pair that is left costs more than it did and none is carried in longer
  module _
      (μ ν : Measure) (l : ℕ)
      (l< : l < f.flows)
      (costs : (h : ℕ) → h < l → μ.cost l h ≤ ν.cost (was l) (was h))
      (carries : (h : ℕ) → h < l → μ.carry h ≤ ν.carry (was h))
    where
      abbrev term : ℕ → ℕ → ℕ
      term R h = instances R (ν.carry h) (g.period h) * ν.cost (was l) h

      needs_less : (R : ℕ) → slots_needed f μ l R ≤ slots_needed g ν (was l) R
      unfolding slots_needed
      needs_less R =
          add-le-add (omega (arith, (t.plan l l<).len))
          (omega (
            arith,
            sum_mono (λ h. instances R (μ.carry h) (f.period h) * μ.cost l h) (λ h. term R (was h)) l
                (λ h p.
                term_mono R (μ.carry h) (ν.carry (was h)) (f.period h) (g.period (was h)) (μ.cost l h) (ν.cost (was l) (was h))
                (periods (was h) (was_listed place f g t h (omega arith))) (omega (arith, t.period h (omega arith))) (carries h p) (costs h p)),
            some_of (term R) place l,
          ))

      pub bound_out : bound_by f μ l ≤ bound_by g ν (was l)
      bound_out = bound_lower f g μ ν l (was l) (t.deadline l l<) (omega (arith, (t.plan l l<).len)) needs_less

  -- BY THE FAIR COUNT the bounds rest on each other, from the highest priority down
  module _ (cost other : ℕ → ℕ → ℕ) (costs : (l h : ℕ) → l < f.flows → h < l → cost l h ≤ other (was l) (was h)) where
    fair_below : (n l : ℕ) → l < n → l < f.flows → bound_by f (fairly f cost) l ≤ bound_by g (fairly g other) (was l)
    fair_below zero l b p = absurd (omega arith)
    fair_below (suc n) l b p =
        bound_out (fairly f cost) (fairly g other) l p (λ h q. costs l h p q)
        (λ h q. omega (arith, fair_carry f cost h, fair_carry g other (was h), fair_below n h (omega arith) (omega arith)))

    pub fair_out : (l : ℕ) → l < f.flows → bound_by f (fairly f cost) l ≤ bound_by g (fairly g other) (was l)
    fair_out l p = fair_below (suc l) l (omega arith) p

-- REMOVING takes a flow out of sections whose places are all used
module _ (s : Sections) (full : Full s) (place : ℕ) (there : place < s.flows) where
  out_fits : Fits s (leaving place)
  out_fits = record { order = omega arith; within = omega (arith, there); records = refl; steps = omega arith }

  abbrev new : Sections
  new = recut s (leaving place)

  -- a record stands where it stood, or one place higher, and so does a plan
  field_out : (i k : ℕ) → k < 5 → field new.records i k ≡ field s.records (before_out place i) k
  field_out i k h =
      ⊎_elim
      (λ (l : i < place). rw (out_below place i l) (field_before s (leaving place) full out_fits i l k h))
      (λ (l : place ≤ i).
      let j : ℕ = i - place in
      let new_at : place + 0 + j ≡ i = omega arith in
      let old_at : suc place + j ≡ suc i = omega arith in
      rw (out_past place i l) (rw (new_at, old_at) at (field_behind s (leaving place) full out_fits j k h)))
      (lt_or_ge i place)

  plan_out : (i : ℕ) → SamePlan (facts_of new) (facts_of s) i (before_out place i)
  unfolding sum_to
  plan_out i =
      ⊎_elim
      (λ (l : i < place). rw (out_below place i l) (plan_before s (leaving place) full out_fits i l))
      (λ (l : place ≤ i).
      let j : ℕ = i - place in
      let new_at : place + 0 + j ≡ i = omega arith in
      let old_at : suc place + j ≡ suc i = omega arith in
      rw (out_past place i l) (rw (new_at, old_at) at (plan_behind s (leaving place) full out_fits refl j)))
      (lt_or_ge i place)

  pub recut_takes : TakenOut place (facts_of new) (facts_of s)
  unfolding facts_of recut
  recut_takes =
      record {
        there = there;
        flows = omega arith;
        nodes = refl;
        disturbs = same_disturbs s (leaving place) full out_fits;
        id = λ i h. field_out i 0 (omega arith);
        phase = λ i h. field_out i 1 (omega arith);
        period = λ i h. field_out i 2 (omega arith);
        deadline = λ i h. field_out i 3 (omega arith);
        plan = λ i h. plan_out i;
      }

  pub recut_left : facts_of (table_of new) ≡ facts_of new
  recut_left = no_more_facts new (recut_no_more s (leaving place) full out_fits)
