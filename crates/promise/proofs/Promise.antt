-- Demand 3, of the program that the definitions describe by any sound measure and rule of waiting, and so of every program that meets its
-- contracts. Assumes nothing.
use Prim.Native.Nat.{ℕ, suc, ◌≤◌, ◌<◌}
use mathlib.Core.Path.{◌≡◌, refl, sym, ◌∙◌, ap, subst}
use mathlib.Core.Bool.{false}
use mathlib.Core.Logic.{⊎_elim}
use native.Mathlib.Omega.{arith}
use lib.ListN.{length, get_or}
use Rattle.trade.specs.Limits.{end_of_clock}
use Rattle.trade.specs.Bytes.{over}
use Rattle.trade.specs.Facts.{Facts}
use Rattle.trade.specs.Answers.{done}
use Rattle.trade.specs.Conflict.{conflict}
use Rattle.trade.specs.Bound.{Measure, measure, bound_by}
use Rattle.trade.specs.Slot.{instance_at, done_now, next_step, Waits, greedy}
use Rattle.trade.specs.Calls.{Checked, Started, Advanced, check_by}
use Rattle.trade.specs.declared.answer.Answer.{Answer}
use Rattle.trade.specs.declared.clock.Slot.{Slot}
use Rattle.trade.specs.declared.clock.Instance.{Instance}
use Rattle.trade.specs.declared.clock.Step.{Step}
use Rattle.trade.specs.declared.state.Grant.{Grant}
use Rattle.trade.proofs.First.{lt_or_ge}
use Rattle.trade.proofs.Order.{among_at, place_of}
use Rattle.trade.proofs.Valid.{Valid, same_flow}
use Rattle.response.specs.Promise.{InOrder, RunGranted, RunKept, RunDue}
use Rattle.response.proofs.Granted.{granted_below, granted_unfinished, granted_once, granted_apart}
use Rattle.response.proofs.Released.{released_late, release_comes, released_apart, instance_released, instance_within, periodic_in_order}
use Rattle.response.proofs.Due.{granted_in_one_slot, granted_due}
use Rattle.response.proofs.Promise.{kept}
use Rattle.promise.specs.Demands.{Program, Ran, RunBy, HasRun, planner_by, planner, grant_at, grant, step_grant, Counted, Granted, release_of, last_slot, reported, Kept, Due, Honoured, Demand3}
use Rattle.promise.specs.Promise.{Meets}
use Rattle.promise.proofs.Grants.{slot_grant}
use Rattle.promise.proofs.Sound.{Sound, greedy_sound}
use Rattle.promise.proofs.Accepted.{accepted_valid, accepted_admissible, accepted_bounded, reported_bound}
use Rattle.promise.proofs.Slots.{AcceptedRun, facts, due, run, goes, made, area_at, at, started, in_slot, past_clock}

-- the flow of grant j of slot t
abbrev flow_at : Waits → Ran → ℕ → ℕ → ℕ
flow_at waits x t j = get_or (goes waits x t) j 0

-- its instance, and the next step of that
abbrev instance_of : Waits → Ran → ℕ → ℕ → Instance
instance_of waits x t j = record { 0 = (due x t).instance (flow_at waits x t j) }

abbrev next_of : Waits → Ran → ℕ → ℕ → Step
next_of waits x t j = record { 0 = done_now (due x t) (run waits x t) (flow_at waits x t j) }

module _ (measured : Facts → Measure) (waits : Waits) (x : Ran) (g : AcceptedRun measured waits x) where
  valid : Valid (facts x)
  valid = accepted_valid measured x.book g.accepted

  -- the releases of each flow come in order
  order : (l : ℕ) → l < (facts x).flows → InOrder (due x) l
  order l l< = periodic_in_order (facts x) (facts x).phase l (valid.records l l<).period.least

  -- a slot that has been run is one of the clock's
  run_clock : (t : Slot) → HasRun x t → t.0 < end_of_clock
  run_clock t h =
      ⊎_elim (λ (clock : t.0 < end_of_clock). clock)
      (λ (past : end_of_clock ≤ t.0).
      absurd (omega (arith, h.done, ap (λ (a : Answer). a.code) (past_clock measured waits x g t.0 h.called past))))
      (lt_or_ge t.0 end_of_clock)

  -- a slot that was called before the clock's end has been run
  pub runs_clock : (t : Slot) → t.0 < x.count → t.0 < end_of_clock → HasRun x t
  runs_clock t h clock =
      record { called = h; done = ap (λ (a : Advanced). a.answer.code) (in_slot measured waits x g t.0 h clock) }

  -- a slot that has been run
  module _ (t : Slot) (has : HasRun x t) where
    leaves :
        x.advanced t
        ≡ record {
          answer = done (length (goes waits x t.0));
          area = area_at waits x (suc t.0);
          grants = over (made waits x t.0) (x.grants t);
        }
    leaves = in_slot measured waits x g t.0 has.called (run_clock t has)

    -- the grants that it counts are those of the flows that go
    counted_goes : (j : ℕ) → j < (x.advanced t).answer.number → j < length (goes waits x t.0)
    counted_goes j c = rw leaves at c

    goes_counted : (j : ℕ) → j < length (goes waits x t.0) → Counted x t j
    goes_counted j h = record { run = has; below = rw leaves h }

    -- a flow that goes is one of the book's
    goes_listed : (j : ℕ) → j < length (goes waits x t.0) → flow_at waits x t.0 j < (facts x).flows
    goes_listed j h =
        granted_below waits (facts x) (due x t.0) (run waits x t.0) (flow_at waits x t.0 j) (among_at (goes waits x t.0) j h)

    -- grant j of the slot is the next step of the j-th flow that goes
    pub grant_is :
        (j : ℕ)
        → j < length (goes waits x t.0)
        → grant x t j ≡ step_grant (facts x) (flow_at waits x t.0 j) (instance_of waits x t.0 j) (next_of waits x t.0 j)
    unfolding over
    grant_is j h =
        ap (λ (a : Advanced). grant_at a.grants j) leaves
        ∙ slot_grant waits (facts x) valid t.0 (run_clock t has) (run waits x t.0) _ j h

    -- a step that the run grants is granted
    run_granted : (l v s : ℕ) → RunGranted waits (facts x) (due x) l v s t.0 → Granted x l (record { 0 = v }) (record { 0 = s }) t
    run_granted l v s g =
        let (j, h, e) = place_of (goes waits x t.0) l g.goes in
        (j, goes_counted j h, grant_is j h ∙ rw (e, g.instance, g.step))

    -- and what is granted, the run grants
    granted_run :
        (j : ℕ)
        → j < length (goes waits x t.0)
        → RunGranted waits (facts x) (due x) (flow_at waits x t.0 j) (instance_of waits x t.0 j).0 (next_of waits x t.0 j).0 t.0
    granted_run j h = record { goes = among_at (goes waits x t.0) j h; step = refl; instance = refl }

    -- no two grants of a slot conflict
    slot_free :
        (i j : ℕ)
        → i < j
        → j < length (goes waits x t.0)
        → conflict (facts x).disturbs (grant x t i).transmission (grant x t j).transmission ≡ false
    unfolding step_grant next_step
    slot_free i j i< j< =
        rw (grant_is i (omega arith), grant_is j j<)
        (granted_apart waits (facts x) (due x t.0) (run waits x t.0) g.sound.refuses i j i< j<)

  -- each grant is due
  slot_due : (t : Slot) (j : ℕ) → Counted x t j → Due x t j
  unfolding release_of
  slot_due t j c =
      let f : Facts = facts x in
      let h : j < length (goes waits x t.0) = counted_goes t c.run j c.below in
      let l : ℕ = flow_at waits x t.0 j in
      let l< : l < f.flows = goes_listed t c.run j h in
      let now : RunDue waits f (due x) l t.0 = granted_due waits f (due x) l (order l l<) t.0 (among_at (goes waits x t.0) j h) in
      record {
        flow = l;
        instance = instance_of waits x t.0 j;
        step = next_of waits x t.0 j;
        listed = l<;
        released =
            instance_released f f.phase l t.0 (omega (arith, now.past, released_late f f.phase l now.release now.released));
        unfinished = granted_unfinished waits f (due x t.0) (run waits x t.0) l (among_at (goes waits x t.0) j h);
        grants = grant_is t c.run j h;
        next =
            λ s s<.
            let (u, from, before, g) = now.next s.0 s< in (
              at u,
              before,
              run_granted (at u) (runs_clock (at u) (omega (arith, c.run.called)) (omega (arith, run_clock t c.run))) l
                  (instance_of waits x t.0 j).0 s.0 g,
            );
      }

  -- the reported bound of a flow is its bound: at least 1, and within its deadline
  reports : (l : ℕ) → l < (facts x).flows → reported (check_by measured x.book) l ≡ bound_by (facts x) (measured (facts x)) l
  reports = reported_bound measured x.book g.accepted

  deadline_met : (l : ℕ) → l < (facts x).flows → reported (check_by measured x.book) l ≤ (facts x).deadline l
  deadline_met l l< = omega (arith, reports l l<, (accepted_admissible measured x.book g.accepted l l<).deadline)

  -- each instance is kept within the reported bound, if its last slot by that bound has been run
  instance_kept :
      (l : ℕ) (v : Instance)
      → l < (facts x).flows
      → HasRun x (last_slot (facts x) l v (reported (check_by measured x.book) l))
      → Kept x l v (reported (check_by measured x.book) l)
  unfolding release_of
  instance_kept l v l< has =
      let f : Facts = facts x in
      let R : ℕ → ℕ = bound_by f (measured f) in
      let release : ℕ = release_of f l v in
      let number : instance_at f f.phase release l ≡ v.0
      = instance_within f f.phase l (valid.records l l<).period.least v.0 release (omega arith)
      (omega (arith, (valid.records l l<).period.least)) in
      let k : RunKept waits f (due x) l release (R l)
      = kept waits f (due x) (measured f) (g.sound.covers f) (λ h h<. released_apart f f.phase h) R
      (accepted_bounded measured x.book g.accepted g.sound.carries) l release l< (order l l<) (release_comes f f.phase l v.0) in
      let past : (s : Step) → s.0 < f.len l → k.slot s.0 ≤ (last_slot f l v (reported (check_by measured x.book) l)).0
      = λ s s<. omega (arith, k.within s.0 s<, reports l l<) in
      record {
        slot = λ s. at (k.slot s.0);
        granted =
            λ s s<.
            run_granted (at (k.slot s.0))
            (runs_clock (at (k.slot s.0)) (omega (arith, past s s<, has.called)) (omega (arith, past s s<, run_clock _ has)))
            l v.0 s.0 (rw number at (k.granted s.0 s<));
        released = λ s s<. k.released s.0 s<;
        within = λ s s<. omega (arith, k.within s.0 s<, reports l l<);
        in_time = λ s s<. omega (arith, k.within s.0 s<, reports l l<, deadline_met l l<);
        ordered = λ s u s< u<. k.ordered s.0 u.0 s< u<;
      }

  -- no flow, instance and step is granted twice
  granted_once_only :
      (t u : Slot) (i j : ℕ)
      → Counted x t i
      → Counted x u j
      → (grant x t i).id ≡ (grant x u j).id
      → (grant x t i).instance ≡ (grant x u j).instance
      → (grant x t i).step ≡ (grant x u j).step
      → (t ≡ u) × (i ≡ j)
  unfolding step_grant
  granted_once_only t u i j ci cj id instance step =
      let f : Facts = facts x in
      let l : ℕ = flow_at waits x t.0 i in
      let l< : l < f.flows = goes_listed t ci.run i hi in
      let same : l ≡ flow_at waits x u.0 j
      = same_flow f valid l (flow_at waits x u.0 j) l< (goes_listed u cj.run j hj) (reads (λ g. g.id) id) in
      let again : RunGranted waits f (due x) l (instance_of waits x t.0 i).0 (next_of waits x t.0 i).0 u.0
      = record {
        goes = rw same (among_at (goes waits x u.0) j hj);
        step = ap (done_now (due x u.0) (run waits x u.0)) same ∙ sym (ap (λ (s : Step). s.0) (reads (λ g. g.step) step));
        instance = ap (due x u.0).instance same ∙ sym (ap (λ (v : Instance). v.0) (reads (λ g. g.instance) instance));
      } in
      let t≡u : t.0 ≡ u.0
      = granted_in_one_slot waits f (due x) l (order l l<) (instance_of waits x t.0 i).0 (next_of waits x t.0 i).0 t.0 u.0
      (granted_run t ci.run i hi) again in (
        ap at t≡u,
        granted_once waits f (due x u.0) (run waits x u.0) i j (subst (λ (y : ℕ). i < length (goes waits x y)) t≡u hi) hj
            (subst (λ (y : ℕ). flow_at waits x y i ≡ flow_at waits x u.0 j) t≡u same),
      )
    where
      hi : i < length (goes waits x t.0)
      hi = counted_goes t ci.run i ci.below

      hj : j < length (goes waits x u.0)
      hj = counted_goes u cj.run j cj.below

      reads :
          {A : Type 0} (read : Grant → A)
          → read (grant x t i) ≡ read (grant x u j)
          → read (step_grant (facts x) (flow_at waits x t.0 i) (instance_of waits x t.0 i) (next_of waits x t.0 i))
          ≡ read (step_grant (facts x) (flow_at waits x u.0 j) (instance_of waits x u.0 j) (next_of waits x u.0 j))
      reads read e = sym (ap read (grant_is t ci.run i hi)) ∙ e ∙ ap read (grant_is u cj.run j hj)

  -- so all that is owed of the run is kept
  pub run_honoured : Honoured x (reported (check_by measured x.book))
  run_honoured =
      record {
        starts = ap (λ (s : Started). s.answer.code) (started measured waits x g);
        runs = runs_clock;
        ends = λ t h past. past_clock measured waits x g t.0 h past;
        free = λ t i j i< c. slot_free t c.run i j i< (counted_goes t c.run j c.below);
        -- the last slot by the bound is not past the deadline slot
        kept =
            λ l v l< has.
            instance_kept l v l<
            (runs_clock _ (omega (arith, has.called, deadline_met l l<)) (omega (arith, run_clock _ has, deadline_met l l<)));
        kept_early = instance_kept;
        once = granted_once_only;
        due = slot_due;
      }

-- DEMAND 3 is kept by the program that the definitions describe, by any sound measure and rule of waiting,
pub sound_keeps_demand_3 : (measured : Facts → Measure) (waits : Waits) → Sound measured waits → Demand3 (planner_by measured waits)
sound_keeps_demand_3 measured waits sound x checked e accepted ran =
    subst (λ (c : Checked). Honoured x (reported c)) (sym e) (run_honoured measured waits x (record { sound = sound; accepted = rw e at accepted; ran = ran }))

pub planner_keeps_demand_3 : Demand3 planner
planner_keeps_demand_3 = sound_keeps_demand_3 measure greedy greedy_sound

-- and so by every program that meets its contracts: its run is a run of that one
pub by_planner : (p : Program) → Meets p → (x : Ran) → RunBy p x → RunBy planner x
by_planner p m x ran =
    record {
      area = ran.area;
      grants = ran.grants;
      starts = m.starts _ _ ran.starts;
      advances = λ t h. m.advances _ _ (ran.advances t h);
    }

pub keeps_demand_3 : (p : Program) → Meets p → Demand3 p
keeps_demand_3 p m x checked c accepted ran =
    planner_keeps_demand_3 x checked (m.checks _ _ c) accepted (by_planner p m x ran)
