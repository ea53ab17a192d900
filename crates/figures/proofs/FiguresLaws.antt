-- The interference of two well-formed flows is the worst path through their plans, at most a plan's length; and through the plan of the one
-- with its repeated steps once. Leans on the pairs' PathLaws. Assumes nothing.
use Rattle.std.proofs.Common.{◌≡◌, ℕ, ◌+◌, ◌-◌, ◌*◌, ◌<◌, ◌≤◌, true, false, ◌||◌, eqb, List, length, get_or, sym, refl, ap, ◌∙◌, ⊎_elim, arith, ext_get_or, eq-eqb, eqb-true}
use Rattle.trade.specs.Limits.{most_flows, step_bytes}
use Rattle.trade.specs.declared.node.Transmission.{Transmission}
use Rattle.trade.specs.Conflict.{conflict}
use Rattle.trade.specs.Layout.{field, sections}
use Rattle.trade.specs.Facts.{facts_in, facts_of, first_step, disturbs_in, step_in}
use Rattle.trade.specs.Interference.{worst_path, interference}
use Rattle.plans.specs.Plan.{AllWithin, steps_in, plan_in}
use Rattle.plans.specs.Single.{again, singles, place_of, Singled}
use Rattle.plans.proofs.StepsLaws.{step_plan, plan_length, steps_plan}
use Rattle.plans.proofs.SingleLaws.{singles_none, singles_new, singles_some, singles_most, place_below, place_next, place_onto}
use mathlib.Core.Bool.{or-true}
use Rattle.trade.specs.declared.node.Node.{Node}
use Rattle.nodes.specs.Network.{InNetwork}
use Rattle.trade.specs.First.{some}
use Rattle.trade.proofs.First.{lt_or_ge, bool_cases, some_true, some_intro}
use Rattle.pairs.specs.Columns.{nodes_in, ending, Hears, marks_of, Columns, matrix_by}
use Rattle.figures.proofs.RisesLaws.{worst_at_most}
use Rattle.pairs.proofs.PathLaws.{interference_plans, path_once}
use Rattle.pairs.proofs.GatherLaws.{figure_by_columns}
use Rattle.sections.specs.Formed.{Formed, plan_start, plan_at}
use Rattle.sections.proofs.FormedLaws.{plan_ends, plan_lies, length_plan, plan_within}
use Rattle.figures.specs.Figures.{figure_by, Asked, HeardIn, AllHeard}
use Rattle.figures.specs.Rises.{lane_at, rise_at}
use Rattle.figures.specs.Lanes.{ReadOut}
use Rattle.figures.specs.declared.rises.Rises.{Rises}
use Rattle.figures.proofs.Padded.{filled, length_filled, filled_at, filled_behind}

-- a count is at most that of the steps of h
pub interference_most : (records rows steps : List ℕ) (l h : ℕ) → interference (facts_in 0 0 rows records steps) l h ≤ field records h 4
unfolding interference worst_path facts_of
interference_most records rows steps l h = worst_at_most _ _ 0 0 (field records h 4)

-- the figure of h on l
pub figure_plans :
    (k : ℕ) (rows records steps : List ℕ)
    → Formed k rows records steps
    → (l h : ℕ)
    → l < k
    → h < k
    → interference (facts_in 0 0 rows records steps) l h
    ≡ worst_path (marks_of rows (plan_at records steps l) (plan_at records steps h)) (steps_in (plan_at records steps l)) (steps_in (plan_at records steps h))
unfolding facts_of first_step
figure_plans k rows records steps f l h p q =
    interference_plans (sections 0 0 rows records steps) l h (plan_lies k rows records steps f l p) (plan_lies k rows records steps f h q)

-- THE PLAN WITH ITS REPEATED STEPS ONCE: as many steps, each of them one of the plan's, and the same figure
module _ (rows plan before once : List ℕ) (short : length plan ≤ length once) (s : Singled plan before once) where
  abbrev shorter : List ℕ
  shorter = plan_in once 0 (singles plan (steps_in plan))

  fits : step_bytes * (0 + singles plan (steps_in plan)) ≤ length once
  fits = omega (arith, singles_most plan (steps_in plan))

  pub once_steps : steps_in shorter ≡ singles plan (steps_in plan)
  once_steps = steps_plan once 0 (singles plan (steps_in plan)) fits

  once_step : (i : ℕ) → i < steps_in plan → step_in shorter (place_of plan i) ≡ step_in plan i
  once_step i h =
      let z : 0 + place_of plan i ≡ place_of plan i = omega arith in
      step_plan once 0 (singles plan (steps_in plan)) (place_of plan i) (place_below plan i (steps_in plan) h) ∙ rw z (s.steps i h)

  pub once_length : length shorter ≤ length plan
  once_length = omega (arith, plan_length once 0 (singles plan (steps_in plan)) fits, singles_most plan (steps_in plan))

  pub once_within : AllWithin rows plan → AllWithin rows shorter
  once_within all k h =
      let f = place_onto plan (steps_in plan) k (omega (arith, once_steps)) in
      rw (← f.2, once_step f.0 f.1) (all f.0 (omega (arith, f.1)))

  pub once_figure :
      (h : List ℕ)
      → 0 < steps_in plan
      → worst_path (marks_of rows plan h) (steps_in plan) (steps_in h) ≡ worst_path (marks_of rows shorter h) (steps_in shorter) (steps_in h)
  unfolding again
  once_figure h some =
      path_once (marks_of rows plan h) (marks_of rows shorter h) (steps_in plan) (steps_in shorter) (steps_in h) (place_of plan)
      (λ i j p q. ap (λ (u : Transmission). conflict (disturbs_in rows) u (step_in h j)) (sym (once_step i p)))
      (λ i p. omega (arith, place_below plan i (steps_in plan) p, once_steps)) (place_next plan)
      (λ i e. omega (arith, once_steps, ap (singles plan) e, singles_some plan i)) some
      (omega (arith, singles_new plan 0 refl, singles_none plan))

-- what is heard of the flows above l is heard of those above each that stands above it: of the first l + 1 flows a `Heard` asks no more
-- than this
pub heard_above :
    (l : ℕ) (rows records steps heard : List ℕ)
    → AllHeard l rows records steps heard
    → (m : ℕ)
    → m < l + 1
    → AllHeard m rows records steps heard
heard_above l rows records steps heard all m p h j q s =
    all h j (omega (arith, p, q)) s

-- the figures that the columns of a plan give are those of its flow
pub figure_columns :
    (k : ℕ) (rows heard records steps before once columns : List ℕ) (l : ℕ)
    → Formed k rows records steps
    → l < k
    → AllHeard l rows records steps heard
    → length (plan_at records steps l) ≤ length once
    → Singled (plan_at records steps l) before once
    → Columns rows heard (plan_in once 0 (singles (plan_at records steps l) (steps_in (plan_at records steps l)))) (steps_in (plan_in once 0 (singles (plan_at records steps l) (steps_in (plan_at records steps l))))) columns
    → (h : ℕ)
    → h < l
    → figure_by columns (singles (plan_at records steps l) (steps_in (plan_at records steps l))) (plan_at records steps h) ≡ interference (facts_in 0 0 rows records steps) l h
figure_columns k rows heard records steps before once columns l f p hears room s c h q =
    let above : h < k = omega arith in
    let plan : List ℕ = plan_at records steps l in
    let other : List ℕ = plan_at records steps h in
    let some : 0 < steps_in plan
    = omega (arith, steps_plan steps (plan_start records l) (field records l 4) (plan_lies k rows records steps f l p), (f.fields l p).len.0) in
    ap (λ (n : ℕ). worst_path (matrix_by columns n other) n (steps_in other)) (sym (once_steps rows plan before once room s))
    ∙ figure_by_columns rows heard (plan_in once 0 (singles plan (steps_in plan))) other columns
    (omega (arith, once_length rows plan before once room s, length_plan k rows records steps f l p)) c
    (once_within rows plan before once room s (plan_within k rows records steps f l p)) (plan_within k rows records steps f h above) (λ j b. hears h j q b)
    ∙ sym (once_figure rows plan before once room s other some)
    ∙ sym (figure_plans k rows records steps f l h p above)

-- a plan of a formed book may be asked about
pub plan_asked : (k : ℕ) (rows records steps : List ℕ) → Formed k rows records steps → (h : ℕ) → h < k → Asked (plan_at records steps h)
plan_asked k rows records steps f h q =
    record {
      short = length_plan k rows records steps f h q;
      numbered = λ i b. let within = plan_within k rows records steps f h q i b in (within.sender.numbered, within.receiver.numbered);
    }

-- the figures of a group read behind those before it
pub filled_group :
    (line : Rises) (n first until : ℕ) (figure : ℕ → ℕ) (after : List ℕ)
    → first ≤ until
    → until ≤ most_flows
    → ((h : ℕ) → first ≤ h → h < until → rise_at line (lane_at n (h - first) + n) + figure h ≡ 63)
    → ReadOut line n first until (filled most_flows figure first) after
    → after ≡ filled most_flows figure until
filled_group line n first until figure after o m is r =
    ext_get_or 0 after (filled most_flows figure until)
    (r.size ∙ length_filled most_flows figure first (omega arith) ∙ sym (length_filled most_flows figure until m))
    (λ i l. ⊎_elim (λ (h : i < first). old i h) (λ (h : first ≤ i). ⊎_elim (new i h) (behind i) (lt_or_ge i until)) (lt_or_ge i first))
  where
    old : (i : ℕ) → i < first → get_or after i 0 ≡ get_or (filled most_flows figure until) i 0
    old i h = r.below i h ∙ filled_at most_flows figure first i h ∙ sym (filled_at most_flows figure until i (omega arith))

    new : (i : ℕ) → first ≤ i → i < until → get_or after i 0 ≡ get_or (filled most_flows figure until) i 0
    new i h l = omega (arith, r.read i h l, is i h l, filled_at most_flows figure until i l)

    behind : (i : ℕ) → until ≤ i → get_or after i 0 ≡ get_or (filled most_flows figure until) i 0
    behind i h = r.past i h ∙ filled_behind most_flows figure first i (omega arith) ∙ sym (filled_behind most_flows figure until i h)

-- what is heard of all flows is heard of those above one of them
pub all_heard :
    (k l : ℕ) (rows records steps heard : List ℕ)
    → Formed k rows records steps
    → l < k
    → HeardIn k rows records steps heard
    → AllHeard l rows records steps heard
unfolding ending
all_heard k l rows records steps heard f below r h j p q =
    let at : ℕ = plan_start records h + j in
    let own = steps_plan steps (plan_start records h) (field records h 4) (plan_lies k rows records steps f h (omega arith)) in
    let same : step_in (plan_at records steps h) j ≡ step_in steps at = step_plan steps (plan_start records h) (field records h 4) j (omega (arith, own)) in
    let there : at < plan_start records (k - 1) = omega (arith, own, plan_ends records h (k - 1) (omega arith)) in
    let sender : ℕ = (step_in steps at).sender.0 in
    let receiver : ℕ = (step_in steps at).receiver.0 in
    rw same (
      known sender (some_intro (λ (i : ℕ). ending (step_in steps i) sender) (plan_start records (k - 1)) at there (rw (eq-eqb sender sender refl) refl)),
      known receiver
          (some_intro (λ (i : ℕ). ending (step_in steps i) receiver) (plan_start records (k - 1)) at there
          (rw (eq-eqb receiver receiver refl) (or-true (eqb sender receiver)))),
    )
  where
    known : (x : ℕ) → some (λ (i : ℕ). ending (step_in steps i) x) (plan_start records (k - 1)) ≡ true → Hears rows heard x
    known x e y b = r.bits y x b ∙ rw e refl

-- the nodes of the flows have rows
pub nodes_known :
    (k : ℕ) (rows records steps : List ℕ)
    → Formed k rows records steps
    → (x : ℕ)
    → some (λ j. ending (step_in steps j) x) (plan_start records k) ≡ true
    → x < nodes_in rows
unfolding ending
nodes_known k rows records steps f x e =
    let at = some_true (λ (j : ℕ). ending (step_in steps j) x) (plan_start records k) e in
    let w = f.within _ at.0 in
    ends w.sender w.receiver at.1
  where
    ends : {a b : Node} → InNetwork rows a → InNetwork rows b → (eqb a.0 x || eqb b.0 x) ≡ true → x < nodes_in rows
    ends {a} {b} p q t =
        ⊎_elim (λ (z : eqb a.0 x ≡ true). omega (arith, eqb-true a.0 x z, p.numbered, p.row))
        (λ (z : eqb a.0 x ≡ false). let y : eqb b.0 x ≡ true = rw z at t in omega (arith, eqb-true b.0 x y, q.numbered, q.row))
        (bool_cases (eqb a.0 x))
