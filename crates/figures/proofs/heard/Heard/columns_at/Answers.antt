-- `figures::heard::Heard::columns_at` gathers the columns of the plan with its repeated steps once. Assumes nothing.
use Rattle.std.proofs.Common.{◌≡◌, ℕ, ◌≤◌, List, length, replicate, sym, ap, ◌∙◌, subst, arith}
use Rattle.plans.specs.Plan.{AllWithin, steps_in, plan_in}
use Rattle.plans.specs.Single.{singles, Singled}
use Rattle.plans.proofs.SingleLaws.{singles_most}
use Rattle.pairs.specs.Columns.{Narrow}
use Rattle.pairs.proofs.GatherLaws.{columns_narrow}
use Rattle.sections.specs.Formed.{plan_at}
use Rattle.sections.proofs.FormedLaws.{length_plan, plan_within}
use Rattle.figures.specs.Figures.{figure_by}
use Rattle.figures.proofs.FiguresLaws.{figure_columns, once_steps, once_length, once_within}
use Rattle.figures.proofs.heard.Heard.columns_at.Goals as goal
use Rattle.figures.proofs.heard.Heard.columns_at.Goals.{After-plan_part}

pub single-width-requires : goal.single-width-requires
single-width-requires c =
    let a = c.args in
    rw c.plan.ensures (length_plan a.self.parts.flows a.self.parts.rows.now a.self.parts.records.now a.self.parts.steps.now c.args.self.parts.formed _ (omega arith))

-- the plan of the flow, and the array that has its steps once each
abbrev own : After-plan_part → List ℕ
own c = plan_at c.args.self.parts.records.now c.args.self.parts.steps.now c.args.l

abbrev once : After-plan_part → List ℕ
once c = c.single-width.new.out

is_own : (c : After-plan_part) → c.plan.result.now ≡ own c
is_own c = c.plan.ensures

is_width : (c : After-plan_part) → c.single-width.result ≡ singles (own c) (steps_in (own c))
is_width c = c.single-width.ensures.1 ∙ ap (λ (plan : List ℕ). singles plan (steps_in plan)) (is_own c)

is_once : (c : After-plan_part) → Singled (own c) (replicate 64 0) (once c)
is_once c = rw (is_own c) at c.single-width.ensures.0

is_part : (c : After-plan_part) → c.plan_part.result.now ≡ plan_in (once c) 0 (singles (own c) (steps_in (own c)))
is_part c = c.plan_part.ensures ∙ ap (plan_in (once c) 0) (is_width c)

own_short : (c : After-plan_part) → length (own c) ≤ 64
own_short c =
    let a = c.args in
    length_plan a.self.parts.flows a.self.parts.rows.now a.self.parts.records.now a.self.parts.steps.now c.args.self.parts.formed a.l (omega arith)

own_room : (c : After-plan_part) → length (own c) ≤ length (once c)
own_room c = omega (arith, own_short c, (is_once c).size)

-- the plan that the columns are gathered of
abbrev part : After-plan_part → List ℕ
part c = plan_in (once c) 0 (singles (own c) (steps_in (own c)))

part_short : (c : After-plan_part) → length (part c) ≤ 64
part_short c = omega (arith, once_length c.args.self.parts.rows.now (own c) _ (once c) (own_room c) (is_once c), own_short c)

part_within : (c : After-plan_part) → AllWithin c.args.self.parts.rows.now (part c)
part_within c =
    let a = c.args in
    once_within a.self.parts.rows.now (own c) _ (once c) (own_room c) (is_once c)
    (plan_within a.self.parts.flows a.self.parts.rows.now a.self.parts.records.now a.self.parts.steps.now c.args.self.parts.formed a.l (omega arith))

pub gather-requires : goal.gather-requires
gather-requires c =
    let pre = c.requires in
    (rw (is_part (goal.at.gather-requires c).After-plan_part) (part_short (goal.at.gather-requires c).After-plan_part), rw (is_part (goal.at.gather-requires c).After-plan_part) (part_within (goal.at.gather-requires c).After-plan_part), c.args.self.size, omega (arith, pre.columns_len.0), pre.columns_len.1)

pub returns : goal.returns
returns c =
    let a = c.args in
    let gathered = c.gather.ensures in
    let columns : List ℕ = c.gather.new.columns in
    let width = is_width (goal.at.returns c).After-plan_part in
    record {
      size = gathered.size ∙ c.requires.columns_len.0;
      short = omega (arith, width, singles_most (own (goal.at.returns c).After-plan_part) (steps_in (own (goal.at.returns c).After-plan_part)), own_short (goal.at.returns c).After-plan_part);
      narrow =
          subst (λ (n : ℕ). Narrow n columns) (once_steps a.self.parts.rows.now (own (goal.at.returns c).After-plan_part) _ (once (goal.at.returns c).After-plan_part) (own_room (goal.at.returns c).After-plan_part) (is_once (goal.at.returns c).After-plan_part) ∙ sym width)
          (columns_narrow a.self.parts.rows.now a.self.heard.now (part (goal.at.returns c).After-plan_part) columns (part_short (goal.at.returns c).After-plan_part) (rw (is_part (goal.at.returns c).After-plan_part) at gathered.columns) (part_within (goal.at.returns c).After-plan_part));
      figure =
          λ h b.
          ap (λ (n : ℕ). figure_by columns n (plan_at a.self.parts.records.now a.self.parts.steps.now h)) width
          ∙ figure_columns a.self.parts.flows a.self.parts.rows.now a.self.heard.now a.self.parts.records.now a.self.parts.steps.now _ (once (goal.at.returns c).After-plan_part) columns a.l c.args.self.parts.formed (omega arith) (a.self.all a.l c.requires.below) (own_room (goal.at.returns c).After-plan_part) (is_once (goal.at.returns c).After-plan_part)
          (rw (is_part (goal.at.returns c).After-plan_part) at gathered.columns) h b;
    }
