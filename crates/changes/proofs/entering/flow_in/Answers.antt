-- `changes::entering::flow_in` meets its contract: with the flow among them the bytes in use are the new table; refused, they are as they
-- were, and done, they are all that is left. Assumes nothing.
use Prim.Native.Nat.{ℕ, ◌+◌, ◌*◌, ◌≤◌}
use mathlib.Core.Path.{◌≡◌, refl, sym, ◌∙◌, ap, transport}
use mathlib.Core.List.{List}
use native.Mathlib.Omega.{arith}
use lib.ListN.{length, take}
use Rattle.trade.specs.Limits.{row_bytes, record_bytes, step_bytes}
use Rattle.trade.specs.Layout.{Sections, sections}
use Rattle.trade.specs.Facts.{facts_of}
use Rattle.trade.specs.Table.{used}
use Rattle.trade.specs.Kept.{figures_of, kept_of}
use Rattle.trade.specs.Answers.{done, first_of, no_number}
use Rattle.trade.specs.Exchange.{recut}
use Rattle.trade.specs.Calls.{new_rules}
use Rattle.trade.proofs.Answers.{done_first, refused_second}
use Rattle.trade.proofs.Used.{same_sections}
use Rattle.trade.specs.Refusals.{answer_of}
use Rattle.trade.proofs.Refusals.{refuses}
use Rattle.table.specs.Table.{sections_in, kept_in}
use Rattle.table.specs.declared.table.Table.{Table}
use Rattle.rules.specs.Rules.{New, Carried}
use Rattle.changes.specs.Moved.{coming}
use Rattle.cut.proofs.CutLaws.{out_again}
use Rattle.changes.proofs.RecutLaws.{cleared}
use Rattle.changes.proofs.EnteringLaws.{new_no_more, step_first, step_room, with_it, new_tested, new_carried}
use Rattle.changes.proofs.entering.flow_in.Goals as goal
use Rattle.changes.proofs.entering.flow_in.Goals.{After-put_in-2, After-steps_before-step_end, After-take_out, After-take_out-in-Err}

-- the table with the flow
abbrev new : Table → ℕ → List ℕ → List ℕ → Sections
new t place flow plan = recut (used (sections_in t)) (coming place flow plan)

first : (c : After-steps_before-step_end) → step_bytes * c.steps_before-step_at.result ≤ step_bytes * c.steps_before-step_end.result
first c =
    omega (
      arith,
      step_first (kept_in c.args.table.now) c.args.place c.args.flow.now c.args.plan.now c.requires,
      c.steps_before-step_at.ensures.0,
      c.steps_before-step_end.ensures.0,
    )

room : (c : After-steps_before-step_end) → step_bytes * c.steps_before-step_end.result + length c.args.plan.now ≤ length c.args.table.now.steps
room c =
    omega (
      arith,
      step_room (kept_in c.args.table.now) c.args.place c.args.flow.now c.args.plan.now c.requires,
      c.steps_before-step_end.ensures.0,
    )

pub put_in-requires-2 : goal.put_in-requires-2
put_in-requires-2 c =
    (omega (arith, c.requires.planned), first (goal.at.put_in-requires-2 c).After-steps_before-step_end, room (goal.at.put_in-requires-2 c).After-steps_before-step_end)

is_new :
    (c : After-put_in-2)
    → sections c.args.table.now.nodes (c.args.table.now.flows + 1) (take (row_bytes * c.args.table.now.nodes) c.args.table.now.rows)
    (take (record_bytes * (c.args.table.now.flows + 1)) c.put_in.new.section)
    (take (step_bytes * c.steps_before-step_end.result + length c.args.plan.now) c.put_in-2.new.section)
    ≡ new c.args.table.now c.args.place c.args.flow.now c.args.plan.now
is_new c =
    with_it (kept_in c.args.table.now) c.args.place c.args.flow.now c.args.plan.now c.requires c.steps_before-step_at.result
    c.steps_before-step_end.result c.put_in.new.section c.put_in-2.new.section c.steps_before-step_at.ensures.0
    c.steps_before-step_end.ensures.0 c.put_in.ensures.section_after c.put_in-2.ensures.section_after

pub used_answer-requires : goal.used_answer-requires
used_answer-requires c =
    let p = goal.at.used_answer-requires c in
    let t = kept_in c.args.table.now in
    record {
      new = transport (λ i. New (sym (is_new p.After-put_in-2) i)) (new_tested t c.args.place c.args.flow.now c.args.plan.now c.requires);
      end_in_bounds = omega (arith, c.put_in-2.auto.section, room p.After-steps_before-step_end);
      carried = transport (λ i. Carried (sym (is_new p.After-put_in-2) i) c.args.place c.args.table.now.figures)
          (new_carried t c.args.place c.args.flow.now c.args.plan.now c.requires);
    }

pub clear-requires-in-Ok-2 : goal.clear-requires-in-Ok-2
clear-requires-in-Ok-2 c = omega (arith, c.put_in-2.auto.section, room (goal.at.clear-requires-in-Ok-2 c).After-steps_before-step_end)

pub take_out-requires-in-Err : goal.take_out-requires-in-Err
take_out-requires-in-Err c =
    let p = c.put_in-2 in
    let s = (goal.at.take_out-requires-in-Err c).After-steps_before-step_end in (
      omega (arith, p.auto.held, c.requires.planned),
      first s,
      omega (arith, p.auto.section, p.auto.held, room s),
    )

-- DONE, the bytes in use are the new table, and nothing else is left
pub returns-in-Ok : goal.returns-in-Ok
unfolding kept_of
returns-in-Ok c =
    let p = goal.at.returns-in-Ok c in
    let a = c.args in
    let m = c.requires.old.memory in
    let t = new a.table.now a.place a.flow.now a.plan.now in
    let is = is_new p.After-put_in-2 in
    let sections_new =
    cleared _ t _ _ _ _ _ _ is (new_no_more (kept_in a.table.now) a.place a.flow.now a.plan.now c.requires)
    m.rows (c.put_in.auto.section ∙ m.records) (c.put_in-2.auto.section ∙ m.steps) c.clear.ensures c.clear-in-Ok.ensures c.clear-in-Ok-2.ensures in
    let figures_new = c.in-Ok.ensures.figures ∙ done_first (done 0) _ _ refl ∙ ap (λ (t : Sections). figures_of (facts_of t)) is in
    let answered = c.in-Ok.ensures.answer ∙ ap (first_of new_rules no_number) is in
    record {
      answer = answered;
      table = (λ i. record { sections = sections_new i; figures = figures_new i }) ∙ sym (done_first (done 0) (kept_of t) (kept_in a.table.now) refl);
    }

-- REFUSED, it is taken out again
records_as_they_were : (c : After-take_out) → c.take_out.new.section ≡ c.args.table.now.records
records_as_they_were c =
    let a = c.args in
    let p = c.requires in
    let put = c.put_in in
    c.take_out.ensures.section_after
    ∙ out_again (record_bytes * a.place) (record_bytes * a.table.now.flows) a.flow.now a.table.now.records (omega (arith, p.within))
    (omega (arith, p.recorded, p.room, p.old.memory.records)) put.new.section put.new.held put.ensures.section_after put.ensures.held_after

steps_as_they_were :
    (c : After-take_out-in-Err)
    → step_bytes * c.steps_before-step_at.result ≤ step_bytes * c.steps_before-step_end.result
    → step_bytes * c.steps_before-step_end.result + length c.args.plan.now ≤ length c.args.table.now.steps
    → c.take_out-in-Err.new.section ≡ c.args.table.now.steps
steps_as_they_were c before within =
    let a = c.args in
    let put = c.put_in-2 in
    c.take_out-in-Err.ensures.section_after
    ∙ out_again (step_bytes * c.steps_before-step_at.result) (step_bytes * c.steps_before-step_end.result) a.plan.now
    a.table.now.steps before within put.new.section put.new.held put.ensures.section_after put.ensures.held_after

pub returns-in-Err : goal.returns-in-Err
returns-in-Err c =
    let p = goal.at.returns-in-Err c in
    let a = c.args in
    let e = c.in-Err.refusal in
    let is = is_new p.After-put_in-2 in
    let sections_same =
    same_sections _ (sections_in a.table.now) refl refl refl (records_as_they_were p.After-take_out)
    (steps_as_they_were p.After-take_out-in-Err (first p.After-steps_before-step_end) (room p.After-steps_before-step_end)) in
    let figures_same = c.in-Err.ensures.figures ∙ refused_second (answer_of e) _ _ (refuses e) in
    record {
      answer = c.in-Err.ensures.answer ∙ ap (first_of new_rules no_number) is;
      table =
          (λ i. record { sections = sections_same i; figures = figures_same i })
          ∙ sym (refused_second (answer_of e) (kept_of (new a.table.now a.place a.flow.now a.plan.now)) (kept_in a.table.now) (refuses e));
    }
