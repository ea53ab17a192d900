-- `rules::rules::new_answer` meets its contract: each code is that of what the table says, the first refusal is the answer, and the figures
-- are those of the table or, where it is refused, as they were. Assumes nothing.
use Prim.Native.Nat.{ℕ, ◌<◌}
use mathlib.Core.Path.{◌≡◌, refl, sym, ◌∙◌, ap}
use mathlib.Core.List.{List, []}
use lib.ListN.{get_or}
use Rattle.std.specs.Prelude.{Result, IsErrAnd}
use Rattle.trade.specs.Layout.{Sections, sections}
use Rattle.trade.specs.Facts.{facts_of, facts_in, first_step, all_steps}
use Rattle.trade.specs.Answers.{done, first_of, no_number}
use Rattle.trade.specs.Codes.{code6, code8}
use Rattle.trade.specs.Calls.{new_rules, new_rules_by}
use Rattle.trade.specs.Refusals.{answer_of, tested}
use Rattle.trade.specs.declared.answer.Answer.{Answer}
use Rattle.trade.specs.declared.refusal.Refusal.{Refusal}
use Rattle.trade.proofs.Answers.{done_first, refused_second, first_of_refuse, first_of_pass}
use Rattle.trade.proofs.Refusals.{refuses, handed_on}
use Rattle.trade.proofs.Kept.{figures_counted}
use Rattle.sections.specs.Formed.{Formed}
use Rattle.sections.proofs.OwnSections.{code6_records, code8_steps}
use Rattle.sections.proofs.FormedLaws.{formed_by}
use Rattle.square.specs.Carried.{with_figures}
use Rattle.bounds.specs.Bounds.{refused_by}
use Rattle.table.proofs.CheckedLaws.{formed_timed}
use Rattle.rules.specs.Rules.{New, NewFigures}
use Rattle.square.proofs.CarriedLaws.{formed_pairs, with_figures_lem}
use Rattle.rules.proofs.RulesLaws.{nine_answered}
use Rattle.rules.proofs.rules.new_answer.Goals as goal
use Rattle.rules.proofs.rules.new_answer.Goals.{After-pairs_at-pairs, In_ok-records_answer, In_ok-steps_answer, Start}

abbrev coded : Answer → ℕ
coded a = a.code

-- the table
abbrev given : Start → Sections
given s = sections s.args.nodes s.args.flows s.args.rows.now s.args.records.now s.args.steps.now

-- refused before the figures are touched
untouched :
    (t : Sections) (old : List ℕ) (r : Result Unit Refusal) (e : Refusal)
    → IsErrAnd r (λ x. x ≡ e)
    → answer_of e ≡ first_of new_rules no_number t
    → NewFigures t old (tested r) old
untouched t old r e h a =
    let same = handed_on r e h in
    record { answer = same ∙ a; figures = sym (refused_second (tested r) _ _ (λ z. refuses e (sym (ap coded same) ∙ z))) }

-- what the passing of codes 6 and 8 says
six : (c : In_ok-records_answer) → (t : Sections) → code6 (facts_in 0 c.args.flows [] c.args.records.now []) ≡ code6 (facts_of t) → (code6 (facts_of t)).code ≡ 0
six c t e = sym (ap coded (c.in_ok-records_answer.ensures ∙ e))

eight : (c : In_ok-steps_answer) → (t : Sections) → code8 (facts_in c.args.nodes c.args.flows [] c.args.records.now c.args.steps.now) ≡ code8 (facts_of t) → (code8 (facts_of t)).code ≡ 0
eight c t e = sym (ap coded (c.in_ok-steps_answer.ensures ∙ e))

pub returns-in_err-records_answer : goal.returns-in_err-records_answer
unfolding new_rules_by
returns-in_err-records_answer c =
    let t = given (goal.at.returns-in_err-records_answer c).Start in
    let e = c.in_err-records_answer.field-0.0 in
    let a = c.in_err-records_answer.ensures ∙ code6_records t in
    untouched t c.args.figures.now c.from_residual.result e c.from_residual.ensures.1
    (a ∙ sym (first_of_refuse _ _ no_number t (λ z. refuses e (ap coded a ∙ z))))

pub steps_answer-requires : goal.steps_answer-requires
unfolding facts_of first_step all_steps
steps_answer-requires c =
    let p = goal.at.steps_answer-requires c in
    let t = given p.Start in
    let new = c.requires.new in
    record {
      flows_le_most_flows = (new.flows, new.records);
      flows_in_bounds = new.steps (six p.In_ok-records_answer t (code6_records t));
    }

pub returns-in_err-steps_answer : goal.returns-in_err-steps_answer
unfolding new_rules_by
returns-in_err-steps_answer c =
    let p = goal.at.returns-in_err-steps_answer c in
    let t = given p.Start in
    let e = c.in_err-steps_answer.field-0.0 in
    let a = c.in_err-steps_answer.ensures ∙ code8_steps t in
    untouched t c.args.figures.now c.from_residual-in_err-steps_answer.result e c.from_residual-in_err-steps_answer.ensures.1
    (a
    ∙ sym
    (first_of_pass _ _ no_number t (six p.In_ok-records_answer t (code6_records t))
    ∙ first_of_refuse _ _ no_number t (λ z. refuses e (ap coded a ∙ z))))

formed : (t : Sections) → New t → (code6 (facts_of t)).code ≡ 0 → (code8 (facts_of t)).code ≡ 0 → Formed t.flows t.rows t.records t.steps
formed t new six eight = formed_by t new.nodes new.flows new.rows new.records (new.steps six) six eight

pub invariant_of-parts : goal.invariant_of-parts
invariant_of-parts c =
    let p = goal.at.invariant_of-parts c in
    let t = given p.Start in
    record { formed = formed t c.requires.new (six p.In_ok-records_answer t (code6_records t)) (eight p.In_ok-steps_answer t (code8_steps t)) }

-- the pairs are bytes
bytes : (c : After-pairs_at-pairs) → Formed c.args.flows c.args.rows.now c.args.records.now c.args.steps.now → (i : ℕ) → get_or c.pairs_at-pairs.result i 0 < 256
bytes c f i = rw c.pairs_at-pairs.ensures (formed_pairs _ _ _ _ _ f c.requires.carried.within i)

pub bounds_with-requires : goal.bounds_with-requires
bounds_with-requires c =
    let p = goal.at.bounds_with-requires c in
    let t = given p.Start in
    let f = formed t c.requires.new (six p.In_ok-records_answer t (code6_records t)) (eight p.In_ok-steps_answer t (code8_steps t)) in
    (formed_timed _ _ _ _ f, c.requires.carried.size, bytes p.After-pairs_at-pairs f)

pub returns-in_err-bounds_with : goal.returns-in_err-bounds_with
returns-in_err-bounds_with c =
    let p = goal.at.returns-in_err-bounds_with c in
    let t = given p.Start in
    let e = c.in_err-bounds_with.field-0.0 in
    let six = six p.In_ok-records_answer t (code6_records t) in
    untouched t c.args.figures.now c.from_residual-in_err-bounds_with.result e c.from_residual-in_err-bounds_with.ensures.1
    (nine_answered t c.args.place c.args.figures.now c.pairs_at-pairs.result (refused_by (answer_of e)) c.requires.new.flows six
    (eight p.In_ok-steps_answer t (code8_steps t)) (c.requires.carried.right six) c.pairs_at-pairs.ensures c.in_err-bounds_with.ensures)

pub figures_in-requires : goal.figures_in-requires
figures_in-requires c =
    let p = goal.at.figures_in-requires c in
    let t = given p.Start in
    (c.requires.carried.size, bytes p.After-pairs_at-pairs (formed t c.requires.new (six p.In_ok-records_answer t (code6_records t)) (eight p.In_ok-steps_answer t (code8_steps t))))

pub returns : goal.returns
returns c =
    let a = c.args in
    let p = goal.at.returns c in
    let t = given p.Start in
    let six = six p.In_ok-records_answer t (code6_records t) in
    let nine =
    nine_answered t a.place a.figures.now c.pairs_at-pairs.result (record { answer = done 0; bounds = c.in_ok-bounds_with.field-0 }) c.requires.new.flows six
    (eight p.In_ok-steps_answer t (code8_steps t)) (c.requires.carried.right six) c.pairs_at-pairs.ensures c.in_ok-bounds_with.ensures in
    record {
      answer = nine;
      figures =
          c.figures_in.ensures
          ∙ ap (λ (pairs : List ℕ). with_figures a.flows a.place pairs a.figures.now) c.pairs_at-pairs.ensures
          ∙ with_figures_lem a.flows a.place a.rows.now a.records.now a.steps.now a.figures.now (c.requires.carried.right six) c.requires.new.flows
          ∙ figures_counted 0 a.nodes a.flows a.rows.now a.records.now a.steps.now
          ∙ sym (done_first (done 0) _ _ refl);
    }
