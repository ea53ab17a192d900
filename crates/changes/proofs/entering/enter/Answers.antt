-- `changes::entering::enter` meets its contract: the old table or the place refuses, or the new table decides. Assumes nothing.
use Prim.Native.Nat.{ℕ, ◌*◌, ◌<◌, min}
use mathlib.Core.Path.{◌≡◌, sym, ◌∙◌, ap, transport}
use mathlib.Core.Bool.{cond}
use mathlib.Core.List.{[], ◌∷◌}
use native.Mathlib.Omega.{arith}
use lib.ListN.{length, take}
use lib.Seq.{length-take-le}
use borrow.Author.Rules.{rules}
use Rattle.std.specs.Prelude.{Result, IsErrAnd}
use Rattle.trade.specs.Limits.{most_steps, step_bytes}
use Rattle.trade.specs.Table.{used}
use Rattle.trade.specs.Kept.{KeptInMemory, kept_of}
use Rattle.trade.specs.Answers.{is_done, first_of, no_number}
use Rattle.trade.specs.Exchange.{recut}
use Rattle.trade.specs.Facts.{facts_in}
use Rattle.trade.specs.Codes.{code14, code15_adding}
use Rattle.trade.specs.Calls.{Adding, old_rules, enter_rules, with_flow, new_rules, record_of, add_of, add_by}
use Rattle.trade.specs.Refusals.{answer_of, tested}
use Rattle.trade.specs.declared.answer.Answer.{Answer}
use Rattle.trade.specs.declared.refusal.Refusal.{Refusal}
use Rattle.trade.proofs.Refusals.{refuses, handed_on}
use Rattle.table.specs.Table.{kept_in}
use Rattle.changes.specs.Change.{Returns}
use Rattle.changes.specs.Moved.{coming, Coming}
use Rattle.rules.proofs.RulesLaws.{leaves, ask_answer, old_decides, place_decides, enter_count, add_asked, add_new}
use Rattle.changes.proofs.EnteringLaws.{Enters, enter_comes, enter_made}
use Rattle.changes.proofs.entering.enter.Goals as goal
use Rattle.changes.proofs.entering.enter.Goals.{After-record_bytes-record, In_ok-enter_answer, Start}

-- what the call was handed
abbrev asked : Start → Adding
asked s = record { table = kept_in s.args.table.now; place = s.args.place; flow = s.args.flow; plan = s.args.plan }

abbrev coded : Answer → ℕ
coded a = a.code

memory : (s : Start) → KeptInMemory (asked s).table
memory s = record { sections = record { rows = search rules; records = search rules; steps = search rules }; figures = search rules }

places : (s : Start) → length (asked s).plan ≡ step_bytes * most_steps
places s = search rules

two : (s : Start) → (asked s).flow.len < 65536
two s = search rules

-- what refuses before the flow is put in
refused :
    (a : Adding) (r : Result Unit Refusal) (e : Refusal)
    → IsErrAnd r (λ x. x ≡ e)
    → answer_of e ≡ ask_answer a
    → Returns (add_of a) (tested r) a.table
unfolding add_by
refused a r e h k =
    let same = handed_on r e h in
    let answered = same ∙ k ∙ sym (add_asked a (λ z. refuses e (ap coded k ∙ z))) in
    record { answer = answered; table = leaves _ _ _ _ answered (λ z. refuses e (sym (ap coded same) ∙ z)) }

pub returns-in_err-whole : goal.returns-in_err-whole
returns-in_err-whole c =
    let a = asked (goal.at.returns-in_err-whole c).Start in
    let e = c.in_err-whole.field-0.0 in
    let old = c.in_err-whole.ensures in
    refused a c.from_residual.result e c.from_residual.ensures.1
    (old ∙ sym (old_decides (λ b. b.table) enter_rules a (λ z. refuses e (ap coded old ∙ z))))

pub returns-in_err-enter_answer : goal.returns-in_err-enter_answer
returns-in_err-enter_answer c =
    let a = asked (goal.at.returns-in_err-enter_answer c).Start in
    let e = c.in_err-enter_answer.field-0.0 in
    refused a c.from_residual-in_err-enter_answer.result e c.from_residual-in_err-enter_answer.ensures.1
    (c.in_err-enter_answer.ensures ∙ sym (place_decides (λ b. b.table) enter_rules a (sym (ap coded c.in_ok-whole.ensures)) ∙ enter_count a))

-- past them the flow may come in
enters : (c : In_ok-enter_answer) → (s : Start) → (ask_answer (asked s)).code ≡ 0 → Enters (asked s)
enters c s k = record { memory = memory s; plan = places s; len = two s; asked = k }

asks :
    (a : Adding)
    → (first_of old_rules no_number a.table).code ≡ 0
    → (first_of (code14 ∷ (λ f. code15_adding f a.place) ∷ []) no_number (facts_in 0 a.table.sections.flows [] [] [])).code ≡ 0
    → (ask_answer a).code ≡ 0
asks a old placed = ap coded (place_decides (λ b. b.table) enter_rules a old ∙ enter_count a) ∙ placed

comes :
    (c : After-record_bytes-record) (a : Adding)
    → Enters a
    → c.record_bytes-record.result ≡ record_of a.flow
    → c.places_taken-size.result ≡ min a.flow.len most_steps
    → Coming a.table a.place c.record_bytes-record.result (take (step_bytes * c.places_taken-size.result) a.plan)
comes c a e r s = transport (λ i. Coming a.table a.place (sym r i) (take (step_bytes * sym s i) a.plan)) (enter_comes a e)

makes :
    (c : After-record_bytes-record) (a : Adding)
    → Enters a
    → c.record_bytes-record.result ≡ record_of a.flow
    → c.places_taken-size.result ≡ min a.flow.len most_steps
    → recut (used a.table.sections) (coming a.place c.record_bytes-record.result (take (step_bytes * c.places_taken-size.result) a.plan)) ≡ with_flow a
makes c a e r s = (λ i. recut (used a.table.sections) (coming a.place (r i) (take (step_bytes * s i) a.plan))) ∙ enter_made a e

pub slice_bounds-taken-end : goal.slice_bounds-taken-end
slice_bounds-taken-end c = omega (arith, places (goal.at.slice_bounds-taken-end c).Start, c.places_taken-size.ensures)

pub slice_bounds-flow_in-end-2 : goal.slice_bounds-flow_in-end-2
slice_bounds-flow_in-end-2 c =
    sym (length-take-le _ _ (omega (arith, places (goal.at.slice_bounds-flow_in-end-2 c).Start, c.places_taken-size.ensures)))

pub flow_in-requires : goal.flow_in-requires
flow_in-requires c =
    let p = goal.at.flow_in-requires c in
    let a = asked p.Start in
    let k = asks a (sym (ap coded c.in_ok-whole.ensures)) (sym (ap coded c.in_ok-enter_answer.ensures)) in
    comes p.After-record_bytes-record a (enters p.In_ok-enter_answer p.Start k) c.record_bytes-record.ensures c.places_taken-size.ensures

pub returns : goal.returns
unfolding add_by
returns c =
    let p = goal.at.returns c in
    let a = asked p.Start in
    let k = asks a (sym (ap coded c.in_ok-whole.ensures)) (sym (ap coded c.in_ok-enter_answer.ensures)) in
    let made = makes p.After-record_bytes-record a (enters p.In_ok-enter_answer p.Start k) c.record_bytes-record.ensures c.places_taken-size.ensures in
    let e = c.flow_in.ensures.answer ∙ ap (first_of new_rules no_number) made ∙ sym (add_new a k) in
    record {
      answer = e;
      table = c.flow_in.ensures.table ∙ (λ i. cond (is_done (e i)) (kept_of (made i)) a.table);
    }
