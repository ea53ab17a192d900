-- `table::written::write_table` meets its contract: refused, nothing is put; done, the book is. Assumes nothing.
use Rattle.std.proofs.Common.{rules}
use Prim.Native.Nat.{ℕ, ◌+◌, ◌*◌, ◌≤◌}
use mathlib.Core.Path.{◌≡◌, ◌∙◌, sym, ap, subst}
use lib.ListN.{length}
use Rattle.trade.specs.First.{sum_to}
use Rattle.trade.specs.Bytes.{over}
use Rattle.trade.specs.Layout.{Sections, field}
use Rattle.trade.specs.Facts.{facts_of, first_step, all_steps}
use Rattle.trade.specs.Table.{InMemory, book_of}
use Rattle.trade.specs.Answers.{done, first_of, no_number}
use Rattle.trade.specs.Calls.{table_rules}
use Rattle.trade.specs.declared.answer.Answer.{Answer}
use Rattle.trade.proofs.Refusals.{refuses, number_handed_on}
use Rattle.sections.specs.Parts.{sections_held}
use Rattle.table.specs.Table.{sections_in}
use Rattle.table.specs.Written.{Room, Writes}
use Rattle.table.proofs.WrittenLaws.{roomy, long, write_refused, write_short, write_done}
use Rattle.table.proofs.written.write_table.Goals as goal
use Rattle.table.proofs.written.write_table.Goals.{After-steps_before-all, In_ok-parts}

-- the table passes, and its parts are its own
passes : (c : In_ok-parts) → (first_of table_rules no_number (sections_in c.args.t.now)).code ≡ 0
passes c = sym (ap (λ (r : Answer). r.code) c.in_ok-parts.ensures.answer)

held : (c : In_ok-parts) → sections_held c.in_ok-parts.parts ≡ sections_in c.args.t.now
held c = c.in_ok-parts.ensures.parts

-- the sum of L is what the facts say
summed : (c : After-steps_before-all) → c.steps_before-all.result ≡ all_steps (facts_of (sections_in c.args.t.now))
unfolding all_steps first_step facts_of
summed c = c.steps_before-all.ensures.0 ∙ ap (λ (s : Sections). sum_to (λ i. field s.records i 4) s.flows) c.in_ok-parts.ensures.parts

-- and the length that is worked out is the book's
counted :
    (c : After-steps_before-all)
    → length (book_of (sections_in c.args.t.now)) ≡ 8 * c.in_ok-parts.parts.nodes + 10 * c.in_ok-parts.parts.flows + 2 * c.steps_before-all.result + 10
counted c =
    let t = sections_in c.args.t.now in
    let all : ℕ = c.steps_before-all.result in
    let m : InMemory t = search rules in
    long t m (sym (ap (λ (r : Answer). r.code) c.in_ok-parts.ensures.answer)) all (summed c)
    ∙ sym (ap (λ (s : Sections). 8 * s.nodes + 10 * s.flows + 2 * all + 10) c.in_ok-parts.ensures.parts)

pub returns-in_err-parts : goal.returns-in_err-parts
returns-in_err-parts c =
    let t = sections_in c.args.t.now in
    let e = c.in_err-parts.field-0.0 in
    let a = c.in_err-parts.ensures.answer in
    subst (λ (r : Answer). Writes t c.args.buffer.now r c.args.buffer.now) (sym (number_handed_on (λ len. len) c.from_residual.result e c.from_residual.ensures.1 ∙ a))
    (write_refused t c.args.buffer.now (λ z. refuses e (ap (λ (x : Answer). x.code) a ∙ z)))

pub returns-then-buffer-len : goal.returns-then-buffer-len
returns-then-buffer-len c =
    let p = goal.at.returns-then-buffer-len c in
    write_short (sections_in c.args.t.now) c.args.buffer.now (passes p.In_ok-parts) (rw (counted p.After-steps_before-all) c.if-buffer-len.true)

pub fill-requires : goal.fill-requires
fill-requires c =
    let p = goal.at.fill-requires c in
    let t = sections_in c.args.t.now in
    let all : ℕ = c.steps_before-all.result in
    let m : InMemory t = search rules in
    let room : 8 * t.nodes + 10 * t.flows + 2 * all + 10 ≤ length c.args.buffer.now =
    subst (λ (s : Sections). 8 * s.nodes + 10 * s.flows + 2 * all + 10 ≤ length c.args.buffer.now) (held p.In_ok-parts) c.if-buffer-len.false in
    subst (λ (s : Sections). Room s all (length c.args.buffer.now)) (sym (held p.In_ok-parts))
    (roomy t m (passes p.In_ok-parts) all (summed p.After-steps_before-all) (length c.args.buffer.now) room)

pub returns : goal.returns
returns c =
    let p = goal.at.returns c in
    let t = sections_in c.args.t.now in
    let w = write_done t c.args.buffer.now (passes p.In_ok-parts) (rw (counted p.After-steps_before-all) c.if-buffer-len.false) in
    record {
      answer = ap done (sym (counted p.After-steps_before-all)) ∙ w.answer;
      buffer = c.fill.ensures ∙ ap (λ (s : Sections). over (book_of s) c.args.buffer.now) (held p.In_ok-parts) ∙ w.buffer;
    }
