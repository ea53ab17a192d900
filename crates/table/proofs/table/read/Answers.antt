-- `table::table::read` meets its contract: a refused book has a table of zeros, and the parts of another are copied over zeros.
-- Assumes nothing.
use mathlib.Core.Path.{◌≡◌, ◌∙◌, sym, ap}
use native.Mathlib.Omega.{arith}
use Rattle.trade.specs.Layout.{Sections, sections_of}
use Rattle.trade.specs.Calls.{read_answer, read_of}
use Rattle.trade.specs.declared.answer.Answer.{Answer}
use Rattle.trade.proofs.Refusals.{refuses}
use Rattle.sections.specs.Parts.{sections_held}
use Rattle.book.specs.Frame.{frame_of}
use Rattle.book.proofs.OpenBookLaws.{done_lies, rows_fit, records_fit, steps_fit}
use Rattle.table.specs.Table.{table_with}
use Rattle.table.proofs.ReadLaws.{read_refused, read_done}
use Rattle.table.proofs.table.read.Goals as goal
use Rattle.table.proofs.table.read.Goals.{In-Ok}

-- a book that is done, and what its parts hold
opened : (c : In-Ok) → ((read_answer c.args.book.now).code ≡ 0) × (sections_held c.in-Ok.parts ≡ sections_of c.args.book.now)
opened c = (sym (ap (λ (a : Answer). a.code) c.in-Ok.ensures.answer), c.in-Ok.ensures.parts)

pub overflow_cast-parts : goal.overflow_cast-parts
unfolding frame_of sections_of
overflow_cast-parts c =
    let (done, held) = opened (goal.at.overflow_cast-parts c).In-Ok in
    omega (arith, ap (λ (s : Sections). s.nodes) held, (done_lies c.args.book.now done).nodes)

pub table_of-table-requires-clause-rows_len_bound : goal.table_of-table-requires-clause-rows_len_bound
table_of-table-requires-clause-rows_len_bound c =
    let book = c.args.book.now in
    let (done, held) = opened (goal.at.table_of-table-requires-clause-rows_len_bound c).In-Ok in (
      rw (ap (λ (s : Sections). s.rows) held) (rows_fit book done),
      rw (ap (λ (s : Sections). s.records) held) (records_fit book done),
      rw (ap (λ (s : Sections). s.steps) held) (steps_fit book done),
    )

pub returns : goal.returns
unfolding read_of
returns c =
    let book = c.args.book.now in
    let (done, held) = opened (goal.at.returns c).In-Ok in
    record {
      answer = c.done.ensures ∙ c.in-Ok.ensures.answer;
      table = c.table_of-table.ensures ∙ ap (λ (s : Sections). table_with s.nodes s.flows s.rows s.records s.steps) held ∙ sym (read_done book done);
    }

pub returns-in-Err : goal.returns-in-Err
unfolding read_of
returns-in-Err c =
    let e = c.in-Err.ensures.answer in
    record {
      answer = c.answer.ensures ∙ e;
      table = c.empty.ensures ∙ sym (read_refused c.args.book.now (λ z. refuses c.in-Err.refusal (ap (λ (a : Answer). a.code) e ∙ z)));
    }
