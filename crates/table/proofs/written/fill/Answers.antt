-- `table::written::fill` meets its contract: each part is put behind those before it. Assumes nothing.
use Prim.Native.Nat.{ℕ, ◌+◌, ◌*◌}
use mathlib.Core.Path.{◌∙◌, sym, ap}
use mathlib.Core.List.{List}
use native.Mathlib.Omega.{arith}
use lib.ListN.{length}
use lib.Seq.{length-take-le}
use Rattle.sections.specs.Parts.{sections_held}
use Rattle.numbers.specs.Pasting.{pasted_at}
use Rattle.table.proofs.WrittenLaws.{book_room, put_in_turn}
use Rattle.table.proofs.written.fill.Goals as goal

pub slice_bounds-put_at-end : goal.slice_bounds-put_at-end
slice_bounds-put_at-end c = sym (length-take-le (8 * c.args.parts.nodes) c.args.parts.rows.now c.requires.rows)

pub put_at-requires : goal.put_at-requires
put_at-requires c =
    omega
    (arith, length-take-le (8 * c.args.parts.nodes) c.args.parts.rows.now c.requires.rows, book_room (sections_held c.args.parts) c.args.all (length c.args.buffer.now) c.requires)

pub slice_bounds-put_at-end-2 : goal.slice_bounds-put_at-end-2
slice_bounds-put_at-end-2 c = sym (length-take-le (10 * c.args.parts.flows) c.args.parts.records.now c.requires.records)

pub put_at-requires-2 : goal.put_at-requires-2
put_at-requires-2 c =
    omega
    (arith, length-take-le (10 * c.args.parts.flows) c.args.parts.records.now c.requires.records, book_room (sections_held c.args.parts) c.args.all (length c.args.buffer.now) c.requires, c.put_at.auto.buffer)

pub slice_bounds-put_at-end-3 : goal.slice_bounds-put_at-end-3
slice_bounds-put_at-end-3 c = sym (length-take-le (2 * c.args.all) c.args.parts.steps.now c.requires.steps)

pub put_at-requires-3 : goal.put_at-requires-3
put_at-requires-3 c =
    omega
    (arith, length-take-le (2 * c.args.all) c.args.parts.steps.now c.requires.steps, book_room (sections_held c.args.parts) c.args.all (length c.args.buffer.now) c.requires, c.put_at-2.auto.buffer, c.put_at.auto.buffer)

pub put_at-requires-4 : goal.put_at-requires-4
put_at-requires-4 c =
    omega
    (arith, book_room (sections_held c.args.parts) c.args.all (length c.args.buffer.now) c.requires, ap length c.trailer_bytes-trailer.ensures, c.put_at-3.auto.buffer, c.put_at-2.auto.buffer, c.put_at.auto.buffer)

pub returns : goal.returns
returns c =
    put_in_turn (sections_held c.args.parts) c.args.all (length c.args.buffer.now) c.requires c.args.buffer.now
    c.put_at.new.buffer c.put_at-2.new.buffer c.put_at-3.new.buffer c.put_at-4.new.buffer
    c.put_at.ensures c.put_at-2.ensures c.put_at-3.ensures
    (c.put_at-4.ensures
    ∙ ap (λ (tail : List ℕ). pasted_at (8 * c.args.parts.nodes + 10 * c.args.parts.flows + 2 * c.args.all) tail c.put_at-3.new.buffer) c.trailer_bytes-trailer.ensures)
