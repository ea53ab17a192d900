-- `sections::records::record_at` meets its contract: the part that starts at the record has it in front. Assumes nothing.
use Prim.Native.Nat.{ℕ, ◌*◌}
use mathlib.Core.Path.{◌∙◌, ap}
use mathlib.Core.List.{List}
use Rattle.trade.specs.Limits.{record_bytes}
use Rattle.trade.specs.Facts.{flow_in}
use Rattle.numbers.proofs.NumbersLaws.{part_tail}
use Rattle.sections.proofs.RecordsLaws.{flow_part}
use Rattle.sections.proofs.records.record_at.Goals as goal

pub returns : goal.returns
returns c =
    let records = c.args.records.now in
    let i = c.args.i in
    c.flow_of.ensures ∙ ap (λ (l : List ℕ). flow_in l 0) (part_tail (record_bytes * i) records) ∙ flow_part records i
