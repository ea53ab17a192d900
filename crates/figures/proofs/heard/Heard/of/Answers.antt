-- `figures::heard::Heard::of` holds a table in which each sender and each receiver above is heard. Assumes nothing.
use Rattle.std.proofs.Common.{arith}
use Rattle.figures.proofs.FiguresLaws.{all_heard}
use Rattle.figures.proofs.heard.Heard.of.Goals as goal

pub invariant_of-result : goal.invariant_of-result
invariant_of-result c =
    let p = c.args.parts in
    let heard = c.hear_above.ensures in
    record {
      size = omega (arith, heard.size);
      all = λ l b. all_heard p.flows l p.rows.now p.records.now p.steps.now _ p.formed b heard;
    }
