-- `sections::records::flow_of` meets its contract: each field is the word at its place. Assumes nothing.
use Rattle.trade.specs.Layout.{field}
use Rattle.trade.specs.Facts.{flow_in}
use Rattle.sections.proofs.records.flow_of.Goals as goal

pub returns : goal.returns
unfolding flow_in field
returns c =
    λ i.
    record {
      id = c.word_at.ensures i;
      phase = c.word_at-2.ensures i;
      period = c.word_at-3.ensures i;
      deadline = c.word_at-4.ensures i;
      len = c.word_at-5.ensures i;
    }
