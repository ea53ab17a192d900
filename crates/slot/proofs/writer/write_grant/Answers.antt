-- `slot::writer::write_grant` writes the id, the instance behind it, and the rest. Assumes nothing.
use Rattle.slot.proofs.WriterLaws.{grant_written}
use Rattle.slot.proofs.writer.write_grant.Goals as goal

pub returns : goal.returns
returns c =
    grant_written c.args.g c.args.part.now c.put_word.new.buffer
    c.put_long.new.buffer c.requires c.put_word.ensures c.put_long.ensures
