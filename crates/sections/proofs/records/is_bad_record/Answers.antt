-- `sections::records::is_bad_record` meets its contract: the two tests are those of code 6. Assumes nothing.
use Rattle.sections.proofs.RecordsLaws.{bad_record_lem}
use Rattle.sections.proofs.records.is_bad_record.Goals as goal

pub returns : goal.returns
returns c =
    let a = c.args in
    rw (c.is_misfit.ensures, c.record_at.ensures, c.is_repeat-repeat.ensures)
    (bad_record_lem a.records.now a.i)
