-- `sections::records::is_misfit` meets its contract: it joins the tests of the five fields. Assumes nothing.
use Rattle.sections.specs.Records.{misfit}
use Rattle.sections.proofs.records.is_misfit.Goals as goal

pub returns : goal.returns
unfolding misfit
returns c =
    rw (
      c.is_outside.ensures,
      c.is_outside-2.ensures,
      c.is_outside-3.ensures,
      c.is_outside-4.ensures,
      c.is_outside-5.ensures,
    )
