-- `changes::entering::record_bytes` meets its contract: five words are put one behind the other. Assumes nothing.
use mathlib.Core.Path.{◌∙◌}
use Rattle.trade.specs.Bytes.{two_bytes}
use Rattle.trade.specs.Calls.{record_of}
use Rattle.numbers.specs.Pasting.{pasted_at}
use Rattle.changes.proofs.entering.record_bytes.Goals as goal

pub returns : goal.returns
unfolding pasted_at two_bytes record_of
returns c =
    let e₅ = c.put_word-5.ensures in
    let e₄ = c.put_word-4.ensures in
    let e₃ = c.put_word-3.ensures in
    let e₂ = c.put_word-2.ensures in
    let e₁ = c.put_word.ensures in
    e₅ ∙ rw (e₄, e₃, e₂, e₁)
