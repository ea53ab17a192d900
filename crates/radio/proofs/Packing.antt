-- Packing an answer that is known. Assumes nothing.
use Prim.Native.Nat.{ℕ, ◌<◌}
use mathlib.Core.Path.{◌≡◌, ◌∙◌, ap}
use Rattle.trade.specs.Limits.{packing}
use Rattle.trade.specs.Answers.{packed_of}
use Rattle.trade.specs.declared.answer.Answer.{Answer}

-- its number fits where that of the call's answer does
pub fits : {r known : Answer} → r ≡ known → known.number < packing → r.number < packing
fits e h = rw e h

-- the packed number is that of the call's answer
pub packs : {n : ℕ} {r known : Answer} → n ≡ packed_of r → r ≡ known → n ≡ packed_of known
packs p e = p ∙ ap packed_of e
