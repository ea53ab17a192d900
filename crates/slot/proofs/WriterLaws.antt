-- A grant in its nine bytes: the id, the instance behind it, then the rest. Leans on the numbers' PastingLaws. Assumes nothing.
use Prim.Native.Nat.{ℕ, ◌≤◌}
use mathlib.Core.Path.{◌≡◌, ◌∙◌, ap}
use mathlib.Core.List.{List, [], ◌∷◌, ◌++◌}
use native.Mathlib.Omega.{arith}
use lib.ListN.{length}
use lib.Seq.{sets, sets-eq}
use Rattle.trade.specs.Limits.{grant_bytes}
use Rattle.trade.specs.Bytes.{two_bytes, four_bytes, over}
use Rattle.trade.specs.declared.state.Grant.{Grant}
use Rattle.trade.proofs.Bytes.{length_over}
use Rattle.numbers.specs.Pasting.{pasted_at}
use Rattle.numbers.proofs.PastingLaws.{pasted_first, pasted_next}
use Rattle.slot.specs.States.{bytes_of}

module _ (g : Grant) (d d₁ d₂ : List ℕ) (room : grant_bytes ≤ length d)
    (named : d₁ ≡ pasted_at 0 (two_bytes g.id) d) (numbered : d₂ ≡ pasted_at 2 (four_bytes g.instance.0) d₁) where
  fronted : d₂ ≡ over (two_bytes g.id ++ four_bytes g.instance.0) d
  unfolding two_bytes
  fronted =
      numbered
      ∙ ap (pasted_at 2 (four_bytes g.instance.0)) (named ∙ pasted_first (two_bytes g.id) d)
      ∙ pasted_next (two_bytes g.id) (four_bytes g.instance.0) d

  numbered_length : length d₂ ≡ length d
  unfolding two_bytes four_bytes
  numbered_length = ap length fronted ∙ length_over (two_bytes g.id ++ four_bytes g.instance.0) d (omega arith)

  pub grant_written : sets d₂ 6 (g.step.0 ∷ g.transmission.sender.0 ∷ g.transmission.receiver.0 ∷ []) ≡ over (bytes_of g) d
  unfolding bytes_of two_bytes four_bytes pasted_at
  grant_written =
      let rest : List ℕ = g.step.0 ∷ g.transmission.sender.0 ∷ g.transmission.receiver.0 ∷ [] in
      sets-eq rest d₂ 6 (omega (arith, numbered_length))
      ∙ ap (pasted_at 6 rest) fronted
      ∙ pasted_next (two_bytes g.id ++ four_bytes g.instance.0) rest d
