-- `why::told::blocker` looks at place by place. The loop's invariant: none up to h blocks. Assumes nothing.
use Prim.Native.Nat.{ℕ, ◌<◌}
use mathlib.Core.Path.{◌≡◌}
use mathlib.Core.Bool.{Bool, false, ◌&&◌}
use mathlib.Core.List.{List}
use Rattle.trade.specs.Bytes.{bit}
use Rattle.trade.specs.Facts.{disturbs_in}
use Rattle.trade.specs.Conflict.{conflict}
use Rattle.trade.specs.declared.node.Transmission.{Transmission}
use Rattle.slot.specs.Choice.{sent_at}
use Rattle.why.proofs.told.blocker.Given as goal

-- whether a place blocks
abbrev pub test : List ℕ → ℕ → List Transmission → Transmission → ℕ → Bool
test rows places sent step h = bit places h && conflict (disturbs_in rows) (sent_at sent h) step

abbrev pub invariant-loop-h : goal.invariant-loop-h
invariant-loop-h l = (k : ℕ) → k < l.h → test l.rows l.choice.places l.choice.sent l.step k ≡ false
