-- `sections::records::records_in_doubt` meets its contract: no record before i is bad where it says so, and the lower bytes of their ids are
-- marked. Assumes nothing.
use Prim.Native.Nat.{ℕ, ◌<◌, ◌%◌}
use mathlib.Core.Path.{◌≡◌}
use mathlib.Core.Bool.{true, false}
use mathlib.Core.List.{[]}
use lib.ListN.{length, get_or}
use Rattle.trade.specs.Layout.{field}
use Rattle.trade.specs.Facts.{facts_in}
use Rattle.trade.specs.Codes.{bad_record}
use Rattle.sections.proofs.records.records_in_doubt.Given as goal

abbrev pub invariant-loop-i : goal.invariant-loop-i
invariant-loop-i l =
    (l.bad ≡ false → (k : ℕ) → k < l.i → bad_record (facts_in 0 0 [] l.records []) k ≡ false)
    × ((k : ℕ) → k < l.i → get_or l.met (field l.records k 0 % 256) false ≡ true)
    × (length l.met ≡ 256)
