-- `table::table::table_of` meets its contract: each section is copied over zeros, and the figures are worked out. Assumes nothing.
use Prim.Native.Nat.{ℕ}
use mathlib.Core.Path.{◌≡◌, ◌∙◌, ap}
use mathlib.Core.List.{List, ◌++◌}
use lib.ListN.{length, drop, replicate}
use Rattle.trade.specs.Bytes.{over, padded}
use Rattle.trade.specs.Layout.{sections}
use Rattle.trade.specs.Table.{rows_room, records_room, steps_room}
use Rattle.trade.proofs.Kept.{figures_counted}
use Rattle.numbers.proofs.PastingLaws.{over_zeros}
use Rattle.table.proofs.table.table_of.Goals as goal

-- what is copied to the front of zeros has zeros behind it
copied : (room : ℕ) (src part : List ℕ) → part ≡ src → part ++ drop (length src) (replicate room 0) ≡ padded room src
unfolding over
copied room src part e = ap (λ (p : List ℕ). p ++ drop (length src) (replicate room 0)) e ∙ over_zeros room src

pub returns : goal.returns
returns c =
    let a = c.args in
    λ i.
    record {
      sections =
          sections a.nodes a.flows (copied rows_room a.rows.now c.copy_from_slice.new.self c.copy_from_slice.ensures.after i)
          (copied records_room a.records.now c.copy_from_slice-2.new.self c.copy_from_slice-2.ensures.after i)
          (copied steps_room a.steps.now c.copy_from_slice-3.new.self c.copy_from_slice-3.ensures.after i);
      figures = (c.keep.ensures ∙ figures_counted 0 a.nodes a.flows a.rows.now a.records.now a.steps.now) i;
    }
