-- One flow's turn: what is left where it waits, and where it goes. Leans on nothing. Assumes nothing.
use Prim.Native.Nat.{ℕ, ◌≤◌, ◌<◌}
use mathlib.Core.Path.{◌≡◌, refl}
use mathlib.Core.Bool.{true, false}
use mathlib.Core.List.{List}
use borrow.Author.Tests.{lt-ltb, le-ltb}
use Rattle.std.specs.Prelude.{Some, None}
use Rattle.trade.proofs.First.{not_both}
use Rattle.nodes.specs.Grants.{clashes_with, Grown}
use Rattle.nodes.specs.declared.grants.GrantSet.{GrantSet}
use Rattle.slot.specs.Choice.{next_of, goes_now, Turned}
use Rattle.slot.specs.declared.choice.Turn.{Turn}

module _ (rows steps : List ℕ) (turn : Turn) (set : GrantSet) where
  turned_waits : goes_now rows steps turn set ≡ false → Turned rows steps turn set None set
  turned_waits e = record { sends = rw e; waits = λ w. refl; more = λ g. absurd (not_both g e) }

  -- a flow that has finished waits,
  pub turned_finished : turn.len ≤ turn.done.0 → Turned rows steps turn set None set
  unfolding goes_now
  turned_finished h = turned_waits (rw (le-ltb turn.done.0 turn.len h))

  -- and one whose next step clashes
  pub turned_clashes : turn.done.0 < turn.len → clashes_with rows set (next_of steps turn) ≡ true → Turned rows steps turn set None set
  unfolding goes_now
  turned_clashes h e = turned_waits (rw (lt-ltb turn.done.0 turn.len h, e))

  -- any other goes
  pub turned_goes :
      turn.done.0 < turn.len
      → clashes_with rows set (next_of steps turn) ≡ false
      → (left : GrantSet)
      → Grown rows set (next_of steps turn) left
      → Turned rows steps turn set (Some (next_of steps turn)) left
  unfolding goes_now
  turned_goes h e left grown = record { sends = rw goes; waits = λ w. absurd (not_both goes w); more = λ g. grown }
    where
      goes : goes_now rows steps turn set ≡ true
      goes = rw (lt-ltb turn.done.0 turn.len h, e)
