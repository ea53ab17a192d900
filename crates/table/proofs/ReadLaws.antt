-- The table that a read returns, by what it answers. Leans on the book's OpenBookLaws. Assumes nothing.
use Prim.Native.Nat.{ℕ}
use mathlib.Core.Path.{◌≡◌, refl}
use mathlib.Core.List.{List}
use borrow.Author.Tests.{eq-eqb, ne_eqb}
use Rattle.trade.specs.Layout.{sections_of}
use Rattle.trade.specs.Table.{table_of}
use Rattle.trade.specs.Kept.{kept_of, empty_kept}
use Rattle.trade.specs.Answers.{is_done}
use Rattle.trade.specs.Calls.{read_answer, read_of}
use Rattle.table.specs.Table.{table_with}
use Rattle.trade.proofs.Whole.{used_whole}
use Rattle.book.proofs.OpenBookLaws.{passed}

pub read_refused : (b : List ℕ) → ((read_answer b).code ≡ 0 → ⊥) → (read_of b).table ≡ empty_kept
unfolding read_of is_done
read_refused b n = rw (ne_eqb (read_answer b).code 0 n)

pub read_done : (b : List ℕ) → (read_answer b).code ≡ 0 → (read_of b).table ≡ table_with (sections_of b).nodes (sections_of b).flows (sections_of b).rows (sections_of b).records (sections_of b).steps
unfolding read_of is_done kept_of table_of
read_done b e = rw (eq-eqb (read_answer b).code 0 e, used_whole b (passed b e)) refl
