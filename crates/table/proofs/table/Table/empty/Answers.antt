-- `table::table::Table::empty` meets its contract: its places are the zeros that pad an empty table. Assumes nothing.
use mathlib.Core.Path.{refl, sym}
use Rattle.trade.specs.First.{sum_to}
use Rattle.trade.specs.Bytes.{padded}
use Rattle.trade.specs.Facts.{facts_of, first_step, all_steps}
use Rattle.trade.specs.Table.{used, table_of, empty_table}
use Rattle.trade.specs.Kept.{kept_of, empty_kept}
use Rattle.trade.proofs.Kept.{figures_none}
use Rattle.table.proofs.table.Table.empty.Goals as goal

pub returns : goal.returns
unfolding empty_kept kept_of empty_table table_of used padded all_steps first_step facts_of sum_to
returns c = λ i. record { sections = empty_table; figures = sym (figures_none (facts_of empty_table) refl) i }
