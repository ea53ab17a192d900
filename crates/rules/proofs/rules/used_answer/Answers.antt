-- `rules::rules::used_answer` meets its contract: the used places are there. Assumes nothing.
use Prim.Native.Nat.{◌*◌}
use mathlib.Core.Path.{sym}
use native.Mathlib.Omega.{arith}
use lib.ListN.{length-take}
use lib.Seq.{length-take-le}
use Rattle.trade.specs.Limits.{row_bytes, record_bytes}
use Rattle.rules.proofs.rules.used_answer.Goals as goal

pub slice_bounds-new_answer-end : goal.slice_bounds-new_answer-end
slice_bounds-new_answer-end c =
    omega (arith, c.requires.new.rows, length-take (row_bytes * c.args.nodes) c.args.rows.now)

pub slice_bounds-new_answer-end-2 : goal.slice_bounds-new_answer-end-2
slice_bounds-new_answer-end-2 c =
    omega (arith, c.requires.new.records, length-take (record_bytes * c.args.flows) c.args.records.now)

pub slice_bounds-new_answer-end-3 : goal.slice_bounds-new_answer-end-3
slice_bounds-new_answer-end-3 c = sym (length-take-le _ _ c.requires.end_in_bounds)
