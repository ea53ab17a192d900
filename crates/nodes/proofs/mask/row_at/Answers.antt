-- `nodes::mask::row_at` is the eight bytes of the row, the first the lowest. Assumes nothing.
use native.Mathlib.Omega.{arith}
use Rattle.nodes.specs.Mask.{row_mask}
use Rattle.nodes.proofs.MaskLaws.{eight_bytes}
use Rattle.nodes.proofs.mask.row_at.Goals as goal

pub returns : goal.returns
unfolding row_mask
returns c = rw (c.from_le_bytes.ensures, c.as_chunks.ensures.front) (eight_bytes _ c.args.x c.args.rows.now (omega arith))
