-- `figures::lanes::has_room` asks for both. Assumes nothing.
use Rattle.std.proofs.Common.{refl, le-ltb, lt-ltb}
use Rattle.figures.proofs.lanes.has_room.Goals as goal

pub returns-then-h-l : goal.returns-then-h-l
returns-then-h-l c = rw (lt-ltb _ _ c.if-h-l.true) refl

pub returns-else-h-l : goal.returns-else-h-l
returns-else-h-l c = rw (le-ltb _ _ c.if-h-l.false) refl
