-- A record's fields by themselves. Leans on the trade's limits and codes.
use Rattle.std.specs.Prelude.{Bool, ◌||◌}
use Rattle.trade.specs.Limits.{most_steps, most_id, most_phase, most_period}
use Rattle.trade.specs.Codes.{outside}
use Rattle.trade.specs.declared.flow.Flow.{Flow}

-- a field is outside its range
unfoldable pub misfit : Flow → Bool
misfit w =
    outside 1 most_id w.id
    || outside 0 most_phase w.phase
    || outside 1 most_period w.period
    || outside 1 w.period w.deadline
    || outside 1 most_steps w.len
