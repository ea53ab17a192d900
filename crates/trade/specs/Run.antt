-- The values that the constructors of the run in code make. Leans on Limits.
use Rattle.std.specs.Prelude.{replicate, ℕ}
use Rattle.trade.specs.Limits.{most_flows}
use Rattle.trade.specs.declared.state.Progress.{Progress}
use Rattle.trade.specs.declared.state.Run.{Run}

-- an idle flow: its byte is its L
abbrev pub idle_of : ℕ → Progress
idle_of len = record { done = record { 0 = len } }

-- the empty run: slot 0, and every place 0
abbrev pub empty_run : Run
empty_run = record { slot = record { 0 = 0 }; flows = replicate most_flows (idle_of 0) }
