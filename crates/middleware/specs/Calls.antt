-- What the calls from C owe: the packed answer of what is told of a flow. Leans on the trade's Why.
use Rattle.std.specs.Prelude.{ℕ, ◌≡◌}
use Rattle.trade.specs.Answers.{packed_of}
use Rattle.trade.specs.Why.{Asking, ask_of, answer_of}

pub record AnswersWhy (a : Asking) (r : ℕ) : Type 0 where
  pub answer : r ≡ packed_of (answer_of (ask_of a))
