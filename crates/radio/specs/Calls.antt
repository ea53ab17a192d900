-- What the calls from C owe: the packed answer of check, start and advance, and what these leave in lent memory. Leans on the trade's
-- calls.
use Rattle.std.specs.Prelude.{ℕ, ◌≡◌, List}
use Rattle.trade.specs.Answers.{packed_of}
use Rattle.trade.specs.Calls.{check_of, Starting, start_of, Advancing, advance_of}

pub record AnswersCheck (book : List ℕ) (r : ℕ) : Type 0 where
  pub answer : r ≡ packed_of (check_of book).answer

pub record AnswersStart (s : Starting) (r : ℕ) (left : List ℕ) : Type 0 where
  pub answer : r ≡ packed_of (start_of s).answer
  pub area : left ≡ (start_of s).area

pub record AnswersAdvance (a : Advancing) (r : ℕ) (left made : List ℕ) : Type 0 where
  pub answer : r ≡ packed_of (advance_of a).answer
  pub area : left ≡ (advance_of a).area
  pub grants : made ≡ (advance_of a).grants
