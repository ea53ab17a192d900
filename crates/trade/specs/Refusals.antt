-- What a refusal is in the rules' own terms: its code and its number. And the answer of a function that gives something or is refused.
-- Leans on Answers.
use Rattle.std.specs.Prelude.{ℕ, Result, Ok, Err}
use Rattle.trade.specs.Answers.{done, refused}
use Rattle.trade.specs.declared.answer.Answer.{Answer}
use Rattle.trade.specs.declared.refusal.Refusal.{Refusal}
use Rattle.trade.specs.declared.refusal.Refusal.TheVariants.{Short, Unmarked, Miscounted, Astray, BadRow, BadRecord, Uneven, BadStep, Late, BadArea, Overrun, Ended, NoRoom, Full, NoPlace, BadFigure}

-- each refusal has one code, and no two have the same
abbrev pub answer_of : Refusal → Answer
answer_of Short = refused 1 0
answer_of Unmarked = refused 2 0
answer_of Miscounted = refused 3 0
answer_of Astray = refused 4 0
answer_of (BadRow x) = refused 5 x
answer_of (BadRecord i) = refused 6 i
answer_of Uneven = refused 7 0
answer_of (BadStep k) = refused 8 k
answer_of (Late l) = refused 9 l
answer_of (BadArea i) = refused 10 i
answer_of (Overrun i) = refused 11 i
answer_of Ended = refused 12 0
answer_of NoRoom = refused 13 0
answer_of Full = refused 14 0
answer_of NoPlace = refused 15 0
answer_of (BadFigure l) = refused 17 l

-- the answer of what a function gives: done with the number of what it gives, or refused
abbrev pub answered : {A : Type 0} → (A → ℕ) → Result A Refusal → Answer
answered number (Ok x) = done (number x)
answered number (Err refusal) = answer_of refusal

-- with the number 0
abbrev pub tested : {A : Type 0} → Result A Refusal → Answer
tested (Ok x) = done 0
tested (Err refusal) = answer_of refusal
