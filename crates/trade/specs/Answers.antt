-- How a call answers: a code and the number that goes with it. Leans on Limits and First.
use Rattle.std.specs.Prelude.{ℕ, ◌+◌, ◌*◌, Bool, true, false, cond, List, [], ◌∷◌, ◌++◌, map, eqb, decimal}
use Rattle.trade.specs.Limits.{packing}
use Rattle.trade.specs.First.{first, some}
use Rattle.trade.specs.declared.answer.Answer.{Answer}

-- success is code 0, with a number
abbrev pub done : ℕ → Answer
done number = record { code = 0; number = number }

-- a refusal is any other code, with a number
abbrev pub refused : ℕ → ℕ → Answer
refused code number = record { code = code; number = number }

-- the call was done
unfoldable pub is_done : Answer → Bool
is_done a = eqb a.code 0

-- a code, given exactly when a condition holds, with its number
unfoldable pub given : ℕ → Bool → ℕ → Answer
given code condition number = cond condition (refused code number) (done 0)

-- a code, given exactly when one of n places is bad, with the first such place
unfoldable pub given_first : ℕ → (ℕ → Bool) → ℕ → Answer
given_first code bad n = given code (some bad n) (first bad n)

-- the rules of a call, each tested where those before it have passed: the first refusal is the answer, and where there is none the
-- call is done, with its number
unfoldable pub first_of : {A : Type 0} → List (A → Answer) → (A → ℕ) → A → Answer
first_of [] number x = done (number x)
first_of (rule ∷ rules) number x = elim (is_done (rule x)) [ true ↦ first_of rules number x | false ↦ rule x ]

-- rules that look at a part of what the call is handed
unfoldable pub on : {A B : Type 0} → (B → A) → List (A → Answer) → List (B → Answer)
on look rules = map (λ rule. λ x. rule (look x)) rules

-- success has the number 0 where none is named
abbrev pub no_number : {A : Type 0} → A → ℕ
no_number x = 0

-- the one number that answers C, for the three calls of the crate `radio`
abbrev pub packed_of : Answer → ℕ
packed_of a = a.code * packing + a.number

-- how an answer is printed: its code and its number in decimal, with a space between them
abbrev pub printed_of : Answer → List ℕ
printed_of a = decimal a.code ++ (32 ∷ []) ++ decimal a.number
