-- The response bound, acceptance, and code 9. What the bound of a flow reads of the flows above it is a parameter, the measure: their
-- interference and their bounds. Leans on Interference, First and Answers.
use Rattle.std.specs.Prelude.{ℕ, zero, suc, ◌+◌, ◌-◌, ◌*◌, ◌/◌, ◌≤◌, Bool, not, ◌&&◌, List, [], ◌∷◌, ◌++◌, leb, get_or}
use Rattle.trade.specs.First.{first, some, sum_to}
use Rattle.trade.specs.Facts.{Facts}
use Rattle.trade.specs.Answers.{given_first}
use Rattle.trade.specs.Interference.{interference}
use Rattle.trade.specs.declared.answer.Answer.{Answer}

-- ceil(a / b)
unfoldable pub ceil : ℕ → ℕ → ℕ
ceil a b = (a + (b - 1)) / b

-- how many instances of a flow above may act within R slots, where one may be carried in for so many slots
unfoldable pub instances : ℕ → ℕ → ℕ → ℕ
instances R carry period = ceil (R + carry - 1) period

-- a measure of flows: the slots that one instance of h may cost l, and how long an instance of h may be carried into a window
pub record Measure : Type 0 where
  pub cost : ℕ → ℕ → ℕ
  pub carry : ℕ → ℕ

-- by interference one instance of h costs l at most I(l,h), whatever the carry-in
abbrev pub by_interference : Facts → (ℕ → ℕ) → Measure
by_interference f carry = record { cost = interference f; carry = carry }

-- THE DEADLINE COUNT: by these costs, an instance may be carried in up to its deadline
abbrev pub deadlined : Facts → (ℕ → ℕ → ℕ) → Measure
deadlined f cost = record { cost = cost; carry = f.deadline }

abbrev pub by_deadline : Facts → Measure
by_deadline f = deadlined f (interference f)

-- the slots that flow l needs within R slots: its own L, and for each flow h above it the instances of h, times the cost of one
unfoldable pub slots_needed : Facts → Measure → ℕ → ℕ → ℕ
slots_needed f μ l R = f.len l + sum_to (λ h. instances R (μ.carry h) (f.period h) * μ.cost l h) l

-- R is admissible if L ≤ R ≤ D and R is at least those slots
pub record Admissible (f : Facts) (μ : Measure) (l R : ℕ) : Type 0 where
  pub plan : f.len l ≤ R
  pub deadline : R ≤ f.deadline l
  pub enough : slots_needed f μ l R ≤ R

-- the same as a test
unfoldable pub admissible : Facts → Measure → ℕ → ℕ → Bool
admissible f μ l R = leb (f.len l) R && leb R (f.deadline l) && leb (slots_needed f μ l R) R

-- the bound is the smallest admissible R; where there is none, this is D + 1
unfoldable pub bound_by : Facts → Measure → ℕ → ℕ
bound_by f μ l = first (admissible f μ l) (suc (f.deadline l))

-- THE FAIR COUNT: the bound of l, given the bounds of the flows above it, up to which an instance of each may be carried in
abbrev pub bound_given : Facts → (ℕ → ℕ → ℕ) → List ℕ → ℕ → ℕ
bound_given f cost above l = bound_by f (record { cost = cost; carry = λ h. get_or above h 0 }) l

-- the bounds of the first k flows, from the highest priority down
unfoldable pub bounds_above : Facts → (ℕ → ℕ → ℕ) → ℕ → List ℕ
bounds_above f cost zero = []
bounds_above f cost (suc k) = bounds_above f cost k ++ (bound_given f cost (bounds_above f cost k) k ∷ [])

-- the measure of these costs, and of the bound of each flow
abbrev pub fairly : Facts → (ℕ → ℕ → ℕ) → Measure
fairly f cost = record { cost = cost; carry = λ h. bound_given f cost (bounds_above f cost h) h }

-- the measure: interference, and an instance may be carried in up to its bound
abbrev pub measure : Facts → Measure
measure f = fairly f (interference f)

-- a flow that has no response bound
unfoldable pub boundless_by : Facts → Measure → ℕ → Bool
boundless_by f μ l = not (leb (bound_by f μ l) (f.deadline l))

-- facts are accepted if every flow has a response bound; with no flows they are. The laws of what check accepts speak of it
unfoldable pub accepted_by : Facts → Measure → Bool
accepted_by f μ = not (some (boundless_by f μ) f.flows)

-- 9: a flow has no response bound; the first such flow
unfoldable pub code9_by : Facts → Measure → Answer
code9_by f μ = given_first 9 (boundless_by f μ) f.flows

-- by the measure of interference and bounds; the proofs take these names
abbrev pub code9 : Facts → Answer
code9 f = code9_by f (measure f)

abbrev pub bound : Facts → ℕ → ℕ
bound f l = bound_by f (measure f) l
