-- What the bounds of all flows, and the check of a book, are answered with. Leans on the trade's calls.
use Rattle.std.specs.Prelude.{ℕ, ◌*◌, ◌≤◌, ◌<◌, ◌≡◌, cond, List, length, replicate, Result, Ok, Err}
use Rattle.trade.specs.Limits.{most_flows, record_bytes}
use Rattle.trade.specs.Facts.{Facts}
use Rattle.trade.specs.Answers.{done, is_done}
use Rattle.trade.specs.Refusals.{answer_of}
use Rattle.trade.specs.Bound.{Measure, measure, code9_by}
use Rattle.trade.specs.Calls.{bounds_by, check_of}
use Rattle.trade.specs.declared.answer.Answer.{Answer}
use Rattle.trade.specs.declared.refusal.Refusal.{Refusal}
use Rattle.sections.specs.Formed.{InRange}
use Rattle.bounds.specs.declared.bounds.Checked.{Checked}

-- refused, all zeros
abbrev pub refused_by : Answer → Checked
refused_by answer = record { answer = answer; bounds = replicate most_flows 0 }

-- the answer and the bounds, or the refusal
abbrev pub checked_by : Result (List ℕ) Refusal → Checked
checked_by (Ok bounds) = record { answer = done 0; bounds = bounds }
checked_by (Err refusal) = refused_by (answer_of refusal)

-- code 9 by a measure, and the bounds where it is not given
unfoldable pub bounded_in : Facts → Measure → Checked
bounded_in f μ = record { answer = code9_by f μ; bounds = cond (is_done (code9_by f μ)) (bounds_by f μ) (replicate most_flows 0) }

-- by interference and bounds; and the measure of these costs, whatever the carry-in
abbrev pub bounded_by : Facts → Checked
bounded_by f = bounded_in f (measure f)

abbrev pub by_costs : (ℕ → ℕ → ℕ) → (ℕ → ℕ) → Measure
by_costs cost carry = record { cost = cost; carry = carry }

-- the first k records are there, their fields in range
pub record Timed (k : ℕ) (records : List ℕ) : Type 0 where
  pub most : k ≤ most_flows
  pub recorded : record_bytes * k ≤ length records
  pub fields : (i : ℕ) → i < k → InRange records i

-- what `check` owes: the answer and the bounds of the call
pub record ChecksAs (book : List ℕ) (r : Checked) : Type 0 where
  pub answer : r.answer ≡ (check_of book).answer
  pub bounds : r.bounds ≡ (check_of book).bounds
