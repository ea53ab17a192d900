-- What the bounds of all flows come to: code 9 at the first flow without one, or the bounds. Leans on the trade's Answers and Alike.
-- Assumes nothing.
use Prim.Native.Nat.{ℕ, ◌+◌, ◌≤◌, ◌<◌}
use mathlib.Core.Path.{◌≡◌, refl, sym}
use mathlib.Core.Bool.{true, false}
use mathlib.Core.List.{List}
use native.Mathlib.Omega.{arith}
use borrow.Author.Count.{below_more}
use lib.ListN.{get_or, set, replicate}
use Rattle.trade.specs.Limits.{most_flows, most_period}
use Rattle.figures.proofs.Padded.{filled, filled_none, filled_more, filled_at}
use borrow.Author.Tests.{le-leb, lt-leb}
use Rattle.trade.specs.Facts.{Facts}
use Rattle.trade.specs.Bound.{Measure, measure, bound_by, boundless_by, code9_by}
use Rattle.trade.specs.Answers.{done, refused, is_done}
use Rattle.trade.specs.Calls.{bounds_by}
use Rattle.trade.proofs.Answers.{given_first_at, given_first_none}
use Rattle.trade.proofs.Alike.{Alike, SameTimes, SameMeasure, alike_times, code9_times, bounds_times}
use Rattle.trade.proofs.Fair.{measure_alike}
use Rattle.trade.proofs.Bound.{bound_admissible, boundless_false}
use Rattle.std.specs.Prelude.{Result, IsErrAnd}
use Rattle.std.proofs.lemmas.Result.{err_from_is_err_and}
use Rattle.trade.specs.Refusals.{answer_of}
use Rattle.trade.specs.declared.refusal.Refusal.{Refusal}
use Rattle.bounds.specs.Bounds.{checked_by, refused_by, bounded_in, bounded_by}

-- a bound above the deadline is none, by any measure
pub boundless_over : (f : Facts) (μ : Measure) (l : ℕ) → f.deadline l < bound_by f μ l → boundless_by f μ l ≡ true
unfolding boundless_by
boundless_over f μ l h = rw (lt-leb (bound_by f μ l) (f.deadline l) h)

pub boundless_in : (f : Facts) (μ : Measure) (l : ℕ) → bound_by f μ l ≤ f.deadline l → boundless_by f μ l ≡ false
unfolding boundless_by
boundless_in f μ l h = rw (le-leb (bound_by f μ l) (f.deadline l) h)

-- THE FLOWS PASSED, in order: each has its bound, and what the next ones read of it stands in its place
pub record Bounding (f : Facts) (μ : Measure) (l : ℕ) (bounds periods : List ℕ) : Type 0 where
  pub listed : bounds ≡ filled most_flows (bound_by f μ) l
  pub period : periods ≡ filled most_flows f.period l
  pub passed : (k : ℕ) → k < l → boundless_by f μ k ≡ false

module _ (f : Facts) (μ : Measure) where
  pub bounding_none : Bounding f μ 0 (replicate most_flows 0) (replicate most_flows 0)
  bounding_none =
      record {
        listed = sym (filled_none most_flows (bound_by f μ));
        period = sym (filled_none most_flows f.period);
        passed = λ k h. absurd (omega arith);
      }

  -- one flow more, with a bound within its deadline
  pub bounding_more :
      (l bound period deadline : ℕ) (bounds periods : List ℕ)
      → l < most_flows
      → bound ≡ bound_by f μ l
      → period ≡ f.period l
      → deadline ≡ f.deadline l
      → bound ≤ deadline
      → Bounding f μ l bounds periods
      → Bounding f μ (l + 1) (set bounds l bound) (set periods l period)
  bounding_more l bound period deadline bounds periods room is every last within b =
      record {
        listed = rw (b.listed, is) (filled_more most_flows (bound_by f μ) l room);
        period = rw (b.period, every) (filled_more most_flows f.period l room);
        passed = below_more _ _ b.passed (boundless_in f μ l (rw (← is, ← last) within));
      }

  -- the bounds listed are those of the flows passed, from 1 to the most
  pub bounding_at : (l h : ℕ) (bounds periods : List ℕ) → h < l → Bounding f μ l bounds periods → get_or bounds h 0 ≡ bound_by f μ h
  bounding_at l h bounds periods p b = rw b.listed (filled_at most_flows (bound_by f μ) l h p)

  pub bounding_range :
      (l h : ℕ) (bounds periods : List ℕ)
      → h < l
      → 1 ≤ f.len h
      → f.deadline h ≤ most_period
      → Bounding f μ l bounds periods
      → (1 ≤ get_or bounds h 0) × (get_or bounds h 0 ≤ most_period)
  bounding_range l h bounds periods p some most b =
      let within = boundless_false f μ h (b.passed h p) in
      let a = bound_admissible f μ h within in
      (omega (arith, bounding_at l h bounds periods p b, a.plan, some), omega (arith, bounding_at l h bounds periods p b, within, most))

  -- refused at the first flow that has none
  pub bounded_refused :
      (l : ℕ) (bounds periods : List ℕ)
      → l < f.flows
      → f.deadline l < bound_by f μ l
      → Bounding f μ l bounds periods
      → bounded_in f μ ≡ refused_by (refused 9 l)
  unfolding bounded_in code9_by is_done
  bounded_refused l bounds periods h over b = rw (given_first_at 9 (boundless_by f μ) f.flows l h b.passed (boundless_over f μ l over))

  -- done where every flow has one
  pub bounded_done :
      (l : ℕ) (bounds periods : List ℕ)
      → l ≡ f.flows
      → Bounding f μ l bounds periods
      → record { answer = done 0; bounds = bounds } ≡ bounded_in f μ
  unfolding bounded_in code9_by is_done bounds_by
  bounded_done l bounds periods e b =
      rw (b.listed, given_first_none 9 (boundless_by f μ) f.flows (λ j h. b.passed j (omega (arith, e))), e) refl

-- and facts of the same times come to the same, by measures that agree,
pub bounded_times : (f g : Facts) → f.flows ≡ g.flows → SameTimes f.flows f g → (μ ν : Measure) → SameMeasure f.flows μ ν → bounded_in f μ ≡ bounded_in g ν
unfolding bounded_in
bounded_times f g m t μ ν same = rw (code9_times f g m t μ ν same, bounds_times f g m t μ ν same)

-- as facts alike on all their flows do
pub bounded_alike : (f g : Facts) → f.flows ≡ g.flows → Alike f.flows f g → bounded_by f ≡ bounded_by g
bounded_alike f g m a = bounded_times f g m (alike_times a) (measure f) (measure g) (measure_alike f.flows f g a)

-- what a `?` hands on comes with no bounds
pub bounds_handed_on : (r : Result (List ℕ) Refusal) (refusal : Refusal) → IsErrAnd r (λ e. e ≡ refusal) → checked_by r ≡ refused_by (answer_of refusal)
bounds_handed_on r refusal h =
    let (e, is, same) = err_from_is_err_and r h in
    rw (is, same) refl
