-- The number that goes with what is told of a flow is small enough to be packed for C: where the call is refused, advance is refused alike or
-- the place is bad. Leans on the run's AdvanceLaws, and on the AskLaws of why. Assumes nothing.
use Prim.Native.Nat.{ℕ, ◌*◌, ◌≤◌, ◌<◌}
use mathlib.Core.Path.{◌≡◌, refl, ◌∙◌}
use mathlib.Core.Bool.{Bool, true, false, cond, ◌||◌}
use mathlib.Core.List.{List}
use mathlib.Core.Logic.{⊎_elim}
use native.Mathlib.Omega.{arith}
use lib.Dec.{eqb, leb}
use lib.ListN.{length, replicate, length-replicate}
use borrow.Author.Tests.{eqb-true, eqb-false}
use Rattle.trade.specs.Limits.{most_flows, area_bytes, grant_bytes, packing}
use Rattle.trade.specs.First.{first}
use Rattle.trade.specs.Facts.{Facts, said}
use Rattle.trade.specs.Answers.{refused, is_done, no_number}
use Rattle.trade.specs.Slot.{State, Releases, releases_of, unfinished, greedy, granted, among}
use Rattle.trade.specs.Area.{state_in}
use Rattle.trade.specs.Calls.{book_rules, read_answer, advance_answer}
use Rattle.trade.specs.Why.{blocks, why, Asking, ask_of, answer_of}
use Rattle.trade.specs.declared.answer.Answer.{Answer}
use Rattle.trade.specs.declared.told.Told.{Told}
use Rattle.trade.specs.declared.told.Told.TheVariants.{Refused, NotReleased, Finished, Granted, WaitingOn}
use Rattle.trade.proofs.First.{bool_cases, lt_or_ge, first_within}
use Rattle.trade.proofs.Answers.{first_of_passed}
use Rattle.trade.proofs.Valid.{book_valid}
use Rattle.trade.proofs.Numbers.{advance_number}
use Rattle.run.specs.Calls.{slot_answer}
use Rattle.run.proofs.AdvanceLaws as advance
use Rattle.why.specs.Told.{told_in}
use Rattle.why.proofs.AskLaws as ask

abbrev Fits : Told → Type 0
Fits told = (answer_of told).number < packing

-- one of the four, and with the last a place among the flows
why_fits : (f : Facts) (r : Releases) (s : State) (i : ℕ) → f.flows ≤ most_flows → Fits (why f r s i)
unfolding why
why_fits f r s i few = one (r.due i || r.begun i) (unfinished f r s i) (among (granted f r s) i)
  where
    one : (begun busy goes : Bool) → Fits (cond begun (cond busy (cond goes Granted (WaitingOn (first (blocks f r s i) f.flows))) Finished) NotReleased)
    one true true true = omega arith
    one true true false = omega (arith, first_within (blocks f r s i) f.flows)
    one true false goes = omega arith
    one false busy goes = omega arith

module _ (b area : List ℕ) (place : ℕ) where
  abbrev asking : Asking
  asking = record { book = b; area = area; place = place }

  -- advance, with a grant buffer that is long enough
  abbrev grants : List ℕ
  grants = replicate (grant_bytes * (said b).flows) 0

  as_advance : (r : Answer) → advance_answer (record { book = b; area = area; grants = grants }) ≡ r → r.number < packing
  as_advance r e = rw e at (advance_number greedy releases_of (record { book = b; area = area; grants = grants }))

  book_bad : ((read_answer b).code ≡ 0 → ⊥) → Fits (ask_of asking)
  book_bad n =
      rw (← ask.ask_refused b area place (read_answer b) (ask.book_refused b area place n) n)
      (as_advance (read_answer b) (advance.book_refused b area grants n))

  module _ (opened : (read_answer b).code ≡ 0) where
    area_short : length area < area_bytes → Fits (ask_of asking)
    area_short h = rw (← ask.ask_refused b area place (refused 13 0) (ask.area_short b area place opened h) (λ z. omega arith)) (omega arith)

    few : (said b).flows ≤ most_flows
    unfolding read_answer
    few = (book_valid b (first_of_passed book_rules no_number b opened)).flows

    lent : grant_bytes * (said b).flows ≤ length grants
    lent = rw length-replicate (omega arith)

    slot_tells : area_bytes ≤ length area → Fits (ask_of asking)
    unfolding told_in
    slot_tells room =
        rw (ask.slot_tells b area place opened room)
        (told (is_done (slot_answer (said b) area)) (leb (said b).flows place) refl)
      where
        told :
            (runs bad : Bool)
            → is_done (slot_answer (said b) area) ≡ runs
            → Fits (cond runs (cond bad (Refused (refused 15 0)) (why (said b) (releases_of (said b) (state_in area)) (state_in area) place)) (Refused (slot_answer (said b) area)))
        told true true e = omega arith
        told true false e = why_fits (said b) (releases_of (said b) (state_in area)) (state_in area) place few
        told false bad e = as_advance (slot_answer (said b) area) (advance.by_run b area grants opened room lent ∙ rw e)

  pub ask_number : Fits (ask_of asking)
  ask_number =
      ⊎_elim
      (λ (d : eqb (read_answer b).code 0 ≡ true).
      let opened : (read_answer b).code ≡ 0 = eqb-true (read_answer b).code 0 d in
      ⊎_elim (area_short opened) (slot_tells opened) (lt_or_ge (length area) area_bytes))
      (λ (d : eqb (read_answer b).code 0 ≡ false). book_bad (eqb-false (read_answer b).code 0 d))
      (bool_cases (eqb (read_answer b).code 0))
