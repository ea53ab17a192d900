-- A step by itself, and beside the one before it. Leans on the trade's codes.
use Rattle.std.specs.Prelude.{ℕ, ◌-◌, Bool, not, ◌&&◌, ◌||◌, List, eqb, leb}
use Rattle.trade.specs.First.{sum_to}
use Rattle.trade.specs.Layout.{field}
use Rattle.trade.specs.Facts.{step_in}
use Rattle.trade.specs.Codes.{repeats, goes_on}
use Rattle.trade.specs.declared.node.Transmission.{Transmission}

-- the sender or the receiver is at or above n, or the two are equal
unfoldable pub misplaced : ℕ → Transmission → Bool
misplaced n t = leb n t.sender.0 || leb n t.receiver.0 || eqb t.sender.0 t.receiver.0

-- a step that neither repeats the step before nor starts at its receiver
unfoldable pub unjoined : Transmission → Transmission → Bool
unjoined t before = not (repeats t before || goes_on t before)

-- step j of a plan that a part of the steps has in front is one that code 8 refuses
unfoldable pub bad_in_plan : ℕ → List ℕ → ℕ → Bool
bad_in_plan n plan j = misplaced n (step_in plan j) || not (eqb j 0) && unjoined (step_in plan j) (step_in plan (j - 1))

-- a step that goes to its own sender
unfoldable pub own : Transmission → Bool
own t = eqb t.sender.0 t.receiver.0

-- step k of all goes to its own sender, or does not follow on from the step before, whichever plan that is of
unfoldable pub off : List ℕ → ℕ → Bool
off steps k = own (step_in steps k) || unjoined (step_in steps k) (step_in steps (k - 1))

-- step k is off for no more than starting anew
unfoldable pub fresh : List ℕ → ℕ → Bool
fresh steps k = not (own (step_in steps k)) && unjoined (step_in steps k) (step_in steps (k - 1))

-- plan i has a first step, and that starts anew
unfoldable pub starts_anew : List ℕ → List ℕ → ℕ → Bool
starts_anew records steps i = not (eqb (field records i 4) 0) && fresh steps (sum_to (λ h. field records h 4) i)
