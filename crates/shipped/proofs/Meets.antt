-- Whatever a function that ships gave, on whatever it was handed, is the planner's: its contract says so. Assumes nothing.
use Prim.Native.Nat.{ℕ, ◌/◌, ◌%◌, ◌<◌}
use mathlib.Core.Path.{◌≡◌, sym, ◌∙◌, ap}
use mathlib.Core.List.{List}
use native.Mathlib.Omega.{arith}
use Rattle.trade.specs.Limits.{packing}
use Rattle.trade.specs.Answers.{packed_of}
use Rattle.trade.specs.Bound.{measure}
use Rattle.trade.specs.Slot.{greedy, releases_of}
use Rattle.trade.specs.Calls.{Checked, Starting, Started, Advancing, Advanced, read_of, check_of, check_by, check_kept_of, write_of, add_of, remove_of, start_of, start_by, advance_of, advance_by}
use Rattle.trade.specs.Why.{Asking, ask_of, answer_of}
use Rattle.trade.specs.declared.answer.Answer.{Answer}
use Rattle.trade.proofs.Numbers.{check_number, start_number, advance_number}
use Rattle.promise.specs.Demands.{Always, planner}
use Rattle.promise.specs.Promise.{Meets}
use Rattle.promise.specs.Why.{asks, told_by}
use Rattle.promise.proofs.Asked.{tells, read_back}
use Rattle.middleware.proofs.Numbers.{ask_number}
use Rattle.shipped.specs.Calls.{Read, Check, CheckTable, Write, Add, Remove, Start, Advance, Why, shipped, unpacked, SlotStart, SlotAdvance, for_c, with_run, CheckedInC, SlotWhy}

-- THE EIGHT CALLS
pub read_planned : Always Read planner.read
read_planned b given (κs, a, r, s, p, i, o) = o ∙ (λ t. record { answer = p.answer t; table = p.table t }) ∙ ap read_of (sym i)

pub check_planned : Always Check planner.check
check_planned b given (κs, a, r, s, p, i, o) = o ∙ (λ t. record { answer = p.answer t; bounds = p.bounds t }) ∙ ap check_of (sym i)

pub check_table_planned : Always CheckTable planner.check_table
check_table_planned t given (κs, a, r, s, p, i, o) = o ∙ (λ t. record { answer = p.answer t; bounds = p.bounds t }) ∙ ap check_kept_of (sym i)

pub write_planned : Always Write planner.write
write_planned w given (κs, a, r, s, p, i, o) = o ∙ (λ t. record { answer = p.answer t; buffer = p.buffer t }) ∙ ap write_of (sym i)

pub add_planned : Always Add planner.add
add_planned w given (κs, a, r, s, p, i, o) = o ∙ (λ t. record { answer = p.answer t; table = p.table t }) ∙ ap add_of (sym i)

pub remove_planned : Always Remove planner.remove
remove_planned w given (κs, a, r, s, p, i, o) = o ∙ (λ t. record { answer = p.answer t; table = p.table t }) ∙ ap remove_of (sym i)

pub start_planned : Always Start planner.start
start_planned w given (κs, a, r, s, p, i, o) = o ∙ (λ t. record { answer = p.answer t; area = p.area t }) ∙ ap start_of (sym i)

pub advance_planned : Always Advance planner.advance
advance_planned w given (κs, a, r, s, p, i, o) =
    o ∙ (λ t. record { answer = p.answer t; area = p.area t; grants = p.grants t }) ∙ ap advance_of (sym i)

-- THE CALL THAT TELLS WHY
pub why_planned : Always Why asks
why_planned w given (κs, a, s, p, i) = p ∙ ap ask_of (sym i)

-- the calls on tables meet their contracts, so those with a check, a start and an advance that do
meets_with :
    {check : List ℕ → Checked → Type 0} {start : Starting → Started → Type 0} {advance : Advancing → Advanced → Type 0}
    → Always check planner.check
    → Always start planner.start
    → Always advance planner.advance
    → Meets (with_run check start advance)
meets_with checks starts advances =
    record {
      reads = read_planned;
      checks = checks;
      checks_tables = check_table_planned;
      writes = write_planned;
      adds = add_planned;
      removes = remove_planned;
      starts = starts;
      advances = advances;
    }

-- THE PROGRAM THAT SHIPS meets its contracts
pub shipped_meets : Meets shipped
shipped_meets = meets_with check_planned start_planned advance_planned

-- an answer whose number fits is unpacked as it was packed
unpacked_packed : (n : ℕ) (a : Answer) → a.number < packing → n ≡ packed_of a → unpacked n ≡ a
unpacked_packed n a h e =
    let code : n / packing ≡ a.code = omega arith in
    let number : n % packing ≡ a.number = omega arith in
    λ t. record { code = code t; number = number t }

-- THE THREE CALLS FOR C
pub slot_check_planned : Always CheckedInC planner.check
unfolding check_by
slot_check_planned b given (n, (κs, a, s, p, i), o) =
    let answer : unpacked n ≡ (check_of b).answer
    = unpacked_packed n _ (check_number measure _) p.answer ∙ ap (λ (x : List ℕ). (check_of x).answer) (sym i) in
    o ∙ (λ t. record { answer = answer t; bounds = (check_of b).bounds })

pub slot_start_planned : Always SlotStart planner.start
unfolding start_by
slot_start_planned w given (κs, a, n, s, p, i, o) =
    let answer = unpacked_packed n _ (start_number measure _) p.answer in
    o ∙ (λ t. record { answer = answer t; area = p.area t }) ∙ ap start_of (sym i)

pub slot_advance_planned : Always SlotAdvance planner.advance
unfolding advance_by
slot_advance_planned w given (κs, a, n, s, p, i, o) =
    let answer = unpacked_packed n _ (advance_number greedy releases_of _) p.answer in
    o ∙ (λ t. record { answer = answer t; area = p.area t; grants = p.grants t }) ∙ ap advance_of (sym i)

pub for_c_meets : Meets for_c
for_c_meets = meets_with slot_check_planned slot_start_planned slot_advance_planned

pub slot_why_planned : Always SlotWhy asks
slot_why_planned i given (κs, a, n, s, p, e, o) =
    let asked : Asking = record { book = a.0.now; area = a.1.0.now; place = a.1.1.0 } in
    o
    ∙ ap told_by (unpacked_packed n (answer_of (ask_of asked)) (ask_number a.0.now a.1.0.now a.1.1.0) p.answer)
    ∙ read_back (tells asked)
    ∙ ap ask_of (sym e)
