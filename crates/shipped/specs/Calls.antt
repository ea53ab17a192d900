-- The calls that ship, each as a relation: what it was handed, and what it gave, wherever a call of the function met its contract. The
-- contracts are those that the check reads in the code, `Post`: over the arguments at entry, the result, and what the arguments that were
-- lent hold at exit. Leans on the promise's Demands.
use Rattle.std.specs.Prelude.{ℕ, ◌/◌, ◌%◌, ◌≡◌, List}
use Rattle.trade.specs.Limits.{packing}
use Rattle.trade.specs.Calls.{Got, Checked, Writing, Written, Adding, Removing, Changed, Starting, Started, Advancing, Advanced, check_of}
use Rattle.trade.specs.Refusals.{answered, tested}
use Rattle.trade.specs.Why.{Asking}
use Rattle.trade.specs.declared.answer.Answer.{Answer}
use Rattle.trade.specs.declared.told.Told.{Told}
use Rattle.trade.specs.Kept.{Tabled}
use Rattle.table.specs.Table.{sections_in, kept_in}
use Rattle.promise.specs.Demands.{Program}
use Rattle.promise.specs.Why.{told_by}
use Rattle.table.proofs.table.read.Reads as read
use Rattle.bounds.proofs.acceptance.check.Reads as check
use Rattle.table.proofs.checked.check_table.Reads as check_table
use Rattle.table.proofs.written.write.Reads as write
use Rattle.changes.proofs.change.add.Reads as add
use Rattle.changes.proofs.change.remove.Reads as remove
use Rattle.run.proofs.start.start.Reads as start
use Rattle.run.proofs.advance.advance.Reads as advance
use Rattle.why.proofs.told.why.Reads as why
use Rattle.radio.proofs.slot_check.Reads as slot_check
use Rattle.radio.proofs.slot_start.Reads as slot_start
use Rattle.radio.proofs.slot_advance.Reads as slot_advance
use Rattle.middleware.proofs.slot_why.Reads as slot_why

-- THE EIGHT CALLS
abbrev pub Read : List ℕ → Got → Type 0
Read b given =
    (κs : _) × (a : _) × (r : _) × (s : _)
    × read.Post κs a r s
    × (b ≡ a.0.now)
    × (given ≡ record { answer = r.answer; table = kept_in r.table })

abbrev pub Check : List ℕ → Checked → Type 0
Check b given =
    (κs : _) × (a : _) × (r : _) × (s : _)
    × check.Post κs a r s
    × (b ≡ a.0.now)
    × (given ≡ record { answer = r.answer; bounds = r.bounds })

abbrev pub CheckTable : Tabled → Checked → Type 0
CheckTable t given =
    (κs : _) × (a : _) × (r : _) × (s : _)
    × check_table.Post κs a r s
    × (t ≡ kept_in a.0)
    × (given ≡ record { answer = r.answer; bounds = r.bounds })

abbrev pub Write : Writing → Written → Type 0
Write w given =
    (κs : _) × (a : _) × (r : _) × (s : _)
    × write.Post κs a r s
    × (w ≡ record { table = sections_in a.0; buffer = a.1.0.now })
    × (given ≡ record { answer = answered (λ len. len) r; buffer = s.1.0.now })

abbrev pub Add : Adding → Changed → Type 0
Add i given =
    (κs : _) × (a : _) × (r : _) × (s : _)
    × add.Post κs a r s
    × (i ≡ record { table = kept_in a.0; place = a.1.0; flow = a.1.1.0; plan = a.1.1.1.0 })
    × (given ≡ record { answer = r.answer; table = kept_in r.table })

abbrev pub Remove : Removing → Changed → Type 0
Remove i given =
    (κs : _) × (a : _) × (r : _) × (s : _)
    × remove.Post κs a r s
    × (i ≡ record { table = kept_in a.0; place = a.1.0 })
    × (given ≡ record { answer = r.answer; table = kept_in r.table })

abbrev pub Start : Starting → Started → Type 0
Start i given =
    (κs : _) × (a : _) × (r : _) × (s : _)
    × start.Post κs a r s
    × (i ≡ record { book = a.0.now; area = a.1.0.now })
    × (given ≡ record { answer = tested r; area = s.1.0.now })

abbrev pub Advance : Advancing → Advanced → Type 0
Advance i given =
    (κs : _) × (a : _) × (r : _) × (s : _)
    × advance.Post κs a r s
    × (i ≡ record { book = a.0.now; area = a.1.0.now; grants = a.1.1.0.now })
    × (given ≡ record { answer = answered (λ n. n) r; area = s.1.0.now; grants = s.1.1.0.now })

-- the calls on tables, with a check, a start and an advance
abbrev pub with_run : (List ℕ → Checked → Type 0) → (Starting → Started → Type 0) → (Advancing → Advanced → Type 0) → Program
with_run check start advance = record { read = Read; check = check; check_table = CheckTable; write = Write; add = Add; remove = Remove; start = start; advance = advance }

-- THE PROGRAM that ships
abbrev pub shipped : Program
shipped = with_run Check Start Advance

-- THE CALL THAT TELLS WHY, beside them
abbrev pub Why : Asking → Told → Type 0
Why i given =
    (κs : _) × (a : _) × (s : _)
    × why.Post κs a given s
    × (i ≡ record { book = a.0.now; area = a.1.0.now; place = a.1.1.0 })

-- THE THREE CALLS FOR C answer one number: code × 65,536 + the number that goes with it
abbrev pub unpacked : ℕ → Answer
unpacked n = record { code = n / packing; number = n % packing }

abbrev pub SlotCheck : List ℕ → ℕ → Type 0
SlotCheck b n = (κs : _) × (a : _) × (s : _) × slot_check.Post κs a n s × (b ≡ a.0.now)

abbrev pub SlotStart : Starting → Started → Type 0
SlotStart i given =
    (κs : _) × (a : _) × (n : _) × (s : _)
    × slot_start.Post κs a n s
    × (i ≡ record { book = a.0.now; area = a.1.0.now })
    × (given ≡ record { answer = unpacked n; area = s.1.0.now })

abbrev pub SlotAdvance : Advancing → Advanced → Type 0
SlotAdvance i given =
    (κs : _) × (a : _) × (n : _) × (s : _)
    × slot_advance.Post κs a n s
    × (i ≡ record { book = a.0.now; area = a.1.0.now; grants = a.1.1.0.now })
    × (given ≡ record { answer = unpacked n; area = s.1.0.now; grants = s.1.1.0.now })

-- the program as C calls it: `slot_check` answers without bounds, and those that a run from C is held to are the ones of the definitions;
-- tables are read, written and changed by the calls above
abbrev pub CheckedInC : List ℕ → Checked → Type 0
CheckedInC b given = (n : ℕ) × SlotCheck b n × (given ≡ record { answer = unpacked n; bounds = (check_of b).bounds })

abbrev pub for_c : Program
for_c = with_run CheckedInC SlotStart SlotAdvance

-- and what `slot_why` tells, as it is read in its one number
abbrev pub SlotWhy : Asking → Told → Type 0
SlotWhy i given =
    (κs : _) × (a : _) × (n : _) × (s : _)
    × slot_why.Post κs a n s
    × (i ≡ record { book = a.0.now; area = a.1.0.now; place = a.1.1.0 })
    × (given ≡ told_by (unpacked n))
