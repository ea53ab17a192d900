-- A record read out of a part of the records; what code 6 tests of one: its fields, and its id against the earlier ones. Leans on the
-- numbers' NumbersLaws. Assumes nothing.
use native.Mathlib.Nat.{add-zero}
use native.Mathlib.Omega.{arith}
use lib.ListN.{drop, length, get_or, set}
use Rattle.trade.specs.Limits.{record_bytes, most_steps, most_id, most_phase, most_period}
use Rattle.trade.specs.Bytes.{word}
use Rattle.trade.specs.Layout.{field}
use Rattle.trade.specs.Facts.{flow_in, facts_of, facts_in}
use Rattle.numbers.proofs.NumbersLaws.{word_drop}
use Prim.Native.Nat.{ℕ, ◌+◌, ◌*◌, ◌%◌, ◌≤◌, ◌<◌}
use mathlib.Core.Path.{◌≡◌, sym, ◌∙◌, ap, refl}
use mathlib.Core.List.{List, []}
use mathlib.Core.Bool.{Bool, true, false, ◌||◌}
use mathlib.Core.Logic.{⊎_elim}
use lib.Dec.{eqb}
use lib.Seq.{get_or-set_same, get_or-set_other}
use borrow.Author.Tests.{ne_eqb, eqb-true, eqb-false}
use Rattle.trade.specs.First.{some}
use Rattle.trade.specs.Codes.{outside, bad_record}
use Rattle.trade.proofs.First.{bool_cases, not_both, lt_or_ge, some_none}
use Rattle.sections.specs.Records.{misfit}

-- the last two of three tests exchanged
or_swap : (a b c : Bool) → (a || b || c) ≡ (a || c || b)
or_swap true b c = refl
or_swap false true true = refl
or_swap false true false = refl
or_swap false false true = refl
or_swap false false false = refl

-- one test moved behind four others
or_last : (a s b c d e : Bool) → (a || b || c || d || e || s) ≡ (a || s || b || c || d || e)
or_last a s b c d e =
    sym
    (ap (λ (x : Bool). x || c || d || e) (or_swap a s b)
    ∙ ap (λ (x : Bool). x || d || e) (or_swap (a || b) s c)
    ∙ ap (λ (x : Bool). x || e) (or_swap (a || b || c) s d)
    ∙ or_swap (a || b || c || d) s e)

pub bad_record_lem :
    (records : List ℕ) (i : ℕ)
    → (misfit (flow_in records i) || some (λ j. eqb (field records j 0) (field records i 0)) i)
    ≡ bad_record (facts_in 0 0 [] records []) i
unfolding misfit flow_in bad_record facts_of
bad_record_lem records i =
    or_last (outside 1 most_id (field records i 0)) (some (λ j. eqb (field records j 0) (field records i 0)) i)
    (outside 0 most_phase (field records i 1)) (outside 1 most_period (field records i 2))
    (outside 1 (field records i 2) (field records i 3)) (outside 1 most_steps (field records i 4))

-- marks at the lower bytes of the ids before record i: where there is none at its own, no earlier id is its own
pub unmet :
    (marks : List Bool) (records : List ℕ) (i : ℕ)
    → ((k : ℕ) → k < i → get_or marks (field records k 0 % 256) false ≡ true)
    → get_or marks (field records i 0 % 256) false ≡ false
    → some (λ j. eqb (field records j 0) (field records i 0)) i ≡ false
unmet marks records i marked none =
    some_none (λ j. eqb (field records j 0) (field records i 0)) i
    (λ j h.
    ne_eqb (field records j 0) (field records i 0)
    (λ (e : field records j 0 ≡ field records i 0).
    let mark : get_or marks (field records i 0 % 256) false ≡ true = rw e at (marked j h) in
    not_both mark none))

-- and one more mark
pub mark_more :
    (marks : List Bool) (records : List ℕ) (i : ℕ)
    → length marks ≡ 256
    → ((k : ℕ) → k < i → get_or marks (field records k 0 % 256) false ≡ true)
    → (k : ℕ)
    → k < i + 1
    → get_or (set marks (field records i 0 % 256) true) (field records k 0 % 256) false ≡ true
mark_more marks records i room marked k h = ⊎_elim same other (bool_cases (eqb (field records k 0 % 256) (field records i 0 % 256)))
  where
    below : (a b : ℕ) → a < b + 1 → (a ≡ b → ⊥) → a < b
    below a b l n = ⊎_elim (λ (s : a < b). s) (λ (s : b ≤ a). absurd (n (omega arith))) (lt_or_ge a b)

    same :
        eqb (field records k 0 % 256) (field records i 0 % 256) ≡ true
        → get_or (set marks (field records i 0 % 256) true) (field records k 0 % 256) false ≡ true
    same e =
        rw (eqb-true (field records k 0 % 256) (field records i 0 % 256) e)
        (get_or-set_same marks (field records i 0 % 256) true false (omega arith))

    other :
        eqb (field records k 0 % 256) (field records i 0 % 256) ≡ false
        → get_or (set marks (field records i 0 % 256) true) (field records k 0 % 256) false ≡ true
    other e =
        let apart = eqb-false (field records k 0 % 256) (field records i 0 % 256) e in
        get_or-set_other marks (field records i 0 % 256) (field records k 0 % 256) true false apart
        ∙ marked k (below k i h (λ (q : k ≡ i). apart (ap (λ j. field records j 0 % 256) q)))

-- the first field of a record stands where the record does
pub field_first : (records : List ℕ) (i : ℕ) → word records (record_bytes * i) ≡ field records i 0
unfolding field
field_first records i = ap (word records) (sym (add-zero (record_bytes * i)))

-- a record read at its place in the records, or at the front of the part that starts there
field_part : (records : List ℕ) (i k : ℕ) → word (drop (record_bytes * i) records) (record_bytes * 0 + 2 * k) ≡ field records i k
unfolding field
field_part records i k = word_drop records (record_bytes * i) (record_bytes * 0 + 2 * k) ∙ ap (word records) (omega arith)

pub flow_part : (records : List ℕ) (i : ℕ) → flow_in (drop (record_bytes * i) records) 0 ≡ flow_in records i
unfolding flow_in field
flow_part records i =
    rw (
      field_part records i 0,
      field_part records i 1,
      field_part records i 2,
      field_part records i 3,
      field_part records i 4,
    )
