-- The used places of a table: the rules and the book read nothing else, and zeros behind them change neither. Leans on Places and
-- Valid. Assumes nothing.
use Prim.Native.Nat.{ℕ, ◌+◌, ◌*◌, ◌%◌, ◌/◌, ◌≤◌, ◌<◌}
use mathlib.Core.Path.{◌≡◌, refl, sym, ◌∙◌, ap, ap₂}
use mathlib.Core.Logic.{⊎_elim}
use mathlib.Core.List.{List, ◌++◌}
use native.Mathlib.Omega.{arith}
use lib.ListN.{length, take, length-append, length-take, get_or-eq_default}
use lib.Seq.{length-take-le, take-take, take_all, take_at, get_or-take, ext_get_or}
use Rattle.trade.specs.Limits.{most_steps, row_bytes, record_bytes, step_bytes, trailer_bytes}
use Rattle.trade.specs.Bytes.{byte, word, two_bytes, bit, padded}
use Rattle.trade.specs.Layout.{Sections, sections, field}
use Rattle.trade.specs.Facts.{disturbs_in, step_in, facts_of, first_step, all_steps}
use Rattle.trade.specs.Table.{steps_distance_of, records_distance_of, rows_distance_of, trailer_of, used, book_of, rows_room, records_room, steps_room, InMemory, table_of}
use Rattle.trade.proofs.First.{lt_or_ge}
use Rattle.trade.proofs.Sums.{sum_most}
use Rattle.trade.proofs.Bytes.{byte_padded, length_padded}
use Rattle.trade.proofs.Valid.{Valid}
use Rattle.trade.proofs.Places.{SameUsed, same_all_steps}

-- sections with the same used places have the same trailer
pub alike_trailer : (s t : Sections) → SameUsed s t → trailer_of s ≡ trailer_of t
unfolding trailer_of rows_distance_of records_distance_of steps_distance_of
alike_trailer s t same = rw (same_all_steps s t same, same.nodes, same.flows)

-- sections that are equal part by part
pub same_sections :
    (s t : Sections)
    → s.nodes ≡ t.nodes
    → s.flows ≡ t.flows
    → s.rows ≡ t.rows
    → s.records ≡ t.records
    → s.steps ≡ t.steps
    → s ≡ t
same_sections s t n m rows records steps = λ i. record { nodes = n i; flows = m i; rows = rows i; records = records i; steps = steps i }

take_twice : (n : ℕ) (l : List ℕ) → take n (take n l) ≡ take n l
take_twice n l = take-take n n l (omega arith)

-- the used places by themselves, and with zeros behind them, say the same
module _ (s : Sections) where
  pub used_same : SameUsed s (used s)
  unfolding used
  used_same =
      record {
        nodes = refl;
        flows = refl;
        rows = λ i h. sym (get_or-take _ s.rows i 0 h);
        records = λ i h. sym (get_or-take _ s.records i 0 h);
        steps = λ i h. sym (get_or-take _ s.steps i 0 h);
      }

  pub table_same : SameUsed s (table_of s)
  unfolding used table_of
  table_same =
      record {
        nodes = refl;
        flows = refl;
        rows = λ i h. sym (byte_padded rows_room (used s).rows i ∙ get_or-take _ s.rows i 0 h);
        records = λ i h. sym (byte_padded records_room (used s).records i ∙ get_or-take _ s.records i 0 h);
        steps = λ i h. sym (byte_padded steps_room (used s).steps i ∙ get_or-take _ s.steps i 0 h);
      }

  used_steps : step_bytes * all_steps (facts_of (used s)) ≡ step_bytes * all_steps (facts_of s)
  used_steps = ap (λ (k : ℕ). step_bytes * k) (sym (same_all_steps s (used s) used_same))

  table_steps : step_bytes * all_steps (facts_of (table_of s)) ≡ step_bytes * all_steps (facts_of s)
  table_steps = ap (λ (k : ℕ). step_bytes * k) (sym (same_all_steps s (table_of s) table_same))

  -- all of the used places are used
  pub used_used : used (used s) ≡ used s
  unfolding used
  used_used =
      same_sections (used (used s)) (used s) refl refl (take_twice (row_bytes * s.nodes) s.rows) (take_twice (record_bytes * s.flows) s.records)
      (ap (λ (n : ℕ). take n (used s).steps) used_steps ∙ take_twice (step_bytes * all_steps (facts_of s)) s.steps)

  -- so the table of the used places is that of the table
  pub table_used : table_of (used s) ≡ table_of s
  unfolding used table_of
  table_used =
      ap
      (λ (u : Sections).
      record {
        nodes = u.nodes;
        flows = u.flows;
        rows = padded rows_room u.rows;
        records = padded records_room u.records;
        steps = padded steps_room u.steps;
      })
      used_used

-- zeros behind the used places say nothing more
pub table_facts : (s : Sections) → facts_of (table_of s) ≡ facts_of (used s)
unfolding facts_of table_of used disturbs_in step_in field word
table_facts s =
    λ i.
    record {
      nodes = (used s).nodes;
      flows = (used s).flows;
      disturbs = λ x y. bit (byte_padded rows_room (used s).rows (row_bytes * x + y / 8) i) (y % 8);
      id = λ j. said j 0 i;
      phase = λ j. said j 1 i;
      period = λ j. said j 2 i;
      deadline = λ j. said j 3 i;
      len = λ j. said j 4 i;
      step = λ k.
          record {
            sender = record { 0 = byte_padded steps_room (used s).steps (step_bytes * k) i };
            receiver = record { 0 = byte_padded steps_room (used s).steps (step_bytes * k + 1) i };
          };
    }
  where
    said : (j k : ℕ) → field (padded records_room (used s).records) j k ≡ field (used s).records j k
    said j k =
        ap₂ (λ (high low : ℕ). high * 256 + low) (byte_padded records_room (used s).records (record_bytes * j + 2 * k))
        (byte_padded records_room (used s).records (record_bytes * j + 2 * k + 1))

-- sections that have no more than their used places
pub record NoMore (s : Sections) : Type 0 where
  pub rows : length s.rows ≤ row_bytes * s.nodes
  pub records : length s.records ≤ record_bytes * s.flows
  pub steps : length s.steps ≤ step_bytes * all_steps (facts_of s)

-- are their own used places, which their table says and has in front of its zeros
module _ (s : Sections) (n : NoMore s) where
  no_more_used : used s ≡ s
  unfolding used
  no_more_used = same_sections (used s) s refl refl (take_all _ _ n.rows) (take_all _ _ n.records) (take_all _ _ n.steps)

  pub no_more_facts : facts_of (table_of s) ≡ facts_of s
  no_more_facts = table_facts s ∙ ap facts_of no_more_used

  pub no_more_table :
      table_of s
      ≡ sections s.nodes s.flows (padded rows_room s.rows) (padded records_room s.records) (padded steps_room s.steps)
  unfolding table_of used
  no_more_table =
      ap
      (λ (u : Sections).
      sections u.nodes u.flows (padded rows_room u.rows) (padded records_room u.records) (padded steps_room u.steps))
      no_more_used

-- a trailer has ten bytes
pub length_trailer : (s : Sections) → length (trailer_of s) ≡ trailer_bytes
unfolding trailer_of two_bytes
length_trailer s = refl

-- sections that have their used places and no others
pub record Full (s : Sections) : Type 0 where
  pub rows : length s.rows ≡ row_bytes * s.nodes
  pub records : length s.records ≡ record_bytes * s.flows
  pub steps : length s.steps ≡ step_bytes * all_steps (facts_of s)

-- sections that hold all of their used places
pub record Holds (s : Sections) : Type 0 where
  pub rows : row_bytes * s.nodes ≤ length s.rows
  pub records : record_bytes * s.flows ≤ length s.records
  pub steps : step_bytes * all_steps (facts_of s) ≤ length s.steps

module _ (s : Sections) (h : Holds s) where
  pub length_used_rows : length (used s).rows ≡ row_bytes * s.nodes
  unfolding used
  length_used_rows = length-take-le _ s.rows h.rows

  pub length_used_records : length (used s).records ≡ record_bytes * s.flows
  unfolding used
  length_used_records = length-take-le _ s.records h.records

  pub length_used_steps : length (used s).steps ≡ step_bytes * all_steps (facts_of s)
  unfolding used
  length_used_steps = length-take-le _ s.steps h.steps

  -- and so they are all that the used places have
  pub used_full : Full (used s)
  unfolding used
  used_full = record { rows = length_used_rows; records = length_used_records; steps = length_used_steps ∙ sym (used_steps s) }

  -- and of its book that length is the rows' distance
  pub length_book : length (book_of s) ≡ rows_distance_of s
  unfolding book_of rows_distance_of records_distance_of steps_distance_of
  length_book = simp length-append (omega (arith, length_used_rows, length_used_records, length_used_steps, length_trailer s))

  -- the zeros behind them are not used
  pub used_table : used (table_of s) ≡ used s
  unfolding used table_of padded
  used_table =
      same_sections (used (table_of s)) (used s) refl refl (take_at (used s).rows _ _ length_used_rows)
      (take_at (used s).records _ _ length_used_records)
      (ap (λ (n : ℕ). take n (table_of s).steps) (table_steps s) ∙ take_at (used s).steps _ _ length_used_steps)

  -- so the table with its unused places zero is written as the same book
  pub book_table : book_of (table_of s) ≡ book_of s
  unfolding book_of
  book_table =
      ap₂ (λ (u : Sections) (t : List ℕ). u.rows ++ u.records ++ u.steps ++ t) used_table
      (sym (alike_trailer s (table_of s) (table_same s)))

-- a table in memory has room for what passes codes 3 and 6
pub record Roomy (s : Sections) : Type 0 where
  pub rows : row_bytes * s.nodes ≤ rows_room
  pub records : record_bytes * s.flows ≤ records_room
  pub steps : step_bytes * all_steps (facts_of s) ≤ steps_room

pub roomy : (s : Sections) → Valid (facts_of s) → Roomy s
unfolding facts_of all_steps first_step
roomy s v =
    let sum = sum_most (facts_of s).len most_steps s.flows (λ i h. (v.records i h).len.most) in
    record { rows = omega (arith, v.nodes.most); records = omega (arith, v.flows); steps = omega (arith, sum, v.flows) }

pub in_memory_holds : (s : Sections) → InMemory s → Roomy s → Holds s
in_memory_holds s m r = record { rows = omega arith; records = omega arith; steps = omega arith }

-- a table whose unused places are zero is its own table
zeros_stay : (count n : ℕ) (l : List ℕ) → n ≤ count → padded count (take n (padded count (take n l))) ≡ padded count (take n l)
zeros_stay count n l h =
    ext_get_or 0 (padded count again) (padded count (take n l))
    (length_padded count again (omega (arith, length-take n (padded count (take n l))))
    ∙ sym (length_padded count (take n l) (omega (arith, length-take n l))))
    (λ i within. byte_padded count again i ∙ ⊎_elim (used_byte i) (unused_byte i) (lt_or_ge i n) ∙ sym (byte_padded count (take n l) i))
  where
    again : List ℕ
    again = take n (padded count (take n l))

    used_byte : (i : ℕ) → i < n → byte again i ≡ byte (take n l) i
    used_byte i i< = get_or-take n (padded count (take n l)) i 0 i< ∙ byte_padded count (take n l) i

    unused_byte : (i : ℕ) → n ≤ i → byte again i ≡ byte (take n l) i
    unused_byte i n≤ =
        get_or-eq_default again 0 (omega (arith, length-take n (padded count (take n l))))
        ∙ sym (get_or-eq_default (take n l) 0 (omega (arith, length-take n l)))

module _ (s : Sections) (r : Roomy s) where
  pub table_in_memory : InMemory (table_of s)
  unfolding table_of used
  table_in_memory =
      record {
        rows = length_padded rows_room (used s).rows (omega (arith, length-take (row_bytes * s.nodes) s.rows));
        records = length_padded records_room (used s).records (omega (arith, length-take (record_bytes * s.flows) s.records));
        steps = length_padded steps_room (used s).steps (omega (arith, length-take (step_bytes * all_steps (facts_of s)) s.steps));
      }

  pub table_table : table_of (table_of s) ≡ table_of s
  unfolding table_of used
  table_table =
      same_sections (table_of (table_of s)) (table_of s) refl refl (zeros_stay rows_room (row_bytes * s.nodes) s.rows r.rows)
      (zeros_stay records_room (record_bytes * s.flows) s.records r.records)
      (ap (λ (n : ℕ). padded steps_room (take n (table_of s).steps)) (table_steps s)
      ∙ zeros_stay steps_room (step_bytes * all_steps (facts_of s)) s.steps r.steps)
