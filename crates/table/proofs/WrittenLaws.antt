-- What a write answers and leaves, by what has passed. Leans on the trade's Used and Calls. Assumes nothing.
use Prim.Native.Nat.{ℕ, ◌+◌, ◌*◌, ◌≤◌, ◌<◌}
use mathlib.Core.Path.{◌≡◌, sym, ◌∙◌, ap, ap₂}
use mathlib.Core.Bool.{cond}
use mathlib.Core.List.{List, [], ◌∷◌, ◌++◌}
use native.Mathlib.Omega.{arith}
use lib.Dec.{ltb}
use lib.ListN.{length, take, length-append}
use borrow.Author.Tests.{eq-eqb, ne_eqb, lt-ltb}
use Rattle.trade.specs.Limits.{most_nodes, most_flows, most_steps, row_bytes, record_bytes, step_bytes, trailer_bytes}
use Rattle.trade.specs.Bytes.{over}
use Rattle.trade.specs.Layout.{Sections}
use Rattle.trade.specs.Facts.{facts_of, all_steps}
use Rattle.trade.specs.Table.{InMemory, rows_distance_of, records_distance_of, steps_distance_of, book_of, trailer_of, used}
use Rattle.trade.specs.Answers.{done, refused, is_done, given, first_of, no_number}
use Rattle.trade.specs.Codes.{code13}
use Rattle.trade.specs.Calls.{Writing, Written, table_rules, write_answer, write_of}
use Rattle.trade.specs.declared.answer.Answer.{Answer}
use Rattle.trade.proofs.Answers.{passed_head, passed_tail, first_of_passed, first_of_on, first_of_refuse, given_true}
use Rattle.trade.proofs.Valid.{plans_most, table_valid}
use Rattle.trade.proofs.Used.{Holds, length_book}
use Rattle.trade.proofs.Calls.{written}
use Rattle.table.specs.Written.{Room, Writes, trailer_with}
use lib.Seq.{length-take-le}
use Rattle.numbers.specs.Pasting.{pasted_at}
use Rattle.numbers.proofs.PastingLaws.{pasted_first, pasted_behind}

-- a table that passes: its counts are in range, and so is the sum of its L
pub record Sized (t : Sections) : Type 0 where
  pub nodes : t.nodes ≤ most_nodes
  pub flows : t.flows ≤ most_flows
  pub plans : all_steps (facts_of t) ≤ most_steps * t.flows

pub sized : (t : Sections) → (first_of table_rules no_number t).code ≡ 0 → Sized t
unfolding table_rules facts_of
sized t e =
    let p = first_of_passed table_rules no_number t e in
    let v = table_valid t p in
    record { nodes = v.nodes.most; flows = v.flows; plans = plans_most (facts_of t) (passed_head (passed_tail (passed_tail p))) }

-- a buffer of so many bytes has room for its book, and the length that is worked out is the book's
module _ (t : Sections) (m : InMemory t) (e : (first_of table_rules no_number t).code ≡ 0) (all : ℕ) (a : all ≡ all_steps (facts_of t)) where
  pub roomy : (room : ℕ) → row_bytes * t.nodes + record_bytes * t.flows + step_bytes * all + trailer_bytes ≤ room → Room t all room
  unfolding rows_distance_of records_distance_of steps_distance_of
  roomy room h =
      let z = sized t e in
      record {
        nodes = z.nodes;
        flows = z.flows;
        plans = omega (arith, z.plans, z.flows, a);
        all = a;
        rows = omega (arith, z.nodes, m.rows);
        records = omega (arith, z.flows, m.records);
        steps = omega (arith, z.plans, z.flows, a, m.steps);
        buffer = omega (arith, a, h);
      }

-- the length of its book
pub book_length :
    (t : Sections) (all room : ℕ)
    → Room t all room
    → length (book_of t) ≡ row_bytes * t.nodes + record_bytes * t.flows + step_bytes * all + trailer_bytes
unfolding rows_distance_of records_distance_of steps_distance_of
book_length t all room r =
    let whole : Holds t = record { rows = r.rows; records = r.records; steps = omega (arith, r.all, r.steps) } in
    length_book t whole ∙ omega (arith, r.all)

pub long :
    (t : Sections)
    → InMemory t
    → (first_of table_rules no_number t).code ≡ 0
    → (all : ℕ)
    → all ≡ all_steps (facts_of t)
    → length (book_of t) ≡ row_bytes * t.nodes + record_bytes * t.flows + step_bytes * all + trailer_bytes
long t m e all a =
    let n = row_bytes * t.nodes + record_bytes * t.flows + step_bytes * all + trailer_bytes in
    book_length t all n (roomy t m e all a n (omega arith))

module _ (t : Sections) (d : List ℕ) where
  by_rules :
      write_answer (record { table = t; buffer = d })
      ≡ cond (is_done (first_of table_rules no_number t))
      (first_of {A = Writing} ((λ w. code13 (length (book_of w.table)) w.buffer) ∷ []) (λ w. length (book_of w.table)) (record { table = t; buffer = d }))
      (first_of table_rules no_number t)
  unfolding write_answer
  by_rules = first_of_on (λ (w : Writing). w.table) table_rules _ _ (record { table = t; buffer = d })

  -- an answer that is known, and the buffer with it
  answered : (a : Answer) → write_answer (record { table = t; buffer = d }) ≡ a → (a.code ≡ 0 → ⊥) → Writes t d a d
  unfolding write_of is_done
  answered a e n = record { answer = sym e; buffer = rw (e, ne_eqb a.code 0 n) }

  -- refused by a rule on the table
  pub write_refused : ((first_of table_rules no_number t).code ≡ 0 → ⊥) → Writes t d (first_of table_rules no_number t) d
  unfolding is_done
  write_refused n = answered (first_of table_rules no_number t) (by_rules ∙ rw (ne_eqb (first_of table_rules no_number t).code 0 n)) n

  -- no room
  pub write_short : (first_of table_rules no_number t).code ≡ 0 → length d < length (book_of t) → Writes t d (refused 13 0) d
  unfolding is_done code13
  write_short e h =
      let short = given_true 13 _ 0 (lt-ltb (length d) (length (book_of t)) h) in
      let nonzero : (given 13 (ltb (length d) (length (book_of t))) 0).code ≡ 0 → ⊥ =
      λ z. let o : ◌≡◌ {A = ℕ} 13 0 = sym (ap (λ (r : Answer). r.code) short) ∙ z in omega arith in
      answered (refused 13 0)
      (by_rules ∙ rw (eq-eqb (first_of table_rules no_number t).code 0 e) (first_of_refuse {A = Writing} _ _ _ (record { table = t; buffer = d }) nonzero ∙ short))
      (λ (z : ◌≡◌ {A = ℕ} 13 0). omega arith)

  -- done
  pub write_done : (first_of table_rules no_number t).code ≡ 0 → length (book_of t) ≤ length d → Writes t d (done (length (book_of t))) (over (book_of t) d)
  write_done e h =
      let w = written t d (first_of_passed table_rules no_number t e) h in
      record { answer = sym (ap (λ (r : Written). r.answer) w); buffer = sym (ap (λ (r : Written). r.buffer) w) }

-- the parts of a table's book
abbrev pub rows_part : Sections → List ℕ
rows_part s = take (row_bytes * s.nodes) s.rows

abbrev pub records_part : Sections → List ℕ
records_part s = take (record_bytes * s.flows) s.records

abbrev pub steps_part : Sections → ℕ → List ℕ
steps_part s all = take (step_bytes * all) s.steps

abbrev pub tail_part : Sections → ℕ → List ℕ
tail_part s all =
    trailer_with (step_bytes * all + trailer_bytes + record_bytes * s.flows + row_bytes * s.nodes)
    (step_bytes * all + trailer_bytes + record_bytes * s.flows) (step_bytes * all + trailer_bytes) s.nodes s.flows

-- put together, one behind the other, they are the book
module _ (s : Sections) (all room : ℕ) (r : Room s all room) where
  pub book_room : row_bytes * s.nodes + record_bytes * s.flows + step_bytes * all + trailer_bytes ≤ room
  unfolding rows_distance_of records_distance_of steps_distance_of
  book_room = omega (arith, r.buffer, r.all)

  pub book_parts : rows_part s ++ records_part s ++ steps_part s all ++ tail_part s all ≡ book_of s
  unfolding book_of used trailer_of trailer_with rows_distance_of records_distance_of steps_distance_of
  book_parts = rw r.all

  pub put_in_turn :
      (d d₁ d₂ d₃ d₄ : List ℕ)
      → d₁ ≡ pasted_at 0 (rows_part s) d
      → d₂ ≡ pasted_at (row_bytes * s.nodes) (records_part s) d₁
      → d₃ ≡ pasted_at (row_bytes * s.nodes + record_bytes * s.flows) (steps_part s all) d₂
      → d₄ ≡ pasted_at (row_bytes * s.nodes + record_bytes * s.flows + step_bytes * all) (tail_part s all) d₃
      → d₄ ≡ over (book_of s) d
  put_in_turn d d₁ d₂ d₃ d₄ e₁ e₂ e₃ e₄ =
      let rows : List ℕ = rows_part s in
      let records : List ℕ = records_part s in
      let steps : List ℕ = steps_part s all in
      let tail : List ℕ = tail_part s all in
      let n₁ = length-take-le (row_bytes * s.nodes) s.rows r.rows in
      let n₂ = length-take-le (record_bytes * s.flows) s.records r.records in
      let n₃ = length-take-le (step_bytes * all) s.steps r.steps in
      let l₂ : length (rows ++ records) ≡ row_bytes * s.nodes + record_bytes * s.flows = length-append rows records ∙ ap₂ (λ (a b : ℕ). a + b) n₁ n₂ in
      let l₃ : length (rows ++ records ++ steps) ≡ row_bytes * s.nodes + record_bytes * s.flows + step_bytes * all =
      length-append (rows ++ records) steps ∙ ap₂ (λ (a b : ℕ). a + b) l₂ n₃ in
      let p₁ : d₁ ≡ over rows d = e₁ ∙ pasted_first rows d in
      let p₂ : d₂ ≡ over (rows ++ records) d = e₂ ∙ pasted_behind (row_bytes * s.nodes) rows records d d₁ n₁ p₁ in
      let p₃ : d₃ ≡ over (rows ++ records ++ steps) d = e₃ ∙ pasted_behind _ (rows ++ records) steps d d₂ l₂ p₂ in
      e₄ ∙ pasted_behind _ (rows ++ records ++ steps) tail d d₃ l₃ p₃ ∙ ap (λ (b : List ℕ). over b d) book_parts
