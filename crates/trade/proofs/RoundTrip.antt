-- The two round trips: a book that was written reads back as its table with the unused places zero, and a table that was read is
-- written as its book's bytes. Leans on Whole. Assumes nothing.
use Prim.Native.Nat.{ℕ, suc, ◌+◌, ◌-◌, ◌*◌, ◌/◌, ◌%◌, ◌^◌, ◌<◌}
use mathlib.Core.Path.{◌≡◌, refl, sym, ◌∙◌, ap, ap₂}
use mathlib.Core.Bool.{not, cond}
use mathlib.Core.List.{List, [], ◌∷◌, ◌++◌, append_assoc}
use native.Mathlib.Numerals.{add-one}
use native.Mathlib.Omega.{arith}
use lib.Dec.{eqb}
use lib.ListN.{length, take, drop, replicate, length-append, length-drop, drop_of_length-le}
use lib.Seq.{take_at, drop_at, drop-cons, get_or-drop}
use borrow.Author.Tests.{eqb-true, eq-eqb, ne_eqb, le-ltb, not-false}
use Rattle.trade.specs.Limits.{most_flows, mark, row_bytes, record_bytes, step_bytes, trailer_bytes}
use Rattle.trade.specs.Bytes.{Bytes, byte, word, two_bytes, part}
use Rattle.trade.specs.Layout.{Sections, trailer, rows_distance, records_distance, steps_distance, node_count, flow_count, sections_of}
use Rattle.trade.specs.Facts.{Facts, facts_of, said, all_steps}
use Rattle.trade.specs.Table.{steps_distance_of, records_distance_of, rows_distance_of, trailer_of, used, book_of, table_of}
use Rattle.trade.specs.Kept.{Tabled, kept_of, RightFigures, kept_measure}
use Rattle.trade.specs.Answers.{done, given, is_done, given_first, first_of, on, no_number}
use Rattle.trade.specs.Codes.{code1, code2, code3, code4, code5, code6, code7, code8}
use Rattle.trade.specs.Bound.{Measure, measure, code9, code9_by}
use Rattle.trade.specs.Calls.{Checked, book_rules, table_rules, read_answer, read_of, check_rules_by, check_rules, check_answer_by, bounds_by, bounds_of, check_by, check_of, kept_rules_by, check_kept_of, check_kept_by}
use Rattle.trade.specs.declared.answer.Answer.{Answer}
use Rattle.trade.proofs.First.{and_true}
use Rattle.trade.proofs.Answers.{Passed, passed_none, passed_more, passed_head, passed_tail, passed_append, passed_on, passed_done, append_passed, first_of_last, given_passes, given_passed, given_false}
use Rattle.trade.proofs.Valid.{table_valid}
use Rattle.trade.proofs.Places.{same_all_steps, alike_passed, alike_code9, alike_bounds}
use Rattle.trade.proofs.Alike.{alike_self, code9_alike, bounds_alike}
use Rattle.trade.proofs.Kept.{right_measure, alike_figures}
use Rattle.trade.proofs.Used.{same_sections, used_same, table_same, table_used, Holds, length_used_rows, length_used_records, length_used_steps, length_trailer, length_book, book_table, roomy}
use Rattle.trade.proofs.Whole.{passed_framed, passed_steps, book_holds, used_whole, book_parts}

-- a part that stands between two others
part_between :
    (front between behind : List ℕ) (at count : ℕ)
    → length front ≡ at
    → length between ≡ count
    → part at count (front ++ (between ++ behind)) ≡ between
unfolding part
part_between front between behind at count a c = ap (take count) (drop_at front (between ++ behind) at a) ∙ take_at between behind count c

-- A TABLE THAT PASSES, with all of its used places, WRITTEN AS A BOOK
module _ (t : Sections) (h : Holds t) (p : Passed t table_rules) where
  -- its trailer is read as it was written
  trailer_book : trailer (book_of t) ≡ trailer_of t
  unfolding trailer book_of
  trailer_book =
      let front : List ℕ = (used t).rows ++ (used t).records ++ (used t).steps in
      drop_at front (trailer_of t) (length (book_of t) - trailer_bytes) (omega (arith, length-append front (trailer_of t), length_trailer t))

  -- every distance fits two bytes
  distance_fits : rows_distance_of t < 2 ^ 16
  unfolding rows_distance_of records_distance_of steps_distance_of
  distance_fits = let r = roomy t (table_valid t p) in omega (arith, r.rows, r.records, r.steps)

  rows_distance_lem : rows_distance (book_of t) ≡ rows_distance_of t
  unfolding rows_distance word trailer_of two_bytes
  rows_distance_lem = rw trailer_book (omega (arith, distance_fits))

  records_distance_lem : records_distance (book_of t) ≡ records_distance_of t
  unfolding records_distance word trailer_of two_bytes rows_distance_of
  records_distance_lem = rw trailer_book (omega (arith, distance_fits))

  steps_distance_lem : steps_distance (book_of t) ≡ steps_distance_of t
  unfolding steps_distance word trailer_of two_bytes rows_distance_of records_distance_of
  steps_distance_lem = rw trailer_book (omega (arith, distance_fits))

  node_count_lem : node_count (book_of t) ≡ t.nodes
  unfolding node_count trailer_of two_bytes
  node_count_lem = rw trailer_book

  flow_count_lem : flow_count (book_of t) ≡ t.flows
  unfolding flow_count trailer_of two_bytes
  flow_count_lem = rw trailer_book

  -- its sections are the used places
  from_rows : length (book_of t) - rows_distance (book_of t) ≡ 0
  from_rows = omega (arith, length_book t h, rows_distance_lem)

  from_records : length (book_of t) - records_distance (book_of t) ≡ row_bytes * t.nodes
  unfolding rows_distance_of
  from_records = omega (arith, length_book t h, records_distance_lem)

  from_steps : length (book_of t) - steps_distance (book_of t) ≡ row_bytes * t.nodes + record_bytes * t.flows
  unfolding rows_distance_of records_distance_of
  from_steps = omega (arith, length_book t h, steps_distance_lem)

  to_trailer : steps_distance (book_of t) - trailer_bytes ≡ step_bytes * all_steps (facts_of t)
  unfolding steps_distance_of
  to_trailer = omega (arith, steps_distance_lem)

  book_rows : (sections_of (book_of t)).rows ≡ (used t).rows
  unfolding sections_of book_of
  book_rows =
      ap₂ (λ (at count : ℕ). part at count (book_of t)) from_rows (ap (λ (n : ℕ). row_bytes * n) node_count_lem)
      ∙ simp append_assoc (part_between [] (used t).rows _ 0 (row_bytes * t.nodes) refl (length_used_rows t h))

  book_records : (sections_of (book_of t)).records ≡ (used t).records
  unfolding sections_of book_of
  book_records =
      ap₂ (λ (at count : ℕ). part at count (book_of t)) from_records (ap (λ (m : ℕ). record_bytes * m) flow_count_lem)
      ∙ simp append_assoc
      (part_between (used t).rows (used t).records _ (row_bytes * t.nodes) (record_bytes * t.flows) (length_used_rows t h)
      (length_used_records t h))

  book_steps : (sections_of (book_of t)).steps ≡ (used t).steps
  unfolding sections_of book_of
  book_steps =
      ap₂ (λ (at count : ℕ). part at count (book_of t)) from_steps to_trailer
      ∙ rw (append_assoc ((used t).rows ++ (used t).records) (used t).steps (trailer_of t))
      (part_between ((used t).rows ++ (used t).records) (used t).steps (trailer_of t) (row_bytes * t.nodes + record_bytes * t.flows)
      (step_bytes * all_steps (facts_of t))
      (omega (arith, length-append (used t).rows (used t).records, length_used_rows t h, length_used_records t h))
      (length_used_steps t h))

  pub book_sections : sections_of (book_of t) ≡ used t
  unfolding used sections_of
  book_sections = same_sections (sections_of (book_of t)) (used t) node_count_lem flow_count_lem book_rows book_records book_steps

  pub book_said : said (book_of t) ≡ facts_of (used t)
  unfolding said
  book_said = ap facts_of book_sections

  -- so it passes codes 1 to 8
  book_code1 : (code1 (book_of t)).code ≡ 0
  unfolding code1 rows_distance_of records_distance_of steps_distance_of
  book_code1 = ap (λ (a : Answer). a.code) (given_false 1 _ 0 (le-ltb (length (book_of t)) trailer_bytes (omega (arith, length_book t h))))

  book_code2 : (code2 (book_of t)).code ≡ 0
  unfolding code2 given trailer_of two_bytes
  book_code2 = rw trailer_book

  book_code4 : (code4 (book_of t)).code ≡ 0
  unfolding code4 rows_distance_of records_distance_of steps_distance_of
  book_code4 =
      ap (λ (a : Answer). a.code)
      (given_false 4 _ 0
      (rw (
        rows_distance_lem,
        records_distance_lem,
        steps_distance_lem,
        node_count_lem,
        flow_count_lem,
        eq-eqb (rows_distance_of t) (records_distance_of t + row_bytes * t.nodes) refl,
        eq-eqb (records_distance_of t) (steps_distance_of t + record_bytes * t.flows) refl,
        le-ltb (steps_distance_of t) trailer_bytes (omega arith),
        ne_eqb (steps_distance_of t % 2) 1 (λ e. omega arith),
        le-ltb (length (book_of t)) (rows_distance_of t) (omega (arith, length_book t h)),
      )))

  book_code7 : (code7 (book_of t)).code ≡ 0
  unfolding code7 steps_distance_of
  book_code7 =
      let e : steps_distance (book_of t) ≡ steps_distance_of (sections_of (book_of t))
      = steps_distance_lem ∙ rw (book_sections, ← same_all_steps t (used t) (used_same t)) in
      ap (λ (a : Answer). a.code)
      (given_false 7 (not (eqb (steps_distance (book_of t)) (steps_distance_of (sections_of (book_of t))))) 0 (rw (eq-eqb _ _ e)))

  book_rule : (code : Facts → Answer) → (code (facts_of (used t))).code ≡ 0 → (code (said (book_of t))).code ≡ 0
  book_rule code e = rw book_said e

  pub book_passes : Passed (book_of t) book_rules
  unfolding book_rules table_rules
  book_passes =
      let p3 = alike_passed t (used t) (used_same t) p in
      let p5 = passed_tail p3 in
      let p6 = passed_tail p5 in
      passed_more book_code1
      (passed_more book_code2
      (passed_more (book_rule code3 (passed_head p3))
      (passed_more book_code4
      (passed_more (book_rule code5 (passed_head p5))
      (passed_more (book_rule code6 (passed_head p6))
      (passed_more book_code7 (passed_more (book_rule code8 (passed_head (passed_tail p6))) passed_none)))))))

-- WRITE, THEN READ: the table with its unused places zero and its figures right, whatever figures it had
pub write_then_read : (t : Sections) → Holds t → Passed t table_rules → read_of (book_of t) ≡ record { answer = done 0; table = kept_of t }
unfolding read_of read_answer is_done kept_of
write_then_read t h p =
    rw (passed_done no_number (book_passes t h p), book_sections t h p, table_used t, ← alike_figures t (used t) (used_same t) p)

-- WRITE, THEN CHECK: a table that passes code 9 is accepted as a book, with its own bounds
pub write_then_check :
    (t : Sections)
    → Holds t
    → Passed t table_rules
    → (code9 (facts_of t)).code ≡ 0
    → check_of (book_of t) ≡ record { answer = done 0; bounds = bounds_of (facts_of t) }
unfolding check_by check_answer_by check_rules_by is_done
write_then_check t h p e = rw (passed_done no_number passes, book_said t h p, ← alike_bounds t (used t) (used_same t) p)
  where
    passes : Passed (book_of t) check_rules
    passes =
        passed_append (book_passes t h p)
        (passed_more (book_rule t h p code9 (rw (← alike_code9 t (used t) (used_same t) p) e)) passed_none)

-- what a check comes to where the form passes: code 9 by a measure, and the bounds where it is not given
abbrev pub nine_by : Facts → Measure → Checked
nine_by f μ = record { answer = code9_by f μ; bounds = cond (is_done (code9_by f μ)) (bounds_by f μ) (replicate most_flows 0) }

pub book_nine : (measured : Facts → Measure) (b : List ℕ) → Passed b book_rules → check_by measured b ≡ nine_by (said b) (measured (said b))
unfolding check_by check_answer_by check_rules_by code9_by given_first
book_nine measured b p = rw (nine)
  where
    nine : first_of (check_rules_by measured) no_number b ≡ code9_by (said b) (measured (said b))
    nine =
        append_passed book_rules _ no_number b (ap (λ (a : Answer). a.code) (passed_done no_number p))
        ∙ first_of_last (λ c. code9_by (said c) (measured (said c))) b (given_passes 8 _ _)

pub kept_nine :
    (measured : Tabled → Measure) (t : Tabled)
    → Passed t.sections table_rules
    → check_kept_by measured t ≡ nine_by (facts_of t.sections) (measured t)
unfolding check_kept_by kept_rules_by code9_by given_first
kept_nine measured t p = rw (nine)
  where
    nine : first_of (kept_rules_by measured) no_number t ≡ code9_by (facts_of t.sections) (measured t)
    nine =
        append_passed (on (λ (u : Tabled). u.sections) table_rules) _ no_number t
        (ap (λ (a : Answer). a.code) (passed_done no_number (passed_on (λ (u : Tabled). u.sections) p)))
        ∙ first_of_last (λ (u : Tabled). code9_by (facts_of u.sections) (measured u)) t (given_passes 8 _ _)

-- right figures count as interference does
pub kept_right : (t : Tabled) → Passed t.sections table_rules → RightFigures t → check_kept_of t ≡ nine_by (facts_of t.sections) (measure (facts_of t.sections))
kept_right t p right =
    let f : Facts = facts_of t.sections in
    let same = right_measure t right in
    kept_nine kept_measure t p
    ∙ rw (code9_alike f f refl (alike_self f.flows f) (kept_measure t) (measure f) same, bounds_alike f f refl (alike_self f.flows f) (kept_measure t) (measure f) same)

-- CHECK A TABLE: where its figures are right, what check says of its book, bounds included
pub kept_then_check : (t : Tabled) → Holds t.sections → Passed t.sections table_rules → RightFigures t → check_kept_of t ≡ check_of (book_of t.sections)
kept_then_check t h p right =
    let f : Facts = facts_of t.sections in
    let by_use : nine_by f (measure f) ≡ nine_by (facts_of (used t.sections)) (measure (facts_of (used t.sections)))
    = rw (alike_code9 t.sections (used t.sections) (used_same t.sections) p, alike_bounds t.sections (used t.sections) (used_same t.sections) p) in
    let by_book : check_of (book_of t.sections) ≡ nine_by (facts_of (used t.sections)) (measure (facts_of (used t.sections)))
    = book_nine measure (book_of t.sections) (book_passes t.sections h p) ∙ rw (book_said t.sections h p) in
    kept_right t p right ∙ by_use ∙ sym by_book

-- two bytes read as a number are written as those bytes
two_bytes_word : (l : List ℕ) (at : ℕ) → Bytes l → two_bytes (word l at) ≡ byte l at ∷ byte l (at + 1) ∷ []
unfolding two_bytes word
two_bytes_word l at b =
    let high : word l at / 256 % 256 ≡ byte l at = omega (arith, b at, b (at + 1)) in
    let low : word l at % 256 ≡ byte l (at + 1) = omega (arith, b at, b (at + 1)) in
    ap₂ (λ (x y : ℕ). x ∷ y ∷ []) high low

-- the ten bytes of a trailer, two by two
next_two : (l : List ℕ) (at : ℕ) → at + 1 < length l → byte l at ∷ byte l (at + 1) ∷ drop (at + 2) l ≡ drop at l
next_two l at h =
    let e : ◌≡◌ {A = ℕ} (at + 2) (suc (suc at)) = omega arith in
    rw (drop-cons l at 0 (omega arith), add-one at, drop-cons l (suc at) 0 (omega arith), e)

two_by_two :
    (l : List ℕ)
    → length l ≡ trailer_bytes
    → Bytes l
    → two_bytes (word l 0) ++ two_bytes (word l 2) ++ two_bytes (word l 4) ++ (byte l 6 ∷ byte l 7 ∷ []) ++ (byte l 8 ∷ byte l 9 ∷ []) ≡ l
two_by_two l n b =
    rw (two_bytes_word l 0 b, two_bytes_word l 2 b, two_bytes_word l 4 b)
    (rw (
      ← drop_of_length-le l {i = trailer_bytes} (omega arith),
      next_two l 8 (omega arith),
      next_two l 6 (omega arith),
      next_two l 4 (omega arith),
      next_two l 2 (omega arith),
      next_two l 0 (omega arith),
    ))

-- A BOOK THAT PASSES, READ INTO A TABLE
module _ (b : List ℕ) (p : Passed b book_rules) where
  -- the table passes
  pub read_passes : Passed (table_of (sections_of b)) table_rules
  unfolding book_rules table_rules said
  read_passes =
      let p3 = passed_tail (passed_tail p) in
      let p5 = passed_tail (passed_tail p3) in
      let p6 = passed_tail p5 in
      alike_passed (sections_of b) (table_of (sections_of b)) (table_same (sections_of b))
      (passed_more (passed_head p3)
      (passed_more (passed_head p5) (passed_more (passed_head p6) (passed_more (passed_head (passed_tail (passed_tail p6))) passed_none))))

  -- its trailer says what the book's does
  marked : (byte (trailer b) 8 ≡ byte mark 0) × (byte (trailer b) 9 ≡ byte mark 1)
  unfolding book_rules code2
  marked =
      let (first, second) = and_true _ _ (not-false _ (given_passed 1 _ 0 (passed_head (passed_tail p)))) in
      (eqb-true _ _ first, eqb-true _ _ second)

  steps_back : steps_distance_of (sections_of b) ≡ word (trailer b) 4
  unfolding steps_distance
  steps_back = sym (passed_steps b p)

  records_back : records_distance_of (sections_of b) ≡ word (trailer b) 2
  unfolding sections_of records_distance_of records_distance steps_distance
  records_back = omega (arith, steps_back, (passed_framed b p).flows)

  rows_back : rows_distance_of (sections_of b) ≡ word (trailer b) 0
  unfolding sections_of rows_distance_of rows_distance records_distance
  rows_back = omega (arith, records_back, (passed_framed b p).nodes)

  trailer_length : length (trailer b) ≡ trailer_bytes
  unfolding trailer
  trailer_length = omega (arith, length-drop (length b - trailer_bytes) b, (passed_framed b p).trailer)

  trailer_bytes_lem : Bytes b → Bytes (trailer b)
  unfolding trailer
  trailer_bytes_lem bytes i = rw (get_or-drop (length b - trailer_bytes) b i 0) (bytes _)

  trailer_back : Bytes b → trailer_of (sections_of b) ≡ trailer b
  unfolding trailer_of sections_of node_count flow_count
  trailer_back bytes =
      rw (rows_back, records_back, steps_back, ← marked.0, ← marked.1)
      (two_by_two (trailer b) trailer_length (trailer_bytes_lem bytes))

  -- so it is written as the book's bytes, which are the last part of the slice
  pub read_book : Bytes b → book_of (table_of (sections_of b)) ≡ drop (length b - rows_distance b) b
  unfolding book_of
  read_book bytes =
      book_table (sections_of b) (book_holds b p) ∙ rw (used_whole b p, trailer_back bytes) (book_parts b p)
