-- Flows exchanged for others: what stands before, in and behind the cut, and that all places of the outcome are used. Leans on Sums,
-- Bytes and Used. Assumes nothing.
use Prim.Native.Nat.{ℕ, ◌+◌, ◌-◌, ◌*◌, ◌≤◌, ◌<◌}
use mathlib.Core.Path.{◌≡◌, ◌∙◌, ap, ap₂}
use mathlib.Core.List.{List, ◌++◌}
use native.Mathlib.Omega.{arith}
use native.Mathlib.Nat.{add_assoc}
use lib.ListN.{length, take, drop, length-append, length-drop, get_or-append}
use lib.Seq.{length-take-le, get_or-take, get_or-drop}
use Rattle.trade.specs.Limits.{row_bytes, record_bytes, step_bytes}
use Rattle.trade.specs.First.{sum_to}
use Rattle.trade.specs.Bytes.{byte, word}
use Rattle.trade.specs.Layout.{Sections, field}
use Rattle.trade.specs.Facts.{facts_of, first_step, all_steps}
use Rattle.trade.specs.Exchange.{spliced, Exchange, recut}
use Rattle.trade.proofs.Sums.{sum_cong, sum_split, sum_rest, sum_le}
use Rattle.trade.proofs.Bytes.{byte_behind}
use Rattle.trade.proofs.Used.{Full, NoMore}

-- BYTES with a part exchanged for others
module _ (from to : ℕ) (new old : List ℕ) (h : from ≤ length old) where
  length_front : length (take from old ++ new) ≡ from + length new
  length_front = length-append (take from old) new ∙ ap (λ (k : ℕ). k + length new) (length-take-le from old h)

  pub length_spliced : length (spliced from to new old) ≡ from + length new + (length old - to)
  unfolding spliced
  length_spliced =
      length-append (take from old ++ new) (drop to old) ∙ ap₂ (λ (a b : ℕ). a + b) length_front (length-drop to old)

  pub before_cut : (i : ℕ) → i < from → byte (spliced from to new old) i ≡ byte old i
  unfolding spliced
  before_cut i l =
      get_or-append (take from old ++ new) (drop to old) 0 i (omega (arith, length_front))
      ∙ get_or-append (take from old) new 0 i (omega (arith, length-take-le from old h))
      ∙ get_or-take from old i 0 l

  in_cut : (i : ℕ) → i < length new → byte (spliced from to new old) (from + i) ≡ byte new i
  unfolding spliced
  in_cut i l =
      get_or-append (take from old ++ new) (drop to old) 0 (from + i) (omega (arith, length_front))
      ∙ byte_behind (take from old) new from i (length-take-le from old h)

  pub behind_cut : (i : ℕ) → byte (spliced from to new old) (from + length new + i) ≡ byte old (to + i)
  unfolding spliced
  behind_cut i = byte_behind (take from old ++ new) (drop to old) (from + length new) i length_front ∙ get_or-drop to old i 0

-- records whose bytes are the same have the same fields
same_fields :
    (a b : List ℕ) (i j : ℕ)
    → ((d : ℕ) → d < record_bytes → byte a (record_bytes * i + d) ≡ byte b (record_bytes * j + d))
    → (k : ℕ) → k < 5 → field a i k ≡ field b j k
unfolding field word
same_fields a b i j e k h =
    rw (add_assoc (record_bytes * i) (2 * k) 1, add_assoc (record_bytes * j) (2 * k) 1, e (2 * k) (omega arith), e (2 * k + 1) (omega arith))

-- an exchange of flows that are there, for as many records as flows come, and no more steps than their plans have
pub record Fits (s : Sections) (x : Exchange) : Type 0 where
  pub order : x.from ≤ x.to
  pub within : x.to ≤ s.flows
  pub records : length x.records ≡ record_bytes * x.come
  pub steps : length x.steps ≤ step_bytes * sum_to (λ i. field x.records i 4) x.come

module _ (s : Sections) (x : Exchange) (full : Full s) (fits : Fits s x) where
  -- THE RECORDS: the flows before the place stay where they are, those that come stand behind them, and then the others
  pub recut_flows : (recut s x).flows ≡ x.from + x.come + (s.flows - x.to)
  unfolding recut
  recut_flows = omega (arith, fits.order, fits.within)

  start_in : record_bytes * x.from ≤ length s.records
  start_in = omega (arith, full.records, fits.order, fits.within)

  pub field_before : (i : ℕ) → i < x.from → (k : ℕ) → k < 5 → field (recut s x).records i k ≡ field s.records i k
  unfolding recut
  field_before i l =
      same_fields _ _ i i
      (λ d b. before_cut (record_bytes * x.from) (record_bytes * x.to) x.records s.records start_in (record_bytes * i + d) (omega arith))

  pub field_come : (j : ℕ) → j < x.come → (k : ℕ) → k < 5 → field (recut s x).records (x.from + j) k ≡ field x.records j k
  unfolding recut
  field_come j l =
      same_fields _ _ (x.from + j) j
      (λ d b.
      let e : record_bytes * (x.from + j) + d ≡ record_bytes * x.from + (record_bytes * j + d) = omega arith in
      ap (byte (recut s x).records) e
      ∙ in_cut (record_bytes * x.from) (record_bytes * x.to) x.records s.records start_in (record_bytes * j + d) (omega (arith, fits.records)))

  pub field_behind : (j k : ℕ) → k < 5 → field (recut s x).records (x.from + x.come + j) k ≡ field s.records (x.to + j) k
  unfolding recut
  field_behind j =
      same_fields _ _ (x.from + x.come + j) (x.to + j)
      (λ d b.
      let e : record_bytes * (x.from + x.come + j) + d ≡ record_bytes * x.from + length x.records + (record_bytes * j + d) =
      omega (arith, fits.records) in
      let o : record_bytes * x.to + (record_bytes * j + d) ≡ record_bytes * (x.to + j) + d = omega arith in
      ap (byte (recut s x).records) e
      ∙ behind_cut (record_bytes * x.from) (record_bytes * x.to) x.records s.records start_in (record_bytes * j + d)
      ∙ ap (byte s.records) o)

  length_records : length (recut s x).records ≡ record_bytes * (recut s x).flows
  unfolding recut
  length_records =
      length_spliced (record_bytes * x.from) (record_bytes * x.to) x.records s.records start_in
      ∙ omega (arith, full.records, fits.records, fits.order, fits.within)

  -- THE STEPS: those of the flows that stay, and those that come
  abbrev came : ℕ
  came = sum_to (λ j. field x.records j 4) x.come

  abbrev behind : ℕ
  behind = sum_to (λ j. field s.records (x.to + j) 4) (s.flows - x.to)

  old_steps : all_steps (facts_of s) ≡ first_step (facts_of s) x.to + behind
  unfolding all_steps first_step facts_of
  old_steps = sum_rest (λ i. field s.records i 4) x.to s.flows fits.within

  pub new_steps : all_steps (facts_of (recut s x)) ≡ first_step (facts_of s) x.from + came + behind
  unfolding all_steps first_step facts_of
  new_steps =
      let len : ℕ → ℕ = λ i. field (recut s x).records i 4 in
      ap (sum_to len) recut_flows
      ∙ sum_split len (x.from + x.come) (s.flows - x.to)
      ∙ ap₂ (λ (a b : ℕ). a + b)
      (sum_split len x.from x.come
      ∙ ap₂ (λ (a b : ℕ). a + b) (sum_cong _ _ x.from (λ i l. field_before i l 4 (omega arith)))
      (sum_cong _ _ x.come (λ j l. field_come j l 4 (omega arith))))
      (sum_cong _ _ (s.flows - x.to) (λ j l. field_behind j 4 (omega arith)))

  first_in : first_step (facts_of s) x.from ≤ first_step (facts_of s) x.to
  unfolding first_step
  first_in = sum_le (facts_of s).len x.from x.to fits.order

  length_steps : length (recut s x).steps ≡ step_bytes * first_step (facts_of s) x.from + length x.steps + step_bytes * behind
  unfolding recut
  length_steps =
      length_spliced (step_bytes * first_step (facts_of s) x.from) (step_bytes * first_step (facts_of s) x.to) x.steps s.steps
      (omega (arith, full.steps, old_steps, first_in))
      ∙ omega (arith, full.steps, old_steps)

  length_rows : length (recut s x).rows ≡ row_bytes * (recut s x).nodes
  unfolding recut
  length_rows = full.rows

  -- so there is no place that is not used
  pub recut_no_more : NoMore (recut s x)
  recut_no_more =
      record {
        rows = omega (arith, length_rows);
        records = omega (arith, length_records);
        steps = omega (arith, length_steps, new_steps, fits.steps);
      }
