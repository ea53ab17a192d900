-- Plans laid into lanes: one step more of a plan, one plan more, and what the words then hold. Leans on RisesLaws. Assumes nothing.
use Rattle.std.proofs.Common.{◌≡◌, ℕ, suc, ◌+◌, ◌-◌, ◌*◌, ◌%◌, ◌^◌, ◌<◌, ◌≤◌, Bool, true, false, ◌&&◌, ◌||◌, eqb, ltb, List, length, get_or, set, sym, refl, ap, ◌∙◌, ⊎_elim, arith, length-set, get_or-set_other, get_or-set_same, pow_pos, le-ltb, lt-ltb, eq-eqb, ne_eqb}
use lib.Bits.{bit_or}
use Rattle.trade.specs.Limits.{most_steps, most_id}
use Rattle.trade.specs.Layout.{field}
use Rattle.trade.specs.Bytes.{bit}
use Rattle.trade.specs.Facts.{step_in}
use Rattle.trade.specs.Interference.{Matrix, worst_path}
use Rattle.trade.proofs.First.{lt_or_ge}
use Rattle.trade.proofs.Sums.{sum_next}
use Rattle.nodes.proofs.MaskLaws.{bit_none, bit_or_lem, bit_below, bit_above, bit_past}
use Rattle.plans.specs.Plan.{steps_in}
use Rattle.pairs.specs.Columns.{marked_at, Narrow, matrix_by}
use Rattle.sections.specs.Formed.{plan_start, plan_at}
use Rattle.figures.specs.Figures.{Asked}
use Rattle.figures.specs.Rises.{lane_at, Ends, Marks}
use Rattle.figures.specs.Lanes.{laid_mark, LaidAt, Laid, GroupedTo}
use Rattle.figures.specs.declared.lanes.Group.{Group}
use Rattle.pairs.proofs.PathLaws.{columns_behind}
use Rattle.figures.proofs.RisesLaws.{low_bit, lane_later}

-- THE FIRST STEPS OF A PLAN, laid at a place: j of them
pub record LayingAt (columns h : List ℕ) (at j : ℕ) (before after : List ℕ) : Type 0 where
  pub size : length after ≡ length before
  pub laid :
      (i b : ℕ)
      → i < j
      → at + b < 64
      → bit (get_or after i 0) (at + b) ≡ (bit (get_or before i 0) (at + b) || (ltb b most_steps && marked_at columns (step_in h i) b))
  pub below : (i y : ℕ) → i < j → y < at → bit (get_or after i 0) y ≡ bit (get_or before i 0) y
  pub past : (i y : ℕ) → i < j → 64 ≤ y → bit (get_or after i 0) y ≡ bit (get_or before i 0) y
  pub others : (i : ℕ) → j ≤ i → get_or after i 0 ≡ get_or before i 0

pub laying_none : (columns h : List ℕ) (at : ℕ) (words : List ℕ) → LayingAt columns h at 0 words words
laying_none columns h at words = record { size = refl; laid = λ i b l. absurd (omega arith); below = λ i y l. absurd (omega arith); past = λ i y l. absurd (omega arith); others = λ i l. refl }

or_none : (b : Bool) → (b || false) ≡ b
or_none true = refl
or_none false = refl

-- a word of 64 bits shifted to a place
shifted_below : (m at y : ℕ) → y < at → at < 64 → bit ((m * 2 ^ at) % 2 ^ 64) y ≡ false
shifted_below m at y h l =
    let e : m * 2 ^ at ≡ m * 2 ^ at + 0 = omega arith in
    low_bit (m * 2 ^ at) y (omega arith) ∙ ap (λ (n : ℕ). bit n y) e ∙ bit_below m 0 at y h ∙ bit_none y

shifted_above : (m at b : ℕ) → at + b < 64 → bit ((m * 2 ^ at) % 2 ^ 64) (at + b) ≡ bit m b
shifted_above m at b l =
    let e : m * 2 ^ at ≡ m * 2 ^ at + 0 = omega arith in
    low_bit (m * 2 ^ at) (at + b) l ∙ ap (λ (n : ℕ). bit n (at + b)) e ∙ bit_above m 0 at b (pow_pos at)

pub laying_more :
    (columns h : List ℕ) (at j m : ℕ) (before words : List ℕ)
    → j < length words
    → at < 64
    → ((b : ℕ) → bit m b ≡ (ltb b most_steps && marked_at columns (step_in h j) b))
    → LayingAt columns h at j before words
    → LayingAt columns h at (suc j) before (set words j (bit_or (get_or words j 0) ((m * 2 ^ at) % 2 ^ 64)))
laying_more columns h at j m before words room inside marks s =
    record {
      size = length-set words j put ∙ s.size;
      laid =
          λ i b l f.
          ⊎_elim (λ (q : i < j). rw (other i (λ z. omega arith)) (s.laid i b q f))
          (λ (q : j ≤ i). here_at i b (omega arith) f) (lt_or_ge i j);
      below = λ i y l f. ⊎_elim (λ (q : i < j). rw (other i (λ z. omega arith)) (s.below i y q f)) (λ (q : j ≤ i). here_none i y (omega arith) (shifted_below m at y f inside)) (lt_or_ge i j);
      past = λ i y l f. ⊎_elim (λ (q : i < j). rw (other i (λ z. omega arith)) (s.past i y q f)) (λ (q : j ≤ i). here_none i y (omega arith) (bit_past ((m * 2 ^ at) % 2 ^ 64) 64 y (omega arith) f)) (lt_or_ge i j);
      others = λ i l. other i (λ z. omega arith) ∙ s.others i (omega arith);
    }
  where
    put : ℕ
    put = bit_or (get_or words j 0) ((m * 2 ^ at) % 2 ^ 64)

    other : (i : ℕ) → (i ≡ j → ⊥) → get_or (set words j put) i 0 ≡ get_or words i 0
    other i d = get_or-set_other words j i put 0 d

    here : (i y : ℕ) → i ≡ j → bit (get_or (set words j put) i 0) y ≡ (bit (get_or before i 0) y || bit ((m * 2 ^ at) % 2 ^ 64) y)
    here i y q =
        rw (q, get_or-set_same words j put 0 room) (bit_or_lem (get_or words j 0) ((m * 2 ^ at) % 2 ^ 64) y ∙ rw (s.others j (omega arith)) refl)

    here_at :
        (i b : ℕ)
        → i ≡ j
        → at + b < 64
        → bit (get_or (set words j put) i 0) (at + b) ≡ (bit (get_or before i 0) (at + b) || (ltb b most_steps && marked_at columns (step_in h i) b))
    here_at i b q f = here i (at + b) q ∙ rw (q, shifted_above m at b f, marks b) refl

    here_none : (i y : ℕ) → i ≡ j → bit ((m * 2 ^ at) % 2 ^ 64) y ≡ false → bit (get_or (set words j put) i 0) y ≡ bit (get_or before i 0) y
    here_none i y q e = here i y q ∙ rw e (or_none (bit (get_or before i 0) y))

-- all of them
pub laying_all :
    (columns h : List ℕ) (at n : ℕ) (before words : List ℕ)
    → Asked h
    → n ≤ most_steps
    → Narrow n columns
    → at + n < 64
    → LayingAt columns h at (steps_in h) before words
    → LaidAt columns n h at before words
laying_all columns h at n before words asked small narrow inside s =
    record {
      size = s.size;
      marks = λ j b l. ⊎_elim (within j b l) (behind j b l) (lt_or_ge j (steps_in h));
      below = λ j y l. ⊎_elim (λ (q : j < steps_in h). s.below j y q l) (λ (q : steps_in h ≤ j). rw (s.others j q) refl) (lt_or_ge j (steps_in h));
      past = λ j y l. ⊎_elim (λ (q : j < steps_in h). ⊎_elim (λ (f : y < 64). unmarked j y l q f) (λ (f : 64 ≤ y). s.past j y q f) (lt_or_ge y 64)) (λ (q : steps_in h ≤ j). rw (s.others j q) refl) (lt_or_ge j (steps_in h));
    }
  where
    within : (j b : ℕ) → b < n → j < steps_in h → bit (get_or words j 0) (at + b) ≡ (bit (get_or before j 0) (at + b) || laid_mark columns h j b)
    within j b l q = s.laid j b q (omega arith) ∙ rw (lt-ltb b most_steps (omega arith), lt-ltb j (steps_in h) q) refl

    behind : (j b : ℕ) → b < n → steps_in h ≤ j → bit (get_or words j 0) (at + b) ≡ (bit (get_or before j 0) (at + b) || laid_mark columns h j b)
    behind j b l q = rw (s.others j q, le-ltb j (steps_in h) q) (sym (or_none (bit (get_or before j 0) (at + b))))

    no_mark_lem : (j b : ℕ) → j < steps_in h → n ≤ b → (ltb b most_steps && marked_at columns (step_in h j) b) ≡ false
    no_mark_lem j b q l =
        ⊎_elim
        (λ (f : b < most_steps).
        rw (lt-ltb b most_steps f) (narrow (step_in h j) b (asked.numbered j (omega arith)).0 (asked.numbered j (omega arith)).1 l f))
        (λ (f : most_steps ≤ b). rw (le-ltb b most_steps f) refl)
        (lt_or_ge b most_steps)

    unmarked : (j y : ℕ) → at + n ≤ y → j < steps_in h → y < 64 → bit (get_or words j 0) y ≡ bit (get_or before j 0) y
    unmarked j y l q f =
        let b : ℕ = y - at in
        let e : y ≡ at + b = omega arith in
        rw e (s.laid j b q (omega arith) ∙ rw (no_mark_lem j b q (omega arith)) (or_none (bit (get_or before j 0) (at + b))))

-- SO MANY PLANS: none yet, and one more
module _ (columns : List ℕ) (n : ℕ) (plans : ℕ → List ℕ) where
  pub laid_none : (words : List ℕ) → length words ≡ most_steps → ((j : ℕ) → get_or words j 0 ≡ 0) → Laid columns n plans 0 words
  laid_none words size zeros =
      record {
        size = size;
        marks = λ k j b l. absurd (omega arith);
        ends = λ j k l. absurd (omega arith);
        beyond = λ j y l. rw (zeros j) (bit_none y);
      }

  pub laid_more :
      (lanes : ℕ) (before after : List ℕ)
      → LaidAt columns n (plans lanes) (lane_at n lanes) before after
      → Laid columns n plans lanes before
      → Laid columns n plans (suc lanes) after
  unfolding lane_at
  laid_more lanes before after a s =
      record {
        size = a.size ∙ s.size;
        marks = λ k j b l m. ⊎_elim (λ (q : k < lanes). a.below j (lane_at n k + b) (omega (arith, lane_later n (suc k) lanes q)) ∙ s.marks k j b q m) (λ (q : lanes ≤ k). new k j b (omega arith) m) (lt_or_ge k lanes);
        ends = λ j k l. ⊎_elim (λ (q : k < lanes). a.below j (lane_at n k + n) (omega (arith, lane_later n (suc k) lanes q)) ∙ s.ends j k q) (λ (q : lanes ≤ k). new_end j k (omega arith)) (lt_or_ge k lanes);
        beyond = λ j y l. a.past j y (omega arith) ∙ s.beyond j y (omega arith);
      }
    where
      new : (k j b : ℕ) → k ≡ lanes → b < n → bit (get_or after j 0) (lane_at n k + b) ≡ laid_mark columns (plans k) j b
      new k j b q m = rw q (a.marks j b m ∙ rw (s.beyond j (lane_at n lanes + b) (omega arith)) refl)

      new_end : (j k : ℕ) → k ≡ lanes → bit (get_or after j 0) (lane_at n k + n) ≡ false
      new_end j k q = rw q (a.past j (lane_at n lanes + n) (omega arith) ∙ s.beyond j (lane_at n lanes + n) (omega arith))

-- THE ENDS: none yet, and one more
pub ends_none : (n : ℕ) → Ends n 0 0
ends_none n = record { set = λ k l. absurd (omega arith); clear = λ k b l. absurd (omega arith); beyond = λ y l. bit_none y }

pub ends_more :
    (n lanes ends end : ℕ)
    → ((y : ℕ) → bit end y ≡ eqb (lane_at n lanes + n) y)
    → Ends n lanes ends
    → Ends n (suc lanes) (bit_or ends end)
unfolding lane_at
ends_more n lanes ends end is s =
    record {
      set = λ k l. both (lane_at n k + n) ∙ ⊎_elim (λ (q : k < lanes). rw (s.set k q) refl) (λ (q : lanes ≤ k). here k (omega arith)) (lt_or_ge k lanes);
      clear = λ k b l m. both (lane_at n k + b) ∙ ⊎_elim (λ (q : k < lanes). rw (s.clear k b q m) (apart (lane_at n k + b) (λ z. omega (arith, lane_later n (suc k) lanes q)))) (λ (q : lanes ≤ k). free k b (omega arith) m) (lt_or_ge k lanes);
      beyond = λ y l. both y ∙ rw (s.beyond y (omega arith)) (apart y (λ z. omega arith));
    }
  where
    both : (y : ℕ) → bit (bit_or ends end) y ≡ (bit ends y || eqb (lane_at n lanes + n) y)
    both y = bit_or_lem ends end y ∙ rw (is y) refl

    apart : (y : ℕ) → (lane_at n lanes + n ≡ y → ⊥) → eqb (lane_at n lanes + n) y ≡ false
    apart y d = ne_eqb (lane_at n lanes + n) y d

    here : (k : ℕ) → k ≡ lanes → (bit ends (lane_at n k + n) || eqb (lane_at n lanes + n) (lane_at n k + n)) ≡ true
    here k q = rw (q, eq-eqb (lane_at n lanes + n) (lane_at n lanes + n) refl, s.beyond (lane_at n lanes + n) (omega arith)) refl

    free : (k b : ℕ) → k ≡ lanes → b < n → (bit ends (lane_at n k + b) || eqb (lane_at n lanes + n) (lane_at n k + b)) ≡ false
    free k b q m = rw (q, s.beyond (lane_at n lanes + b) (omega arith)) (apart (lane_at n lanes + b) (λ z. omega arith))

-- WHAT THE WORDS HOLD: of each lane the matrix of its plan, and no marks behind the plan's last step
abbrev pub lane_matrix : List ℕ → ℕ → (ℕ → List ℕ) → ℕ → Matrix
lane_matrix columns n plans k i j = laid_mark columns (plans k) j (n - suc i)

pub laid_holds :
    (columns : List ℕ) (n : ℕ) (plans : ℕ → List ℕ) (lanes count : ℕ) (words : List ℕ)
    → Laid columns n plans lanes words
    → Marks n lanes count (lane_matrix columns n plans) words
laid_holds columns n plans lanes count words s =
    record {
      at =
          λ k j b l m h.
          let back : n - suc (n - suc b) ≡ b = omega arith in s.marks k j b l h ∙ ap (laid_mark columns (plans k) j) (sym back);
      ends = λ j m. s.ends j;
    }

-- the figure of a lane
pub lane_figure :
    (columns : List ℕ) (n : ℕ) (plans : ℕ → List ℕ) (k count : ℕ)
    → steps_in (plans k) ≤ count
    → worst_path (lane_matrix columns n plans k) n count ≡ worst_path (matrix_by columns n (plans k)) n (steps_in (plans k))
lane_figure columns n plans k count h =
    columns_behind (matrix_by columns n (plans k)) (lane_matrix columns n plans k) n (steps_in (plans k)) count h
    (λ i j p q. rw (lt-ltb j (steps_in (plans k)) q) refl) (λ i j q. rw (le-ltb j (steps_in (plans k)) q) refl)

-- WHERE the lane after one begins
pub lane_on : (n k : ℕ) → lane_at n (suc k) ≡ lane_at n k + suc n
unfolding lane_at
lane_on n k = refl

-- A GROUP OF FLOWS: none yet, and one more
module _ (columns : List ℕ) (n : ℕ) (records steps : List ℕ) (first l : ℕ) where
  pub grouped_none :
      (start : ℕ) (words : List ℕ)
      → first < l
      → start ≡ plan_start records first
      → start ≤ most_id * first
      → length words ≡ most_steps
      → ((j : ℕ) → get_or words j 0 ≡ 0)
      → GroupedTo columns n records steps first l (record { next = first; start = start; ends = 0; longest = 0 }) words
  unfolding lane_at
  grouped_none start words h s m size zeros =
      let none : first - first ≡ 0 = omega arith in
      record {
        from = omega arith;
        most = omega arith;
        room = rw none (omega arith);
        start = s;
        steps_most = m;
        laid = rw none (laid_none columns n (λ k. plan_at records steps (first + k)) words size zeros);
        closed = rw none (ends_none n);
        long = λ k p. absurd (omega arith);
        short = omega arith;
      }

  pub grouped_more :
      (group : Group) (len end longest : ℕ) (before after : List ℕ)
      → group.next < l
      → lane_at n (group.next - first) + n < 64
      → (len ≡ field records group.next 4) × (len ≤ most_id)
      → ((y : ℕ) → bit end y ≡ eqb (lane_at n (group.next - first) + n) y)
      → (group.longest ≤ longest) × (steps_in (plan_at records steps group.next) ≤ longest) × (longest ≤ most_steps)
      → LaidAt columns n (plan_at records steps group.next) (lane_at n (group.next - first)) before after
      → GroupedTo columns n records steps first l group before
      → GroupedTo columns n records steps first l (record { next = group.next + 1; start = group.start + len; ends = bit_or group.ends end; longest = longest }) after
  unfolding lane_at
  grouped_more group len end longest before after h inside is ends long a g =
      let lanes : ℕ = group.next - first in
      let on : group.next + 1 - first ≡ suc lanes = omega (arith, g.from) in
      let here : first + lanes ≡ group.next = omega (arith, g.from) in
      let next : group.next + 1 ≡ suc group.next = omega arith in
      record {
        from = omega (arith, g.from);
        most = omega arith;
        room = rw on (omega arith);
        start = rw (next, sum_next (λ (k : ℕ). field records k 4) group.next) (omega (arith, g.start, is.0));
        steps_most = omega (arith, g.steps_most, is.1);
        laid = rw on (laid_more columns n (λ k. plan_at records steps (first + k)) lanes before after (rw here a) g.laid);
        closed = rw on (ends_more n lanes group.ends end ends g.closed);
        long =
            λ k p.
            ⊎_elim (λ (q : k < lanes). omega (arith, g.long k q, long.0))
            (λ (q : lanes ≤ k). let e : first + k ≡ group.next = omega (arith, g.from) in rw e long.1) (lt_or_ge k lanes);
        short = long.2;
      }
