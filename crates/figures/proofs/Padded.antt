-- Lists that are filled from the front, with zeros behind: what they start as, what one more figure makes of them, and what stands in
-- them. Leans on the trade's Sums. Assumes nothing.
use Rattle.std.proofs.Common.{◌≡◌, ℕ, ◌+◌, ◌-◌, ◌<◌, ◌≤◌, true, false, eqb, List, length, get_or, set, replicate, sym, ◌∙◌, ⊎_elim, arith, length-append, length-set, get_or-set_other, get_or-set_same, get_or-append-add, ext_get_or, eqb-true}
use borrow.Author.Tests.{eqb-false}
use lib.ListN.{length-replicate, get_or-append}
use Rattle.trade.specs.First.{list_to, list_from}
use Rattle.trade.specs.Bytes.{padded}
use Rattle.trade.proofs.First.{bool_cases, lt_or_ge}
use Rattle.trade.proofs.Sums.{length_list_to, get_d_list_to}
use Rattle.pairs.proofs.SpreadLaws.{zeros}

-- a list of room places that has a figure's values at the indices below n, and zeros behind
abbrev pub filled : ℕ → (ℕ → ℕ) → ℕ → List ℕ
filled room figure n = padded room (list_to figure n)

module _ (room : ℕ) (figure : ℕ → ℕ) where
  pub length_filled : (n : ℕ) → n ≤ room → length (filled room figure n) ≡ room
  unfolding padded
  length_filled n h =
      length-append (list_to figure n) _
      ∙ omega (arith, length_list_to figure n, length-replicate {A = ℕ} (room - length (list_to figure n)) 0)

  pub filled_at : (n i : ℕ) → i < n → get_or (filled room figure n) i 0 ≡ figure i
  unfolding padded
  filled_at n i h =
      get_or-append (list_to figure n) _ 0 i (omega (arith, length_list_to figure n)) ∙ get_d_list_to figure n i h

  pub filled_behind : (n i : ℕ) → n ≤ i → get_or (filled room figure n) i 0 ≡ 0
  unfolding padded
  filled_behind n i h =
      let k : ℕ = i - n in
      let e : i ≡ length (list_to figure n) + k = omega (arith, length_list_to figure n) in
      rw e (get_or-append-add (list_to figure n) (replicate (room - length (list_to figure n)) 0) k 0 ∙ zeros (room - length (list_to figure n)) k)

  -- it starts as zeros
  pub filled_none : filled room figure 0 ≡ replicate room 0
  unfolding padded list_to list_from
  filled_none = let e : room - 0 ≡ room = omega arith in rw e

  -- and grows by one figure
  pub filled_more : (n : ℕ) → n < room → set (filled room figure n) n (figure n) ≡ filled room figure (n + 1)
  filled_more n h =
      ext_get_or 0 (set (filled room figure n) n (figure n)) (filled room figure (n + 1))
      (length-set (filled room figure n) n (figure n) ∙ length_filled n (omega arith) ∙ sym (length_filled (n + 1) (omega arith)))
      (λ i l. at i)
    where
      same : (i : ℕ) → i < n → get_or (set (filled room figure n) n (figure n)) i 0 ≡ get_or (filled room figure (n + 1)) i 0
      same i b =
          get_or-set_other (filled room figure n) n i (figure n) 0 (λ e. omega arith)
          ∙ filled_at n i b
          ∙ sym (filled_at (n + 1) i (omega arith))

      new : (i : ℕ) → i ≡ n → get_or (set (filled room figure n) n (figure n)) i 0 ≡ get_or (filled room figure (n + 1)) i 0
      new i e =
          rw e
          (get_or-set_same (filled room figure n) n (figure n) 0 (omega (arith, length_filled n (omega arith)))
          ∙ sym (filled_at (n + 1) n (omega arith)))

      behind : (i : ℕ) → n < i → get_or (set (filled room figure n) n (figure n)) i 0 ≡ get_or (filled room figure (n + 1)) i 0
      behind i b =
          get_or-set_other (filled room figure n) n i (figure n) 0 (λ e. omega arith)
          ∙ filled_behind n i (omega arith)
          ∙ sym (filled_behind (n + 1) i (omega arith))

      at : (i : ℕ) → get_or (set (filled room figure n) n (figure n)) i 0 ≡ get_or (filled room figure (n + 1)) i 0
      at i =
          ⊎_elim (λ (b : i < n). same i b)
          (λ (b : n ≤ i). ⊎_elim (λ (c : n < i). behind i c) (λ (c : i ≤ n). new i (omega arith)) (lt_or_ge n i))
          (lt_or_ge i n)

-- one more that is zero fills it alike
pub filled_zero : (room : ℕ) (figure : ℕ → ℕ) (n : ℕ) → n < room → figure n ≡ 0 → filled room figure n ≡ filled room figure (n + 1)
filled_zero room figure n h z =
    ext_get_or 0 (filled room figure n) (filled room figure (n + 1)) (length_filled room figure n (omega arith) ∙ sym (length_filled room figure (n + 1) (omega arith)))
    (λ i l.
    ⊎_elim (λ (b : i < n). filled_at room figure n i b ∙ sym (filled_at room figure (n + 1) i (omega arith)))
    (λ (b : n ≤ i).
    filled_behind room figure n i b
    ∙ ⊎_elim (λ (c : n < i). sym (filled_behind room figure (n + 1) i (omega arith)))
    (λ (c : i ≤ n). let e : i ≡ n = omega arith in rw e (sym (filled_at room figure (n + 1) n (omega arith) ∙ z))) (lt_or_ge n i))
    (lt_or_ge i n))

-- figures that agree fill a list alike
pub filled_same : (room : ℕ) (figure other : ℕ → ℕ) (n : ℕ) → n ≤ room → ((i : ℕ) → i < n → figure i ≡ other i) → filled room figure n ≡ filled room other n
filled_same room figure other n h e =
    ext_get_or 0 (filled room figure n) (filled room other n) (length_filled room figure n h ∙ sym (length_filled room other n h))
    (λ i l.
    ⊎_elim (λ (b : i < n). filled_at room figure n i b ∙ e i b ∙ sym (filled_at room other n i b))
    (λ (b : n ≤ i). filled_behind room figure n i b ∙ sym (filled_behind room other n i b))
    (lt_or_ge i n))

-- a list that agrees with other figures but at one place, with the figure of that place put there
pub filled_set :
    (room : ℕ) (figure other : ℕ → ℕ) (n at : ℕ)
    → n ≤ room
    → at < n
    → ((i : ℕ) → i < n → (i ≡ at → ⊥) → figure i ≡ other i)
    → set (filled room figure n) at (other at) ≡ filled room other n
filled_set room figure other n at h l e =
    ext_get_or 0 (set (filled room figure n) at (other at)) (filled room other n)
    (length-set (filled room figure n) at (other at) ∙ length_filled room figure n h ∙ sym (length_filled room other n h))
    (λ i b. ⊎_elim (λ (p : i < n). below i p) (λ (p : n ≤ i). behind i p) (lt_or_ge i n))
  where
    rest : (i : ℕ) → (i ≡ at → ⊥) → get_or (set (filled room figure n) at (other at)) i 0 ≡ get_or (filled room figure n) i 0
    rest i d = get_or-set_other (filled room figure n) at i (other at) 0 d

    below : (i : ℕ) → i < n → get_or (set (filled room figure n) at (other at)) i 0 ≡ get_or (filled room other n) i 0
    below i p =
        ⊎_elim
        (λ (q : eqb i at ≡ true).
        rw (eqb-true i at q)
        (get_or-set_same (filled room figure n) at (other at) 0 (omega (arith, length_filled room figure n h)) ∙ sym (filled_at room other n at l)))
        (λ (q : eqb i at ≡ false). rest i (eqb-false i at q) ∙ filled_at room figure n i p ∙ e i p (eqb-false i at q) ∙ sym (filled_at room other n i p))
        (bool_cases (eqb i at))

    behind : (i : ℕ) → n ≤ i → get_or (set (filled room figure n) at (other at)) i 0 ≡ get_or (filled room other n) i 0
    behind i p = rest i (λ d. omega arith) ∙ filled_behind room figure n i p ∙ sym (filled_behind room other n i p)
