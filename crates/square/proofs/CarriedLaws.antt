-- Lines of figures carried over a change: a flow that stays keeps the figures of the flows that stay, and all but a newcomer's are read from
-- where they stood. Leans on KeptLaws and Padded. Assumes nothing.
use Prim.Native.Nat.{ℕ, ◌+◌, ◌-◌, ◌≤◌, ◌<◌}
use mathlib.Core.Path.{◌≡◌, refl, sym, ◌∙◌, ap, ap₂, subst}
use mathlib.Core.Bool.{Bool, true, false, cond}
use mathlib.Core.Logic.{⊎_elim}
use mathlib.Core.List.{List}
use native.Mathlib.Omega.{arith}
use borrow.Author.Tests.{eqb-true, eqb-false, ne_eqb, lt-ltb, le-ltb}
use lib.Dec.{eqb}
use store.Seg.{eqb_same}
use lib.ListN.{get_or, set}
use Rattle.trade.specs.Limits.{most_flows}
use Rattle.trade.specs.Facts.{Facts, facts_in}
use Rattle.trade.specs.Interference.{interference}
use Rattle.trade.specs.Kept.{figure_in, figures_of}
use Rattle.trade.proofs.First.{bool_cases, lt_or_ge}
use Rattle.trade.proofs.Kept.{square_same}
use Rattle.trade.proofs.Taken.{out_below, out_past, out_most}
use Rattle.sections.specs.Formed.{Formed}
use Rattle.figures.proofs.FiguresLaws.{interference_most}
use Rattle.trade.specs.Exchange.{before_out}
use Rattle.square.specs.Carried.{shifted, line_from, before_in, OldFigures, pair_in, pairs_of, figure_with, with_figures}
use Rattle.figures.proofs.Padded.{filled, filled_at, filled_behind, filled_zero, filled_same, filled_set}
use Rattle.square.proofs.KeptLaws.{shifted_below, shifted_past, used, Lines, line_left, figures_square}

-- A FLOW COMES IN: where another stood before
in_below : (place i : ℕ) → i < place → before_in place i ≡ i
unfolding before_in
in_below place i l = rw (lt-ltb i place l) refl

in_past : (place i : ℕ) → place ≤ i → before_in place i ≡ i - 1
unfolding before_in
in_past place i l = rw (le-ltb i place l) refl

shifted_in : (place h : ℕ) → (h ≡ place → ⊥) → shifted (place + 1) 0 1 h ≡ before_in place h
shifted_in place h d =
    ⊎_elim (λ (l : h < place). shifted_below (place + 1) 0 1 h (omega arith) ∙ sym (in_below place h l))
    (λ (l : place ≤ h). omega (arith, shifted_past (place + 1) 0 1 h (omega (arith, d)), in_past place h l)) (lt_or_ge h place)

in_most : (place i : ℕ) → before_in place i ≤ i
in_most place i =
    ⊎_elim (λ (l : i < place). omega (arith, in_below place i l)) (λ (l : place ≤ i). omega (arith, in_past place i l)) (lt_or_ge i place)

-- THE FIGURES with it: the newcomer's line, its figure in any other, and two others'
module _ (place : ℕ) (pairs old : List ℕ) where
  with_it : (h : ℕ) → figure_with place pairs old place h ≡ get_or pairs h 0
  unfolding figure_with
  with_it h = rw (eqb_same place) refl

  with_its : (l : ℕ) → (l ≡ place → ⊥) → figure_with place pairs old l place ≡ get_or pairs l 0
  unfolding figure_with
  with_its l d = rw (ne_eqb l place d, eqb_same place) refl

  with_others : (l h : ℕ) → (l ≡ place → ⊥) → (h ≡ place → ⊥) → figure_with place pairs old l h ≡ figure_in old (before_in place l) (before_in place h)
  unfolding figure_with
  with_others l h d e = rw (ne_eqb l place d, ne_eqb h place e) refl

  -- by what it is
  with_cases :
      (P : ℕ → Type 0) (l h : ℕ)
      → (l ≡ place → P (get_or pairs h 0))
      → (h ≡ place → P (get_or pairs l 0))
      → ((l ≡ place → ⊥) → (h ≡ place → ⊥) → P (figure_in old (before_in place l) (before_in place h)))
      → P (figure_with place pairs old l h)
  with_cases P l h its of_it others =
      ⊎_elim (λ (e : eqb l place ≡ true). subst P (sym (ap (λ (i : ℕ). figure_with place pairs old i h) (eqb-true l place e) ∙ with_it h)) (its (eqb-true l place e)))
      (λ (d : eqb l place ≡ false).
      ⊎_elim
      (λ (e : eqb h place ≡ true).
      subst P (sym (ap (figure_with place pairs old l) (eqb-true h place e) ∙ with_its l (eqb-false l place d))) (of_it (eqb-true h place e)))
      (λ (e : eqb h place ≡ false).
      subst P (sym (with_others l h (eqb-false l place d) (eqb-false h place e))) (others (eqb-false l place d) (eqb-false h place e)))
      (bool_cases (eqb h place)))
      (bool_cases (eqb l place))

  -- a line of a flow above it, its own, and that of a flow below it
  pub with_above : (l : ℕ) → l < most_flows → l < place → line_from old l l most_flows 0 0 ≡ filled most_flows (figure_with place pairs old l) l
  with_above l m p =
      filled_same most_flows _ (figure_with place pairs old l) l (omega arith)
      (λ h q.
      ap₂ (figure_in old) (sym (in_below place l p)) (shifted_below most_flows 0 0 h (omega arith) ∙ sym (in_below place h (omega arith)))
      ∙ sym (with_others l h (λ e. omega arith) (λ e. omega arith)))

  pub with_own : (l : ℕ) → l < most_flows → l ≡ place → filled most_flows (λ h. get_or pairs h 0) l ≡ filled most_flows (figure_with place pairs old l) l
  with_own l m e =
      filled_same most_flows _ (figure_with place pairs old l) l (omega arith) (λ h q. rw e (sym (with_it h)))

  pub with_below :
      (l : ℕ)
      → l < most_flows
      → place < l
      → set (line_from old (l - 1) l (place + 1) 0 1) place (get_or pairs l 0) ≡ filled most_flows (figure_with place pairs old l) l
  with_below l m p =
      rw (← with_its l (λ e. omega arith))
      (filled_set most_flows _ (figure_with place pairs old l) l place (omega arith) p
      (λ h q d.
      ap₂ (figure_in old) (sym (in_past place l (omega arith))) (shifted_in place h d) ∙ sym (with_others l h (λ e. omega arith) d)))

  -- all are bytes
  pub with_bytes : ((i : ℕ) → get_or pairs i 0 < 256) → ((k : ℕ) → get_or old k 0 < 256) → (l h : ℕ) → figure_with place pairs old l h < 256
  unfolding figure_in
  with_bytes small bytes l h = with_cases (λ (n : ℕ). n < 256) l h (λ e. small h) (λ e. small l) (λ d e. bytes _)

-- read from figures whose lines up to l are as they were
with_left :
    (F : ℕ → ℕ → ℕ) (place : ℕ) (pairs old : List ℕ) (put : ℕ → Bool) (figures : List ℕ) (l h : ℕ)
    → Lines F old put figures
    → l < most_flows
    → h < l
    → ((j : ℕ) → j ≤ l → put j ≡ false)
    → figure_with place pairs figures l h ≡ figure_with place pairs old l h
unfolding figure_with
with_left F place pairs old put figures l h s m p t =
    ap (λ (n : ℕ). cond (eqb l place) (get_or pairs h 0) (cond (eqb h place) (get_or pairs l 0) n))
    (line_left F old put figures (before_in place l) (before_in place h) s (omega (arith, in_most place l)) (omega (arith, in_most place h))
    (t (before_in place l) (in_most place l)))

pub with_in :
    (F : ℕ → ℕ → ℕ) (place : ℕ) (pairs old : List ℕ) (put : ℕ → Bool) (figures : List ℕ) (l : ℕ)
    → Lines F old put figures
    → l < most_flows
    → ((j : ℕ) → j ≤ l → put j ≡ false)
    → filled most_flows (figure_with place pairs figures l) l ≡ filled most_flows (figure_with place pairs old l) l
with_in F place pairs old put figures l s m t =
    filled_same most_flows _ _ l (omega arith) (λ h p. with_left F place pairs old put figures l h s m p t)

-- THE PAIRS of a flow with each other are its figures
module _ (flows : ℕ) (f : Facts) (place : ℕ) (most : flows ≤ most_flows) (there : place < flows) where
  pair_above : (i : ℕ) → i < place → pair_in f place i ≡ interference f place i
  unfolding pair_in
  pair_above i l = rw (lt-ltb i place l) refl

  pub pair_below : (i : ℕ) → place < i → pair_in f place i ≡ interference f i place
  unfolding pair_in
  pair_below i l = rw (le-ltb i place (omega arith), ne_eqb i place (λ e. omega arith)) refl

  pair_own : pair_in f place place ≡ 0
  unfolding pair_in
  pair_own = rw (le-ltb place place (omega arith), eqb_same place) refl

  -- those of the flows above it are its line
  pub pairs_begun : filled most_flows (interference f place) place ≡ filled most_flows (pair_in f place) (place + 1)
  pairs_begun =
      filled_same most_flows (interference f place) (pair_in f place) place (omega arith) (λ i l. sym (pair_above i l))
      ∙ filled_zero most_flows (pair_in f place) place (omega arith) pair_own

  pairs_above : (h : ℕ) → h < place → get_or (pairs_of flows f place) h 0 ≡ interference f place h
  pairs_above h l = filled_at most_flows (pair_in f place) flows h (omega arith) ∙ pair_above h l

  pairs_below : (l : ℕ) → place < l → l < flows → get_or (pairs_of flows f place) l 0 ≡ interference f l place
  pairs_below l p q = filled_at most_flows (pair_in f place) flows l q ∙ pair_below l p

  pairs_bytes : ((l h : ℕ) → l < flows → h < l → interference f l h < 256) → (i : ℕ) → get_or (pairs_of flows f place) i 0 < 256
  pairs_bytes small i =
      ⊎_elim (λ (p : i < place). rw (pairs_above i p) (small place i there p))
      (λ (p : place ≤ i).
      ⊎_elim
      (λ (q : i < flows).
      ⊎_elim (λ (r : place < i). rw (pairs_below i r q) (small i place q r))
      (λ (r : i ≤ place). let e : i ≡ place = omega arith in rw (e, filled_at most_flows (pair_in f place) flows place there, pair_own) (omega arith))
      (lt_or_ge place i))
      (λ (q : flows ≤ i). rw (filled_behind most_flows (pair_in f place) flows i q) (omega arith))
      (lt_or_ge i flows))
      (lt_or_ge i place)

pub formed_pairs :
    (flows : ℕ) (rows records steps : List ℕ) (place : ℕ)
    → Formed flows rows records steps
    → place < flows
    → (i : ℕ)
    → get_or (pairs_of flows (facts_in 0 0 rows records steps) place) i 0 < 256
formed_pairs flows rows records steps place f there i =
    pairs_bytes flows (facts_in 0 0 rows records steps) place f.most there
    (λ l h p q. omega (arith, interference_most records rows steps l h, (f.fields h (omega arith)).len.1)) i

-- so, with the figures of before, all are right
module _
    (flows place : ℕ) (rows records steps old : List ℕ) (o : OldFigures flows place rows records steps old) (most : flows ≤ most_flows)
  where
    pub with_right :
        (l h : ℕ)
        → l < flows
        → h < l
        → figure_with place (pairs_of flows (facts_in 0 0 rows records steps) place) old l h ≡ interference (facts_in 0 0 rows records steps) l h
    with_right l h p q =
        let f : Facts = facts_in 0 0 rows records steps in
        with_cases place (pairs_of flows f place) old (λ (n : ℕ). n ≡ interference f l h) l h
        (λ e. rw e (pairs_above flows f place most o.within h (omega arith)))
        (λ e. rw e (pairs_below flows f place most o.within l (omega arith) p)) (λ d e. o.figures l h p q d e)

    pub with_figures_lem : with_figures flows place (pairs_of flows (facts_in 0 0 rows records steps) place) old ≡ figures_of (facts_in 0 flows rows records steps)
    unfolding with_figures
    with_figures_lem =
        square_same _ (used flows (interference (facts_in 0 0 rows records steps)))
        (λ l h p q.
        ⊎_elim
        (λ (u : l < flows).
        ⊎_elim (λ (v : h < l). rw (lt-ltb l flows u, lt-ltb h l v) (with_right l h u v)) (λ (v : l ≤ h). rw (lt-ltb l flows u, le-ltb h l v) refl) (lt_or_ge h l))
        (λ (u : flows ≤ l). rw (le-ltb l flows u) refl)
        (lt_or_ge l flows))
        ∙ figures_square flows rows records steps

-- A FLOW GOES: where another stood before
out_least : (place i : ℕ) → i ≤ before_out place i
out_least place i =
    ⊎_elim (λ (l : i < place). omega (arith, out_below place i l)) (λ (l : place ≤ i). omega (arith, out_past place i l)) (lt_or_ge i place)

shifted_out : (place h : ℕ) → shifted place 1 0 h ≡ before_out place h
shifted_out place h =
    ⊎_elim (λ (l : h < place). shifted_below place 1 0 h l ∙ sym (out_below place h l))
    (λ (l : place ≤ h). omega (arith, shifted_past place 1 0 h l, out_past place h l)) (lt_or_ge h place)

-- the figure of two flows that are left, and their line
abbrev pub figure_out : ℕ → List ℕ → ℕ → ℕ → ℕ
figure_out place old l h = figure_in old (before_out place l) (before_out place h)

module _ (place : ℕ) (old : List ℕ) (l : ℕ) (most : l < most_flows) where
  pub left_above : l < place → line_from old l l most_flows 0 0 ≡ filled most_flows (figure_out place old l) l
  left_above p =
      filled_same most_flows _ (figure_out place old l) l (omega arith)
      (λ h q.
      ap₂ (figure_in old) (sym (out_below place l p)) (shifted_below most_flows 0 0 h (omega arith) ∙ sym (out_below place h (omega arith))))

  pub left_below : place ≤ l → line_from old (l + 1) l place 1 0 ≡ filled most_flows (figure_out place old l) l
  left_below p =
      let on : l + 1 ≡ before_out place l = omega (arith, out_past place l p) in
      filled_same most_flows _ (figure_out place old l) l (omega arith) (λ h q. ap₂ (figure_in old) on (shifted_out place h))

-- read from figures whose lines from l on are as they were
pub left_left :
    (F : ℕ → ℕ → ℕ) (place : ℕ) (old : List ℕ) (put : ℕ → Bool) (figures : List ℕ) (l : ℕ)
    → Lines F old put figures
    → l + 1 < most_flows
    → ((j : ℕ) → l ≤ j → put j ≡ false)
    → filled most_flows (figure_out place figures l) l ≡ filled most_flows (figure_out place old l) l
left_left F place old put figures l s most t =
    filled_same most_flows _ _ l (omega arith)
    (λ h q.
    line_left F old put figures (before_out place l) (before_out place h) s (omega (arith, out_most place l)) (omega (arith, out_most place h))
    (t (before_out place l) (out_least place l)))
