-- Figures put line by line: where a line's figures are read, a line put figure by figure, and lines put one after the other, which make a
-- square. Leans on the trade's Kept and on Padded. Assumes nothing.
use Prim.Native.Nat.{ℕ, zero, suc, ◌+◌, ◌-◌, ◌*◌, ◌/◌, ◌%◌, ◌≤◌, ◌<◌}
use mathlib.Core.Path.{◌≡◌, refl, sym, ◌∙◌, ap, ap₂}
use mathlib.Core.Bool.{Bool, true, false, not, cond, ◌&&◌, and-false}
use mathlib.Core.Logic.{⊎_elim}
use mathlib.Core.List.{List, [], ◌∷◌}
use native.Mathlib.Omega.{arith}
use borrow.Author.Tests.{eqb-true, eqb-false, lt-ltb, le-ltb, not-true, not-false}
use Rattle.std.specs.List.{list_all, zip}
use Rattle.std.proofs.Common.{rules}
use Rattle.std.proofs.lemmas.List.{places}
use lib.Dec.{eqb, ltb}
use lib.ListN.{length, get_or, take, drop}
use lib.Seq.{ext_get_or}
use Rattle.trade.specs.Limits.{most_flows}
use Rattle.trade.specs.First.{some}
use Rattle.trade.specs.Layout.{sections}
use Rattle.trade.specs.Facts.{facts_in, facts_of, first_step, step_of}
use Rattle.trade.specs.Interference.{matrix, interference}
use Rattle.trade.specs.Kept.{figures_room, figure_in, square, figures_of, wrong_line}
use Rattle.trade.proofs.First.{not_both, bool_cases, lt_or_ge, some_cong, some_true, some_false}
use Rattle.trade.proofs.Kept.{square_held}
use Rattle.sections.specs.Formed.{Formed}
use Rattle.square.specs.Carried.{shifted, LinePut, Cleared}
use Rattle.figures.proofs.FiguresLaws.{interference_most}
use Rattle.figures.proofs.Padded.{filled, filled_at, filled_behind}

-- WHERE a figure is read: below the cut at its place, any other ahead and back
pub shifted_below : (cut ahead back h : ℕ) → h < cut → shifted cut ahead back h ≡ h
unfolding shifted
shifted_below cut ahead back h l = rw (lt-ltb h cut l) refl

pub shifted_past : (cut ahead back h : ℕ) → cut ≤ h → shifted cut ahead back h ≡ h + ahead - back
unfolding shifted
shifted_past cut ahead back h l = rw (le-ltb h cut l) refl

pub shifted_most : (cut ahead back h : ℕ) → shifted cut ahead back h ≤ h + ahead
shifted_most cut ahead back h =
    ⊎_elim (λ (l : h < cut). omega (arith, shifted_below cut ahead back h l)) (λ (l : cut ≤ h). omega (arith, shifted_past cut ahead back h l))
    (lt_or_ge h cut)

-- A LINE put up to a figure
pub record PutTo (l n : ℕ) (line before after : List ℕ) : Type 0 where
  pub size : length after ≡ length before
  pub here : (h : ℕ) → h < n → get_or after (most_flows * l + h) 0 ≡ get_or line h 0
  pub below : (k : ℕ) → k < most_flows * l → get_or after k 0 ≡ get_or before k 0
  pub past : (k : ℕ) → most_flows * l + n ≤ k → get_or after k 0 ≡ get_or before k 0

-- a line is put in one way
pub put_one : {l : ℕ} {line before after other : List ℕ} → LinePut l line before after → LinePut l line before other → after ≡ other
put_one {l} {line} {before} {after} {other} p q =
    ext_get_or 0 after other (p.size ∙ sym q.size)
    (λ k b.
    ⊎_elim (λ (h : k < most_flows * l). p.below k h ∙ sym (q.below k h))
    (λ (h : most_flows * l ≤ k). ⊎_elim (here k h) (λ (e : most_flows * l + most_flows ≤ k). p.past k e ∙ sym (q.past k e)) (lt_or_ge k (most_flows * l + most_flows)))
    (lt_or_ge k (most_flows * l)))
  where
    here : (k : ℕ) → most_flows * l ≤ k → k < most_flows * l + most_flows → get_or after k 0 ≡ get_or other k 0
    here k h e =
        let place : k ≡ most_flows * l + (k - most_flows * l) = omega arith in
        rw place (p.here (k - most_flows * l) (omega arith) ∙ sym (q.here (k - most_flows * l) (omega arith)))

-- THE LINE of one of so many flows: its figures as they stand in a square, all of them bytes where the figures above it are
module _ (flows l : ℕ) (figure : ℕ → ℕ) (used : l < flows) where
  pub line_figure : (h : ℕ) → get_or (filled most_flows figure l) h 0 ≡ cond (ltb l flows && ltb h l) (figure h) 0
  line_figure h =
      ⊎_elim (λ (q : h < l). rw (lt-ltb l flows used, lt-ltb h l q) (filled_at most_flows figure l h q))
      (λ (q : l ≤ h). rw (lt-ltb l flows used, le-ltb h l q) (filled_behind most_flows figure l h q)) (lt_or_ge h l)

pub line_bytes : (l : ℕ) (figure : ℕ → ℕ) → ((h : ℕ) → h < l → figure h < 256) → (h : ℕ) → get_or (filled most_flows figure l) h 0 < 256
line_bytes l figure small h =
    ⊎_elim (λ (q : h < l). rw (filled_at most_flows figure l h q) (small h q))
    (λ (q : l ≤ h). rw (filled_behind most_flows figure l h q) (omega arith)) (lt_or_ge h l)

-- LINES put while others are still read: those of a test hold their figures, any other is as it was. None yet, one more, and all
abbrev pub used : ℕ → (ℕ → ℕ → ℕ) → ℕ → ℕ → ℕ
used flows figure l h = cond (ltb l flows && ltb h l) (figure l h) 0

pub record Lines (F : ℕ → ℕ → ℕ) (old : List ℕ) (put : ℕ → Bool) (figures : List ℕ) : Type 0 where
  pub size : length figures ≡ figures_room
  pub held : (k : ℕ) → k < figures_room → put (k / most_flows) ≡ true → get_or figures k 0 ≡ F (k / most_flows) (k % most_flows)
  pub left : (k : ℕ) → k < figures_room → put (k / most_flows) ≡ false → get_or figures k 0 ≡ get_or old k 0

pub lines_none :
    (F : ℕ → ℕ → ℕ) (put : ℕ → Bool) (figures : List ℕ)
    → length figures ≡ figures_room
    → ((j : ℕ) → j < most_flows → put j ≡ false)
    → Lines F figures put figures
lines_none F put figures size none =
    record { size = size; held = λ k b t. absurd (not_both t (none (k / most_flows) (omega arith))); left = λ k b t. refl }

pub lines_more :
    (flows : ℕ) (figure : ℕ → ℕ → ℕ) (old : List ℕ) (put more : ℕ → Bool) (l : ℕ) (line before after : List ℕ)
    → l < flows
    → line ≡ filled most_flows (figure l) l
    → LinePut l line before after
    → more l ≡ true
    → ((j : ℕ) → (j ≡ l → ⊥) → more j ≡ put j)
    → Lines (used flows figure) old put before
    → Lines (used flows figure) old more after
lines_more flows figure old put more l line before after u is p new others s =
    record {
      size = p.size ∙ s.size;
      held =
          λ k b t.
          ⊎_elim (λ (e : eqb (k / most_flows) l ≡ true). here k (eqb-true _ _ e))
          (λ (e : eqb (k / most_flows) l ≡ false). same k (eqb-false _ _ e) ∙ s.held k b (sym (others _ (eqb-false _ _ e)) ∙ t))
          (bool_cases (eqb (k / most_flows) l));
      left = λ k b t. let d = other k t in same k d ∙ s.left k b (sym (others _ d) ∙ t);
    }
  where
    other : (k : ℕ) → more (k / most_flows) ≡ false → k / most_flows ≡ l → ⊥
    other k t e = not_both new (rw e at t)

    same : (k : ℕ) → (k / most_flows ≡ l → ⊥) → get_or after k 0 ≡ get_or before k 0
    same k d =
        ⊎_elim (λ (q : k < most_flows * l). p.below k q) (λ (q : most_flows * l ≤ k). p.past k (omega (arith, d))) (lt_or_ge k (most_flows * l))

    here : (k : ℕ) → k / most_flows ≡ l → get_or after k 0 ≡ used flows figure (k / most_flows) (k % most_flows)
    here k e =
        let place : k ≡ most_flows * l + k % most_flows = omega arith in
        ap (λ (i : ℕ). get_or after i 0) place
        ∙ p.here (k % most_flows) (omega arith)
        ∙ rw (is, e) (line_figure flows l (figure l) u (k % most_flows))

-- all that are used, with zeros in the others
pub lines_all :
    (F : ℕ → ℕ → ℕ) (old : List ℕ) (put : ℕ → Bool) (n : ℕ) (before after : List ℕ)
    → ((j : ℕ) → j < n → put j ≡ true)
    → ((l h : ℕ) → n ≤ l → l < most_flows → F l h ≡ 0)
    → Cleared n before after
    → Lines F old put before
    → after ≡ square F
lines_all F old put n before after all none c s =
    square_held F after (c.size ∙ s.size)
    (λ k h.
    ⊎_elim (λ (p : k / most_flows < n). c.above k (omega arith) ∙ s.held k (omega arith) (all (k / most_flows) p))
    (λ (p : n ≤ k / most_flows). c.past k (omega arith) ∙ sym (none (k / most_flows) (k % most_flows) p (omega arith)))
    (lt_or_ge (k / most_flows) n))

-- a figure of no flow
pub unused : (flows : ℕ) (figure : ℕ → ℕ → ℕ) (l h : ℕ) → flows ≤ l → used flows figure l h ≡ 0
unused flows figure l h p = rw (le-ltb l flows p) refl

-- a figure of a line that was not put is the one it was
pub line_left :
    (F : ℕ → ℕ → ℕ) (old : List ℕ) (put : ℕ → Bool) (figures : List ℕ) (l h : ℕ)
    → Lines F old put figures
    → l < most_flows
    → h < most_flows
    → put l ≡ false
    → figure_in figures l h ≡ figure_in old l h
unfolding figure_in
line_left F old put figures l h s p q t =
    let at : (most_flows * l + h) / most_flows ≡ l = omega arith in s.left (most_flows * l + h) (omega arith) (ap put at ∙ t)

-- the lines above l and one more
pub one_more : (l j : ℕ) → (j ≡ l → ⊥) → ltb j (l + 1) ≡ ltb j l
one_more l j d =
    ⊎_elim (λ (p : j < l). lt-ltb j (l + 1) (omega arith) ∙ sym (lt-ltb j l p)) (λ (p : l ≤ j). le-ltb j (l + 1) (omega (arith, d)) ∙ sym (le-ltb j l p))
    (lt_or_ge j l)

-- THE FIGURES of a book: the square of its used lines, each a byte
pub figures_square :
    (flows : ℕ) (rows records steps : List ℕ)
    → square (used flows (interference (facts_in 0 0 rows records steps))) ≡ figures_of (facts_in 0 flows rows records steps)
unfolding figures_of facts_of interference matrix step_of first_step
figures_square flows rows records steps = refl

pub figures_bytes :
    (flows : ℕ) (rows records steps : List ℕ)
    → Formed flows rows records steps
    → (l : ℕ)
    → l < flows
    → (h : ℕ)
    → get_or (filled most_flows (interference (facts_in 0 0 rows records steps) l) l) h 0 < 256
figures_bytes flows rows records steps f l u h =
    line_bytes l _ (λ k q. omega (arith, interference_most records rows steps l k, (f.fields k (omega arith)).len.1)) h

-- a line of figures is wrong where it is not the one that is worked out
pub wrong_line_lem :
    (flows : ℕ) (rows records steps figures : List ℕ) (l : ℕ)
    → some (λ h. not (eqb (figure_in figures l h) (get_or (filled most_flows (interference (facts_in 0 0 rows records steps) l) l) h 0))) l
    ≡ wrong_line (record { sections = sections 0 flows rows records steps; figures = figures }) l
unfolding wrong_line facts_of interference matrix step_of first_step
wrong_line_lem flows rows records steps figures l =
    some_cong _ _ l (λ h p. ap (λ (v : ℕ). not (eqb (figure_in figures l h) v)) (filled_at most_flows (interference (facts_in 0 0 rows records steps) l) l h p))

-- TWO LISTS side by side: all pairs are the same exactly where no figure of the second is another
abbrev pub all_same : List ℕ → List ℕ → Bool
all_same xs ys = list_all (λ (p : ℕ × ℕ). eqb p.0 p.1) (zip xs ys)

abbrev pub other : List ℕ → List ℕ → ℕ → Bool
other xs ys h = not (eqb (get_or xs h 0) (get_or ys h 0))

none_other : (xs ys : List ℕ) → length ys ≤ length xs → ((h : ℕ) → h < length ys → other xs ys h ≡ false) → all_same xs ys ≡ true
none_other [] [] l e = refl
none_other [] (y ∷ ys) l e = absurd (omega arith)
none_other (x ∷ xs) [] l e = refl
none_other (x ∷ xs) (y ∷ ys) l e =
    rw (not-false (eqb x y) (e 0 (omega arith))) (none_other xs ys (omega arith) (λ h b. e (suc h) (omega arith)))

one_other : (xs ys : List ℕ) (h : ℕ) → h < length ys → length ys ≤ length xs → other xs ys h ≡ true → all_same xs ys ≡ false
one_other xs [] h b l e = absurd (omega arith)
one_other [] (y ∷ ys) h b l e = absurd (omega arith)
one_other (x ∷ xs) (y ∷ ys) zero b l e = rw (not-true (eqb x y) e) refl
one_other (x ∷ xs) (y ∷ ys) (suc h) b l e = rw (one_other xs ys h (omega arith) (omega arith) e) (and-false (eqb x y))

all_same_lem : (xs ys : List ℕ) → length ys ≤ length xs → all_same xs ys ≡ not (some (other xs ys) (length ys))
all_same_lem xs ys l =
    ⊎_elim (λ (e : some (other xs ys) (length ys) ≡ true). let at = some_true _ _ e in rw e (one_other xs ys _ at.0 l at.1))
    (λ (e : some (other xs ys) (length ys) ≡ false). rw e (none_other xs ys l (some_false _ _ e))) (bool_cases (some (other xs ys) (length ys)))

-- so the figures of a line are looked at beside what is worked out
abbrev pub from_line : List ℕ → ℕ → List ℕ
from_line figures l = take (length figures - most_flows * l) (drop (most_flows * l) figures)

pub line_same :
    (figures line : List ℕ) (l : ℕ)
    → length figures ≡ figures_room
    → length line ≡ most_flows
    → l < most_flows
    → all_same (from_line figures l) (take l line) ≡ not (some (λ h. not (eqb (figure_in figures l h) (get_or line h 0))) l)
unfolding figure_in
line_same figures line l f m u =
    let n : length (take l line) ≡ l = search (rules, places) in
    let room : length (from_line figures l) ≡ length figures - most_flows * l = search (rules, places) in
    all_same_lem (from_line figures l) (take l line) (omega arith)
    ∙ rw n
    (ap not
    (some_cong _ _ l
    (λ h b.
    let here : get_or (from_line figures l) h 0 ≡ get_or figures (most_flows * l + h) 0 = search (rules, places) in
    let there : get_or (take l line) h 0 ≡ get_or line h 0 = search (rules, places) in
    ap₂ (λ (x y : ℕ). not (eqb x y)) here there)))
