-- The figures that a table carries: each stands at its place, they are read nowhere else, and right ones measure what interference
-- measures. Leans on Alike and Places. Assumes nothing.
use Prim.Native.Nat.{ℕ, ◌+◌, ◌*◌, ◌/◌, ◌%◌, ◌≤◌, ◌<◌}
use mathlib.Core.Path.{◌≡◌, refl, sym, ◌∙◌, ap, ap₂}
use mathlib.Core.Logic.{⊎_elim}
use mathlib.Core.List.{List}
use native.Mathlib.Omega.{arith}
use borrow.Author.Tests.{eqb-true, eq-eqb, lt-ltb, le-ltb, not-false}
use lib.ListN.{length, replicate, length-replicate, get_or-replicate}
use lib.Seq.{ext_get_or}
use Rattle.trade.specs.Limits.{most_flows}
use Rattle.trade.specs.First.{some}
use Rattle.trade.specs.Bytes.{byte}
use Rattle.trade.specs.Layout.{Sections}
use Rattle.trade.specs.Facts.{Facts, facts_in, facts_of, first_step, step_of}
use Rattle.trade.specs.Interference.{matrix, interference}
use Rattle.trade.specs.Bound.{measure}
use Rattle.trade.specs.Kept.{Tabled, tabled, figures_room, figure_in, square, figures_of, RightFigures, wrong_line, code17, kept_measure}
use Rattle.trade.specs.Answers.{given_first}
use Rattle.trade.specs.Calls.{table_rules}
use Rattle.trade.specs.declared.answer.Answer.{Answer}
use Rattle.trade.proofs.First.{lt_or_ge, some_false, some_none}
use Rattle.trade.proofs.Sums.{length_list_to, get_d_list_to, list_to_same}
use Rattle.trade.proofs.Answers.{Passed, given_false, given_passed}
use Rattle.trade.proofs.Alike.{Alike, SameMeasure, alike_counts, interference_alike}
use Rattle.trade.proofs.Alike.{times_self}
use Rattle.trade.proofs.Fair.{fair_same}
use Rattle.trade.proofs.Places.{SameUsed, same_flows, same_alike}

-- A SQUARE: figure h of line l stands at 32 l + h
pub length_square : (F : ℕ → ℕ → ℕ) → length (square F) ≡ figures_room
unfolding square
length_square F = length_list_to (λ k. F (k / most_flows) (k % most_flows)) figures_room

pub square_byte : (F : ℕ → ℕ → ℕ) (k : ℕ) → k < figures_room → byte (square F) k ≡ F (k / most_flows) (k % most_flows)
unfolding square
square_byte F k h = get_d_list_to (λ i. F (i / most_flows) (i % most_flows)) figures_room k h

pub square_at : (F : ℕ → ℕ → ℕ) (l h : ℕ) → l < most_flows → h < most_flows → figure_in (square F) l h ≡ F l h
unfolding figure_in
square_at F l h p q =
    let line : (most_flows * l + h) / most_flows ≡ l = omega arith in
    let place : (most_flows * l + h) % most_flows ≡ h = omega arith in
    square_byte F (most_flows * l + h) (omega arith) ∙ ap₂ F line place

-- squares of the same figures are one
pub square_same : (F G : ℕ → ℕ → ℕ) → ((l h : ℕ) → l < most_flows → h < most_flows → F l h ≡ G l h) → square F ≡ square G
unfolding square
square_same F G e = list_to_same _ _ figures_room (λ k h. e (k / most_flows) (k % most_flows) (omega arith) (omega arith))

-- and so are lists that hold them
pub square_held : (F : ℕ → ℕ → ℕ) (figures : List ℕ) → length figures ≡ figures_room → ((k : ℕ) → k < figures_room → byte figures k ≡ F (k / most_flows) (k % most_flows)) → figures ≡ square F
square_held F figures n e =
    ext_get_or 0 figures (square F) (n ∙ sym (length_square F)) (λ k h. e k (omega arith) ∙ sym (square_byte F k (omega arith)))

-- THE FIGURES of facts
pub figures_at : (f : Facts) → f.flows ≤ most_flows → (l h : ℕ) → l < f.flows → h < l → figure_in (figures_of f) l h ≡ interference f l h
unfolding figures_of
figures_at f m l h p q = square_at _ l h (omega arith) (omega arith) ∙ rw (lt-ltb l f.flows p, lt-ltb h l q) refl

-- facts that say the same of all their flows have the same
pub figures_alike : (f g : Facts) → f.flows ≡ g.flows → Alike f.flows f g → figures_of f ≡ figures_of g
unfolding figures_of
figures_alike f g m a =
    square_same _ _
    (λ l h p q.
    ⊎_elim
    (λ (u : l < f.flows).
    ⊎_elim
    (λ (v : h < l).
    rw (lt-ltb l f.flows u, lt-ltb l g.flows (omega (arith, m)), lt-ltb h l v) (interference_alike f.flows f g a l h u (omega arith)))
    (λ (v : l ≤ h). rw (lt-ltb l f.flows u, lt-ltb l g.flows (omega (arith, m)), le-ltb h l v) refl)
    (lt_or_ge h l))
    (λ (u : f.flows ≤ l). rw (le-ltb l f.flows u, le-ltb l g.flows (omega (arith, m))) refl)
    (lt_or_ge l f.flows))

-- the count of nodes is not read
pub figures_counted :
    (n n' m : ℕ) (rows records steps : List ℕ) → figures_of (facts_in n m rows records steps) ≡ figures_of (facts_in n' m rows records steps)
unfolding facts_of
figures_counted n n' m rows records steps =
    figures_alike (facts_in n m rows records steps) (facts_in n' m rows records steps) refl (alike_counts m n m n' m rows records steps)

-- with no flows they are zeros
pub figures_none : (f : Facts) → f.flows ≡ 0 → figures_of f ≡ replicate figures_room 0
unfolding figures_of
figures_none f e =
    sym
    (square_held _ (replicate figures_room 0) (length-replicate {A = ℕ} figures_room 0)
    (λ k h. get_or-replicate figures_room k 0 0 h ∙ rw (e, le-ltb (k / most_flows) 0 (omega arith)) refl))

-- CODE 17 is not given exactly where the figures are right
pub right_passes : (t : Tabled) → RightFigures t → (code17 t).code ≡ 0
unfolding code17 wrong_line given_first
right_passes t right =
    ap (λ (a : Answer). a.code)
    (given_false 17 (some (wrong_line t) t.sections.flows) _
    (some_none (wrong_line t) t.sections.flows
    (λ l p.
    some_none _ l
    (λ h q. rw (eq-eqb (figure_in t.figures l h) (interference (facts_of t.sections) l h) (right l h p q)) refl))))

pub passed_right : (t : Tabled) → (code17 t).code ≡ 0 → RightFigures t
unfolding code17 wrong_line given_first
passed_right t e l h p q =
    let none = some_false (wrong_line t) t.sections.flows (given_passed 16 (some (wrong_line t) t.sections.flows) _ e) in
    eqb-true (figure_in t.figures l h) (interference (facts_of t.sections) l h) (not-false _ (some_false _ l (none l p) h q))

-- the counts are not read
pub interference_counted :
    (n m n' m' : ℕ) (rows records steps : List ℕ) (l h : ℕ) → interference (facts_in n m rows records steps) l h ≡ interference (facts_in n' m' rows records steps) l h
unfolding interference matrix step_of first_step facts_of
interference_counted n m n' m' rows records steps l h = refl

pub code17_counted :
    (n n' m : ℕ) (rows records steps figures : List ℕ) → code17 (tabled n m rows records steps figures) ≡ code17 (tabled n' m rows records steps figures)
unfolding code17 wrong_line interference matrix step_of first_step facts_of
code17_counted n n' m rows records steps figures = refl

-- RIGHT FIGURES measure what interference measures
pub right_measure : (t : Tabled) → RightFigures t → SameMeasure (facts_of t.sections).flows (kept_measure t) (measure (facts_of t.sections))
unfolding facts_of
right_measure t right =
    let f : Facts = facts_of t.sections in
    fair_same f.flows f f (times_self f.flows f) (figure_in t.figures) (interference f) right

-- TABLES with the same bytes at their used places have the same figures, and figures that are right for one are for the other
pub alike_right :
    (s t : Sections) (figures : List ℕ)
    → SameUsed s t
    → Passed s table_rules
    → RightFigures (record { sections = s; figures = figures })
    → RightFigures (record { sections = t; figures = figures })
unfolding facts_of
alike_right s t figures same p right l h l< h< =
    right l h (rw (same_flows s t same) l<) h<
    ∙ interference_alike s.flows (facts_of s) (facts_of t) (same_alike s t same p) l h (rw (same_flows s t same) l<) (omega (arith, same_flows s t same))

pub alike_figures : (s t : Sections) → SameUsed s t → Passed s table_rules → figures_of (facts_of s) ≡ figures_of (facts_of t)
alike_figures s t same p = figures_alike (facts_of s) (facts_of t) (same_flows s t same) (same_alike s t same p)
