-- The rules of a change: each part of the list decides, or leaves it to the next; and what has passed. Leans on the trade's Answers and
-- Valid. Assumes nothing.
use Prim.Native.Nat.{ℕ, ◌≤◌, ◌<◌}
use mathlib.Core.Path.{◌≡◌, refl, sym, ◌∙◌, ap}
use mathlib.Core.Bool.{cond}
use mathlib.Core.List.{List, [], ◌∷◌, ◌++◌, append_assoc}
use borrow.Author.Tests.{eqb-false, ltb-false, leb-false}
use Rattle.trade.specs.Limits.{most_flows}
use Rattle.trade.specs.Layout.{Sections}
use Rattle.trade.specs.Facts.{Facts, facts_of, facts_in}
use Rattle.trade.specs.Interference.{interference}
use Rattle.trade.specs.Bound.{fairly, measure, code9, code9_by}
use Rattle.trade.specs.Kept.{Tabled, RightFigures, code17}
use Rattle.trade.specs.Answers.{is_done, given_first, first_of, on, no_number}
use Rattle.trade.specs.Codes.{code6, code8, code14, code15_adding, code15_removing}
use Rattle.trade.specs.Calls.{Adding, Removing, table_rules, old_rules, with_flow, enter_rules, new_rules, new_rules_by, add_answer, add_answer_by, leave_rules}
use Rattle.trade.specs.declared.answer.Answer.{Answer}
use Rattle.trade.proofs.Answers.{done_first, refused_second, Passed, passed_head, passed_tail, passed_first, passed_others, passed_look, first_of_passed, given_passed, given_passes, first_of_pass, first_of_last, append_refused, append_passed, first_of_look}
use Rattle.trade.proofs.Alike.{SameTimes}
use Rattle.trade.proofs.Fair.{fair_same}
use Rattle.trade.proofs.Kept.{interference_counted, passed_right}
use Rattle.bounds.specs.Bounds.{bounded_in}
use Rattle.bounds.specs.declared.bounds.Checked.{Checked}
use Rattle.bounds.proofs.BoundsLaws.{bounded_times}
use Rattle.square.specs.Carried.{OldFigures, pairs_of, figure_with}
use Rattle.square.proofs.CarriedLaws.{with_right}

-- the table after a change, by its answer: as it was, or the new one
pub leaves : (answer r : Answer) (new old : Tabled) → r ≡ answer → (r.code ≡ 0 → ⊥) → old ≡ cond (is_done answer) new old
leaves answer r new old e n = sym (refused_second answer new old (λ z. n (ap (λ (a : Answer). a.code) e ∙ z)))

pub gives : (answer r : Answer) (new old : Tabled) → r ≡ answer → r.code ≡ 0 → new ≡ cond (is_done answer) new old
gives answer r new old e z = sym (done_first answer new old (sym (ap (λ (a : Answer). a.code) e) ∙ z))

-- THE OLD TABLE: its form and its figures
module _ (t : Tabled) where
  look : first_of (on (λ u. u.sections) table_rules) no_number t ≡ first_of table_rules no_number t.sections
  look = first_of_look (λ (u : Tabled). u.sections) table_rules t

  pub form_refused : ((first_of table_rules no_number t.sections).code ≡ 0 → ⊥) → first_of old_rules no_number t ≡ first_of table_rules no_number t.sections
  unfolding old_rules
  form_refused n = append_refused _ _ no_number t (λ z. n (sym (ap (λ (a : Answer). a.code) look) ∙ z)) ∙ look

  pub form_passed : (first_of table_rules no_number t.sections).code ≡ 0 → first_of old_rules no_number t ≡ code17 t
  unfolding old_rules code17 given_first
  form_passed e =
      append_passed _ _ no_number t (ap (λ (a : Answer). a.code) look ∙ e) ∙ first_of_last {A = Tabled} (λ u. code17 u) t (given_passes 16 _ _)

  -- one that has passed is well formed, and its figures are right
  pub passed_form : Passed t old_rules → Passed t.sections table_rules
  unfolding old_rules
  passed_form p = passed_look (λ (u : Tabled). u.sections) table_rules (passed_first (on (λ (u : Tabled). u.sections) table_rules) _ p)

  pub passed_figures : Passed t old_rules → RightFigures t
  unfolding old_rules
  passed_figures p = passed_right t (passed_head (passed_others (on (λ (u : Tabled). u.sections) table_rules) _ p))

-- and then the place: the first rules of either change
module _ {A : Type 0} (table : A → Tabled) (place : List (A → Answer)) (x : A) where
  look_old : first_of (on table old_rules) no_number x ≡ first_of old_rules no_number (table x)
  look_old = first_of_look table old_rules x

  pub old_decides :
      ((first_of old_rules no_number (table x)).code ≡ 0 → ⊥)
      → first_of (on table old_rules ++ place) no_number x ≡ first_of old_rules no_number (table x)
  old_decides n = append_refused _ _ no_number x (λ z. n (sym (ap (λ (a : Answer). a.code) look_old) ∙ z)) ∙ look_old

  pub place_decides : (first_of old_rules no_number (table x)).code ≡ 0 → first_of (on table old_rules ++ place) no_number x ≡ first_of place no_number x
  place_decides e = append_passed _ _ no_number x (ap (λ (a : Answer). a.code) look_old ∙ e)

  -- where they pass, those of the table passed, and those of the place
  pub old_passed : (first_of (on table old_rules ++ place) no_number x).code ≡ 0 → Passed (table x) old_rules
  old_passed e = passed_look table old_rules (passed_first (on table old_rules) place (first_of_passed _ no_number x e))

  pub place_passed : (first_of (on table old_rules ++ place) no_number x).code ≡ 0 → Passed x place
  place_passed e = passed_others (on table old_rules) place (first_of_passed _ no_number x e)

-- ADDING
abbrev pub ask_answer : Adding → Answer
ask_answer a = first_of (on (λ b. b.table) old_rules ++ enter_rules) no_number a

module _ (a : Adding) where
  -- the rules on the place read the count of flows alone
  pub enter_count :
      first_of enter_rules no_number a
      ≡ first_of (code14 ∷ (λ f. code15_adding f a.place) ∷ []) no_number (facts_in 0 a.table.sections.flows [] [] [])
  unfolding enter_rules first_of code14 code15_adding facts_of
  enter_count = refl

  -- and where they pass there is room there
  pub enter_room : Passed a enter_rules → (a.table.sections.flows ≡ most_flows → ⊥) × (a.place ≤ a.table.sections.flows)
  unfolding enter_rules code14 code15_adding facts_of
  enter_room p =
      (eqb-false _ _ (given_passed 13 _ 0 (passed_head p)), ltb-false _ _ (given_passed 14 _ 0 (passed_head (passed_tail p))))

  -- the old table and the place decide, or the new table does
  in_two : add_answer a ≡ first_of ((on (λ b. b.table) old_rules ++ enter_rules) ++ on with_flow new_rules) no_number a
  unfolding add_answer_by
  in_two = rw append_assoc

  pub add_asked : ((ask_answer a).code ≡ 0 → ⊥) → add_answer a ≡ ask_answer a
  add_asked n = in_two ∙ append_refused _ _ no_number a n

  pub add_new : (ask_answer a).code ≡ 0 → add_answer a ≡ first_of new_rules no_number (with_flow a)
  add_new e = in_two ∙ append_passed _ _ no_number a e ∙ first_of_look with_flow new_rules a

-- REMOVING
module _ (r : Removing) where
  -- the rule on the place reads the count of flows alone
  pub leave_count : first_of leave_rules no_number r ≡ code15_removing (facts_in 0 r.table.sections.flows [] [] []) r.place
  unfolding leave_rules code15_removing facts_of
  leave_count = first_of_last {A = Removing} _ r (given_passes 14 _ 0)

  -- and where it passes there is a flow there
  pub leave_there : Passed r leave_rules → r.place < r.table.sections.flows
  unfolding leave_rules code15_removing facts_of
  leave_there p = leb-false _ _ (given_passed 14 _ 0 (passed_head p))

-- THE NEW TABLE: past its form, code 9
pub new_nine : (t : Sections) → (code6 (facts_of t)).code ≡ 0 → (code8 (facts_of t)).code ≡ 0 → first_of new_rules no_number t ≡ code9 (facts_of t)
unfolding new_rules_by code9_by given_first
new_nine t six eight =
    first_of_pass _ _ no_number t six
    ∙ first_of_pass _ _ no_number t eight
    ∙ first_of_last (λ (u : Sections). code9 (facts_of u)) t (given_passes 8 _ _)

-- by the newcomer's pairs and the figures of before it is decided as by interference
pub with_nine :
    (t : Sections) (place : ℕ) (old : List ℕ)
    → t.flows ≤ most_flows
    → OldFigures t.flows place t.rows t.records t.steps old
    → (bounded_in (facts_in 0 t.flows [] t.records [])
    (fairly (facts_in 0 t.flows [] t.records [])
    (figure_with place (pairs_of t.flows (facts_in 0 0 t.rows t.records t.steps) place) old))).answer
    ≡ code9 (facts_of t)
unfolding bounded_in facts_of
with_nine t place old m o =
    let f : Facts = facts_in 0 t.flows [] t.records [] in
    let cost = figure_with place (pairs_of t.flows (facts_in 0 0 t.rows t.records t.steps) place) old in
    ap (λ (c : Checked). c.answer)
    (bounded_times f (facts_of t) refl times (fairly f cost) (measure (facts_of t))
    (fair_same t.flows f (facts_of t) times cost (interference (facts_of t))
    (λ l h p q.
    with_right t.flows place t.rows t.records t.steps old o m l h p q
    ∙ interference_counted 0 0 t.nodes t.flows t.rows t.records t.steps l h)))
  where
    times : SameTimes t.flows (facts_in 0 t.flows [] t.records []) (facts_of t)
    times = record { len = λ i h. refl; period = λ i h. refl; deadline = λ i h. refl }

-- so what the bounds by the newcomer's pairs answer is what the rules on the new table do
pub nine_answered :
    (t : Sections) (place : ℕ) (old pairs : List ℕ) (x : Checked)
    → t.flows ≤ most_flows
    → (code6 (facts_of t)).code ≡ 0
    → (code8 (facts_of t)).code ≡ 0
    → OldFigures t.flows place t.rows t.records t.steps old
    → pairs ≡ pairs_of t.flows (facts_in 0 0 t.rows t.records t.steps) place
    → x ≡ bounded_in (facts_in 0 t.flows [] t.records []) (fairly (facts_in 0 t.flows [] t.records []) (figure_with place pairs old))
    → x.answer ≡ first_of new_rules no_number t
nine_answered t place old pairs x m six eight o e b =
    let f : Facts = facts_in 0 t.flows [] t.records [] in
    ap (λ (c : Checked). c.answer) b
    ∙ ap (λ (p : List ℕ). (bounded_in f (fairly f (figure_with place p old))).answer) e
    ∙ with_nine t place old m o
    ∙ sym (new_nine t six eight)
