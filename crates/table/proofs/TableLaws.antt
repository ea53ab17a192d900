-- The rules on the form of a table, one after the other: what has passed leaves the answer to the rules after it. Leans on the trade's Answers
-- and the sections' OwnSections. Assumes nothing.
use Prim.Native.Nat.{ℕ, ◌*◌, ◌≤◌}
use mathlib.Core.Path.{◌≡◌, ◌∙◌, sym, ap}
use mathlib.Core.Bool.{true, false, ◌||◌}
use mathlib.Core.List.{[], ◌∷◌}
use native.Mathlib.Omega.{arith}
use lib.ListN.{length}
use Rattle.trade.specs.Limits.{most_nodes, most_flows, step_bytes}
use Rattle.trade.specs.First.{sum_to}
use Rattle.trade.specs.Layout.{Sections, field}
use Rattle.trade.specs.Facts.{facts_of, facts_in, first_step, all_steps}
use Rattle.trade.specs.Table.{steps_room}
use Rattle.trade.specs.Answers.{done, refused, given_first, first_of, no_number}
use Rattle.trade.specs.Codes.{outside, code3, code5, code6, code8}
use Rattle.trade.specs.Calls.{table_rules}
use Rattle.trade.specs.declared.answer.Answer.{Answer}
use Rattle.trade.proofs.First.{or_false}
use Rattle.trade.proofs.Answers.{first_of_refuse, first_of_pass, first_of_last, given_true, given_false, given_passes}
use Rattle.trade.proofs.Valid.{plans_most}
use Rattle.book.proofs.PartsLaws.{inside}
use Rattle.sections.proofs.OwnSections.{code5_rows, code6_records, code8_steps}

module _ (t : Sections) where
  pub refused_three : (outside 1 most_nodes t.nodes || outside 0 most_flows t.flows) ≡ true → refused 3 0 ≡ first_of table_rules no_number t
  unfolding table_rules code3 facts_of
  refused_three h =
      let e = given_true 3 _ 0 h in
      sym (first_of_refuse _ _ no_number t (λ z. let o : ◌≡◌ {A = ℕ} 3 0 = sym (ap (λ (r : Answer). r.code) e) ∙ z in omega arith) ∙ e)

  module _ (three : (outside 1 most_nodes t.nodes || outside 0 most_flows t.flows) ≡ false) where
    pub few_nodes : t.nodes ≤ most_nodes
    few_nodes = (inside 1 most_nodes t.nodes (or_false (outside 1 most_nodes t.nodes) (outside 0 most_flows t.flows) three).0).1

    pub few_flows : t.flows ≤ most_flows
    few_flows = (inside 0 most_flows t.flows (or_false (outside 1 most_nodes t.nodes) (outside 0 most_flows t.flows) three).1).1

    past_three : first_of table_rules no_number t ≡ first_of ((λ t. code5 (facts_of t)) ∷ (λ t. code6 (facts_of t)) ∷ (λ t. code8 (facts_of t)) ∷ []) no_number t
    unfolding table_rules code3 facts_of
    past_three = first_of_pass _ _ no_number t (ap (λ (r : Answer). r.code) (given_false 3 _ 0 three))

    pub refused_five : (a : Answer) → (a.code ≡ 0 → ⊥) → a ≡ code5 (facts_in t.nodes 0 t.rows [] []) → a ≡ first_of table_rules no_number t
    refused_five a n e =
        let five = e ∙ code5_rows t in
        five ∙ sym (past_three ∙ first_of_refuse _ _ no_number t (λ z. n (ap (λ (r : Answer). r.code) five ∙ z)))

    module _ (five : done 0 ≡ code5 (facts_in t.nodes 0 t.rows [] [])) where
      past_five : first_of table_rules no_number t ≡ first_of ((λ t. code6 (facts_of t)) ∷ (λ t. code8 (facts_of t)) ∷ []) no_number t
      past_five = past_three ∙ first_of_pass _ _ no_number t (sym (ap (λ (r : Answer). r.code) (five ∙ code5_rows t)))

      pub refused_six : (a : Answer) → (a.code ≡ 0 → ⊥) → a ≡ code6 (facts_in 0 t.flows [] t.records []) → a ≡ first_of table_rules no_number t
      refused_six a n e =
          let six = e ∙ code6_records t in
          six ∙ sym (past_five ∙ first_of_refuse _ _ no_number t (λ z. n (ap (λ (r : Answer). r.code) six ∙ z)))

      -- and the last of them is code 8
      pub left_to_eight :
          done 0 ≡ code6 (facts_in 0 t.flows [] t.records [])
          → code8 (facts_in t.nodes t.flows [] t.records t.steps) ≡ first_of table_rules no_number t
      unfolding code8 given_first
      left_to_eight six =
          code8_steps t
          ∙ sym
          (past_five
          ∙ first_of_pass _ _ no_number t (sym (ap (λ (r : Answer). r.code) (six ∙ code6_records t)))
          ∙ first_of_last (λ t. code8 (facts_of t)) t (given_passes 7 _ _))

    -- with every L in range, the plans fit
    pub plans_fit :
        done 0 ≡ code6 (facts_in 0 t.flows [] t.records [])
        → length t.steps ≡ steps_room
        → step_bytes * sum_to (λ i. field t.records i 4) t.flows ≤ length t.steps
    unfolding facts_of first_step all_steps
    plans_fit six room =
        let sum = plans_most (facts_of t) (sym (ap (λ (r : Answer). r.code) (six ∙ code6_records t))) in
        omega (arith, sum, few_flows, room)
