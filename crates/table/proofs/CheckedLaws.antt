-- The check of a table, by what the rules on its form answer. Leans on the trade's RoundTrip and the sections' FormedLaws. Assumes nothing.
use Prim.Native.Nat.{ℕ}
use mathlib.Core.Path.{◌≡◌, refl, sym, ◌∙◌, ap}
use mathlib.Core.List.{List, []}
use borrow.Author.Tests.{ne_eqb}
use Rattle.trade.specs.Layout.{Sections}
use Rattle.trade.specs.Facts.{Facts, facts_in, facts_of}
use Rattle.trade.specs.Table.{InMemory}
use Rattle.trade.specs.Kept.{Tabled, figure_in, kept_measure}
use Rattle.trade.specs.Answers.{is_done, first_of, on, no_number}
use Rattle.trade.specs.Bound.{fairly}
use Rattle.trade.specs.Calls.{Checked, table_rules, kept_rules, kept_rules_by, check_kept_by}
use Rattle.trade.specs.declared.answer.Answer.{Answer}
use Rattle.trade.proofs.Answers.{Passed, passed_head, passed_tail, first_of_passed, append_refused, first_of_look}
use Rattle.trade.proofs.Alike.{SameTimes}
use Rattle.trade.proofs.Fair.{fair_same}
use Rattle.trade.proofs.Valid.{table_valid}
use Rattle.trade.proofs.Used.{roomy, in_memory_holds}
use Rattle.trade.proofs.RoundTrip.{kept_nine}
use Rattle.sections.specs.Formed.{Formed}
use Rattle.sections.proofs.FormedLaws.{formed_by}
use Rattle.bounds.specs.Bounds.{refused_by, bounded_in, Timed}
use Rattle.bounds.proofs.BoundsLaws.{bounded_times}
use Rattle.table.specs.Table.{ChecksKept}

-- a table in memory that passes is formed
pub passed_formed : (t : Sections) → InMemory t → Passed t table_rules → Formed t.flows t.rows t.records t.steps
unfolding table_rules facts_of
passed_formed t m p =
    let v = table_valid t p in
    let h = in_memory_holds t m (roomy t v) in
    formed_by t v.nodes.most v.flows h.rows h.records h.steps (passed_head (passed_tail (passed_tail p)))
    (passed_head (passed_tail (passed_tail (passed_tail p))))

pub formed_timed : (k : ℕ) (rows records steps : List ℕ) → Formed k rows records steps → Timed k records
formed_timed k rows records steps f = record { most = f.most; recorded = f.recorded; fields = f.fields }

-- code 9 and the bounds by kept figures read the records alone
pub records_alone :
    (t : Tabled)
    → bounded_in (facts_in 0 t.sections.flows [] t.sections.records []) (fairly (facts_in 0 t.sections.flows [] t.sections.records []) (figure_in t.figures))
    ≡ bounded_in (facts_of t.sections) (kept_measure t)
unfolding facts_of
records_alone t =
    let f : Facts = facts_in 0 t.sections.flows [] t.sections.records [] in
    bounded_times f (facts_of t.sections) refl times (fairly f (figure_in t.figures)) (kept_measure t)
    (fair_same t.sections.flows f (facts_of t.sections) times (figure_in t.figures) (figure_in t.figures) (λ l h p q. refl))
  where
    times : SameTimes t.sections.flows (facts_in 0 t.sections.flows [] t.sections.records []) (facts_of t.sections)
    times = record { len = λ i h. refl; period = λ i h. refl; deadline = λ i h. refl }

-- refused by its form, or what code 9 and the bounds come to
pub checks_refused : (t : Tabled) → ((first_of table_rules no_number t.sections).code ≡ 0 → ⊥) → ChecksKept t (refused_by (first_of table_rules no_number t.sections))
unfolding check_kept_by kept_rules_by is_done
checks_refused t n =
    let look : first_of (on (λ (u : Tabled). u.sections) table_rules) no_number t ≡ first_of table_rules no_number t.sections
    = first_of_look (λ (u : Tabled). u.sections) table_rules t in
    let e : first_of kept_rules no_number t ≡ first_of table_rules no_number t.sections
    = append_refused (on (λ (u : Tabled). u.sections) table_rules) _ no_number t (λ z. n (sym (ap (λ (a : Answer). a.code) look) ∙ z)) ∙ look in
    record { answer = sym e; bounds = rw (e, ne_eqb (first_of table_rules no_number t.sections).code 0 n) refl }

pub checks_bounded : (t : Tabled) → (first_of table_rules no_number t.sections).code ≡ 0 → ChecksKept t (bounded_in (facts_of t.sections) (kept_measure t))
unfolding bounded_in
checks_bounded t e =
    let nine = kept_nine kept_measure t (first_of_passed table_rules no_number t.sections e) in
    record { answer = sym (ap (λ (c : Checked). c.answer) nine); bounds = sym (ap (λ (c : Checked). c.bounds) nine) }
