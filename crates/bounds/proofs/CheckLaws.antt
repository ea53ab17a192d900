-- Check is read and then code 9: its answer is that of reading where that refuses, and code 9 of what the book says where it does not.
-- Leans on the trade's Answers. Assumes nothing.
use Prim.Native.Nat.{ℕ}
use mathlib.Core.Path.{◌≡◌, refl, sym, ◌∙◌, ap}
use mathlib.Core.Bool.{cond}
use mathlib.Core.List.{List, [], ◌∷◌}
use borrow.Author.Tests.{eq-eqb, ne_eqb}
use Rattle.std.specs.Prelude.{Result, Ok, Err, IfOk, MatchResult}
use Rattle.trade.specs.Layout.{Sections, sections_of}
use Rattle.trade.specs.Facts.{facts_in, facts_of, said}
use Rattle.trade.specs.Answers.{is_done, given_first, first_of, on, no_number}
use Rattle.trade.specs.Bound.{code9, code9_by}
use Rattle.trade.specs.Calls.{book_rules, read_answer, check_answer, check_by, check_answer_by, check_rules_by}
use Rattle.trade.specs.Refusals.{tested}
use Rattle.trade.specs.declared.answer.Answer.{Answer}
use Rattle.trade.specs.declared.refusal.Refusal.{Refusal}
use Rattle.trade.proofs.Refusals.{refuses}
use Rattle.sections.specs.Parts.{sections_held}
use Rattle.sections.specs.declared.parts.Parts.{Parts}
use Rattle.trade.proofs.Answers.{first_of_on, first_of_last, given_passes}
use Rattle.bounds.specs.Bounds.{refused_by, checked_by, bounded_in, bounded_by, ChecksAs}
use Rattle.trade.proofs.Alike.{alike_counts}
use Rattle.bounds.proofs.BoundsLaws.{bounded_alike}

nine : (b : List ℕ) → first_of ((λ c. code9 (said c)) ∷ []) no_number b ≡ code9 (said b)
unfolding code9_by given_first
nine b = first_of_last (λ c. code9 (said c)) b (given_passes 8 _ _)

pub check_answer_lem : (b : List ℕ) → check_answer b ≡ cond (is_done (read_answer b)) (code9 (said b)) (read_answer b)
unfolding check_answer_by check_rules_by read_answer book_rules on
check_answer_lem b =
    first_of_on (λ c. c) book_rules ((λ c. code9 (said c)) ∷ []) no_number b
    ∙ ap (λ (a : Answer). cond (is_done (read_answer b)) a (read_answer b)) (nine b)

pub check_refused : (b : List ℕ) → ((read_answer b).code ≡ 0 → ⊥) → check_answer b ≡ read_answer b
unfolding is_done
check_refused b n = check_answer_lem b ∙ rw (ne_eqb (read_answer b).code 0 n)

pub check_passed : (b : List ℕ) → (read_answer b).code ≡ 0 → check_answer b ≡ code9 (said b)
unfolding is_done
check_passed b e = check_answer_lem b ∙ rw (eq-eqb (read_answer b).code 0 e)

-- so what check owes is a refusal of reading, or what the bounds come to
pub checks_refused : (b : List ℕ) → ((read_answer b).code ≡ 0 → ⊥) → ChecksAs b (refused_by (read_answer b))
unfolding check_by is_done
checks_refused b n =
    record {
      answer = sym (check_refused b n);
      bounds = rw (check_refused b n, ne_eqb (read_answer b).code 0 n);
    }

pub checks_bounded : (b : List ℕ) → (read_answer b).code ≡ 0 → ChecksAs b (bounded_by (said b))
unfolding check_by bounded_in
checks_bounded b e =
    record {
      answer = sym (check_passed b e);
      bounds = rw (check_passed b e);
    }

-- said of the sections alone
pub said_bounded :
    (b : List ℕ)
    → (read_answer b).code ≡ 0
    → bounded_by (facts_in 0 (sections_of b).flows (sections_of b).rows (sections_of b).records (sections_of b).steps) ≡ bounded_by (said b)
unfolding said facts_of
said_bounded b e =
    bounded_alike (facts_in 0 (sections_of b).flows (sections_of b).rows (sections_of b).records (sections_of b).steps) (facts_of (sections_of b)) refl
    (alike_counts (sections_of b).flows 0 (sections_of b).flows (sections_of b).nodes (sections_of b).flows (sections_of b).rows (sections_of b).records (sections_of b).steps)

-- opened and bounded, or refused by the first of the two
pub checks :
    (b : List ℕ) (opened : Result Parts Refusal) (bounds : Result (List ℕ) Refusal)
    → tested opened ≡ read_answer b
    → IfOk opened (λ p. sections_held p ≡ sections_of b)
    → MatchResult opened (λ p. checked_by bounds ≡ bounded_by (facts_in 0 p.flows p.rows.now p.records.now p.steps.now)) (λ e. bounds ≡ Err e)
    → ChecksAs b (checked_by bounds)
checks b (Ok p) bounds a s m =
    let passed : (read_answer b).code ≡ 0 = sym (ap (λ (x : Answer). x.code) a) in
    let bounded : checked_by bounds ≡ bounded_by (said b) =
    m ∙ ap (λ (s : Sections). bounded_by (facts_in 0 s.flows s.rows s.records s.steps)) s ∙ said_bounded b passed in
    rw bounded (checks_bounded b passed)
checks b (Err e) bounds a s m =
    rw (m, a) (checks_refused b (λ z. refuses e (ap (λ (x : Answer). x.code) a ∙ z)))
