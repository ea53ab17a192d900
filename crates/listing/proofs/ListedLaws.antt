-- The grants that an advance counts fit into the buffer that it is lent. Leans on the trade's Answers and Numbers. Assumes nothing.
use Prim.Native.Nat.{ℕ, ◌≤◌, ◌*◌}
use mathlib.Core.Path.{◌≡◌, ap, sym, ◌∙◌}
use native.Mathlib.Omega.{arith}
use lib.ListN.{length}
use borrow.Author.Tests.{ltb-false}
use Rattle.trade.specs.Limits.{grant_bytes}
use Rattle.trade.specs.Facts.{said}
use Rattle.trade.specs.Answers.{done, on}
use Rattle.trade.specs.Codes.{code13}
use Rattle.trade.specs.Slot.{granted_by}
use Rattle.trade.specs.Calls.{Advancing, advance_of, advance_by, advance_answer, advance_answer_by, flows_granted, flows_granted_by, book_rules}
use Rattle.trade.specs.declared.answer.Answer.{Answer}
use Rattle.trade.proofs.Answers.{first_of_passed, first_of_done, passed_head, passed_tail, passed_others, given_passed}
use Rattle.trade.proofs.Numbers.{going_few}

few : (a : Advancing) → length (flows_granted a) ≤ (said a.book).flows
unfolding flows_granted_by granted_by
few a = going_few _ _ (said a.book).flows

room : (a : Advancing) → (advance_answer a).code ≡ 0 → grant_bytes * (said a.book).flows ≤ length a.grants
unfolding advance_answer_by code13
room a z =
    ltb-false _ _
    (given_passed 12 _ 0 (passed_head (passed_tail (passed_others (on (λ (x : Advancing). x.book) book_rules) _ (first_of_passed _ _ a z)))))

count : (a : Advancing) → (advance_answer a).code ≡ 0 → advance_answer a ≡ done (length (flows_granted a))
unfolding advance_answer_by
count a z = first_of_done _ _ a z

pub grants_fit : (a : Advancing) (n : ℕ) → done n ≡ (advance_of a).answer → grant_bytes * n ≤ length a.grants
unfolding advance_by
grants_fit a n e = omega (arith, few a, room a z, ap (λ (r : Answer). r.number) (e ∙ count a z))
  where
    z : (advance_answer a).code ≡ 0
    z = sym (ap (λ (r : Answer). r.code) e)
