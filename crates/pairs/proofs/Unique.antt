-- Each public function's contract leaves one result, and one content of what it was lent. The contracts are those that the check
-- reads in the code, `Post`. Assumes nothing.
use Prim.Native.Nat.{ℕ, ◌+◌, ◌-◌, ◌≤◌, ◌<◌}
use mathlib.Core.Path.{◌≡◌, sym, ◌∙◌, ap}
use mathlib.Core.List.{List}
use mathlib.Core.Logic.{⊎_elim}
use native.Mathlib.Omega.{arith}
use lib.ListN.{length, get_or}
use lib.Seq.{ext_get_or}
use Rattle.trade.specs.Limits.{most_nodes, most_steps}
use Rattle.trade.specs.Bytes.{bit}
use Rattle.trade.proofs.First.{lt_or_ge}
use Rattle.trade.proofs.Unique.{OneResult}
use Rattle.nodes.proofs.MaskLaws.{same_bits}
use Rattle.pairs.proofs.columns.gather.Reads as gather
use Rattle.pairs.proofs.columns.nodes_in.Kinds as nodes_in_kinds
use Rattle.pairs.proofs.columns.nodes_in.Reads as nodes_in
use Rattle.pairs.proofs.columns.hear.Reads as hear
use Rattle.pairs.proofs.columns.marks_of.Kinds as marks_of_kinds
use Rattle.pairs.proofs.columns.marks_of.Reads as marks_of

-- numbers that each say the same bits, as many, are the same
same_words : (a b : List ℕ) → length a ≡ length b → ((x y : ℕ) → bit (get_or a x 0) y ≡ bit (get_or b x 0) y) → a ≡ b
same_words a b size same = ext_get_or 0 a b size (λ x h. same_bits (get_or a x 0) (get_or b x 0) (same x))

pub gather_unique : (κs : _) (a : _) (r r' : _) (s s' : _) → gather.Post κs a r s → gather.Post κs a r' s' → s.1.1.1.0.now ≡ s'.1.1.1.0.now
gather_unique κs a r r' s s' p q =
    same_words s.1.1.1.0.now s'.1.1.1.0.now (p.size ∙ sym q.size)
    (λ x y. ⊎_elim (λ (h : x < most_nodes). ⊎_elim (low x y h) (high x y h) (lt_or_ge y most_steps)) (past x y) (lt_or_ge x most_nodes))
  where
    low : (x y : ℕ) → x < most_nodes → y < most_steps → bit (get_or s.1.1.1.0.now x 0) y ≡ bit (get_or s'.1.1.1.0.now x 0) y
    low x y h l = p.columns.received x y h l ∙ sym (q.columns.received x y h l)

    high : (x y : ℕ) → x < most_nodes → most_steps ≤ y → bit (get_or s.1.1.1.0.now x 0) y ≡ bit (get_or s'.1.1.1.0.now x 0) y
    high x y h l =
        let e : y ≡ most_steps + (y - most_steps) = omega arith in
        rw e (p.columns.sent x (y - most_steps) h ∙ sym (q.columns.sent x (y - most_steps) h))

    past : (x y : ℕ) → most_nodes ≤ x → bit (get_or s.1.1.1.0.now x 0) y ≡ bit (get_or s'.1.1.1.0.now x 0) y
    past x y h = ap (λ (n : ℕ). bit n y) (p.others x h ∙ sym (q.others x h))

pub nodes_in_unique : OneResult 1 nodes_in_kinds.ps nodes_in_kinds.r nodes_in.Post
nodes_in_unique κs a r r' s s' p q = same_bits r r' (λ x. p x ∙ sym (q x))

pub hear_unique : (κs : _) (a : _) (r r' : _) (s s' : _) → hear.Post κs a r s → hear.Post κs a r' s' → s.1.1.0.now ≡ s'.1.1.0.now
hear_unique κs a r r' s s' p q =
    same_words s.1.1.0.now s'.1.1.0.now (p.size ∙ sym q.size)
    (λ y x.
    ⊎_elim (λ (h : y < most_nodes). p.bits y x h ∙ sym (q.bits y x h)) (λ (h : most_nodes ≤ y). ap (λ (n : ℕ). bit n x) (p.others y h ∙ sym (q.others y h)))
    (lt_or_ge y most_nodes))

pub marks_of_unique : OneResult 1 marks_of_kinds.ps marks_of_kinds.r marks_of.Post
marks_of_unique κs a r r' s s' p q = same_bits r r' (λ b. p b ∙ sym (q b))
