-- Each public function's contract leaves one result, and one content of what it was lent. The contracts are those that the check
-- reads in the code, `Post`. Assumes nothing.
use Prim.Native.Nat.{ℕ, ◌≤◌, ◌<◌}
use mathlib.Core.Path.{◌≡◌, refl, sym, ◌∙◌}
use mathlib.Core.Logic.{⊎_elim}
use native.Mathlib.Omega.{arith}
use Rattle.std.specs.Prelude.{Option, Some, None}
use Rattle.trade.specs.declared.node.Node.{Node}
use Rattle.trade.proofs.First.{lt_or_ge, not_both}
use Rattle.trade.proofs.Unique.{OneResult, one_result}
use Rattle.nodes.specs.Mask.{Taken, TakesLowest}
use Rattle.nodes.specs.declared.mask.Members.{Members}
use Rattle.nodes.proofs.MaskLaws.{bit_none, same_bits}
use Rattle.nodes.proofs.mask.only.Kinds as only_kinds
use Rattle.nodes.proofs.mask.only.Reads as only
use Rattle.nodes.proofs.mask.row_at.Kinds as row_at_kinds
use Rattle.nodes.proofs.mask.row_at.Reads as row_at
use Rattle.nodes.proofs.mask.row_mask.Kinds as row_mask_kinds
use Rattle.nodes.proofs.mask.row_mask.Reads as row_mask
use Rattle.nodes.proofs.conflict.disturbs.Kinds as disturbs_kinds
use Rattle.nodes.proofs.conflict.disturbs.Reads as disturbs
use Rattle.nodes.proofs.conflict.conflict.Kinds as conflict_kinds
use Rattle.nodes.proofs.conflict.conflict.Reads as conflict
use Rattle.nodes.proofs.grants.GrantSet.empty.Kinds as empty_kinds
use Rattle.nodes.proofs.grants.GrantSet.empty.Reads as empty
use Rattle.nodes.proofs.grants.GrantSet.clashes.Kinds as clashes_kinds
use Rattle.nodes.proofs.grants.GrantSet.clashes.Reads as clashes
use Rattle.nodes.proofs.grants.GrantSet.with.Kinds as with_kinds
use Rattle.nodes.proofs.grants.GrantSet.with.Reads as with

pub only_unique : OneResult 0 only_kinds.ps only_kinds.r only.Post
only_unique κs a r r' s s' p q = one_result p q

pub row_at_unique : OneResult 1 row_at_kinds.ps row_at_kinds.r row_at.Post
row_at_unique κs a r r' s s' p q = one_result p q

pub row_mask_unique : OneResult 1 row_mask_kinds.ps row_mask_kinds.r row_mask.Post
row_mask_unique κs a r r' s s' p q = one_result p q

pub disturbs_unique : OneResult 1 disturbs_kinds.ps disturbs_kinds.r disturbs.Post
disturbs_unique κs a r r' s s' p q = one_result p q

pub conflict_unique : OneResult 1 conflict_kinds.ps conflict_kinds.r conflict.Post
conflict_unique κs a r r' s s' p q = one_result p q

pub empty_unique : OneResult 0 empty_kinds.ps empty_kinds.r empty.Post
empty_unique κs a r r' s s' p q = one_result p.exact q.exact

pub clashes_unique : OneResult 1 clashes_kinds.ps clashes_kinds.r clashes.Post
clashes_unique κs a r r' s s' p q = one_result p.exact q.exact

pub with_unique : OneResult 1 with_kinds.ps with_kinds.r with.Post
with_unique κs a r r' s s' p q = one_result p.exact q.exact

-- a set has one lowest node, and one set without it; so a step of the walk over its members gives one node or none, and leaves one set
one_lowest : (nodes x y p q : ℕ) → Taken nodes x p → Taken nodes y q → (x ≡ y) × (p ≡ q)
one_lowest nodes x y p q s t =
    let same : x ≡ y =
    ⊎_elim (λ (h : x < y). absurd (not_both s.held (t.below x h)))
    (λ (h : y ≤ x). ⊎_elim (λ (g : y < x). absurd (not_both t.held (s.below y g))) (λ (g : x ≤ y). omega arith) (lt_or_ge y x))
    (lt_or_ge x y) in
    (same, same_bits p q (λ z. s.left z ∙ rw same (sym (t.left z))))

some_in_none : (nodes x p : ℕ) → nodes ≡ 0 → Taken nodes x p → ⊥
some_in_none nodes x p e s = not_both s.held (rw e (bit_none x))

pub members_next_unique :
    (before : Members) (x y : Option Node) (p q : Members)
    → TakesLowest before x p
    → TakesLowest before y q
    → (x ≡ y) × (p ≡ q)
members_next_unique before None None p q s t = (refl, λ i. record { 0 = (s.1 ∙ sym t.1) i })
members_next_unique before None (Some y) p q s t = absurd (some_in_none before.0 y.0 q.0 s.0 t)
members_next_unique before (Some x) None p q s t = absurd (some_in_none before.0 x.0 p.0 t.0 s)
members_next_unique before (Some x) (Some y) p q s t =
    let e = one_lowest before.0 x.0 y.0 p.0 q.0 s t in (λ i. Some (record { 0 = e.0 i }), λ i. record { 0 = e.1 i })
