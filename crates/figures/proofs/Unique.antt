-- Each public function's contract leaves one result, and one content of what it was lent. The contracts are those that the check
-- reads in the code, `Post`. Assumes nothing.
use Rattle.std.proofs.Common.{◌≡◌, ℕ, List, get_or, sym, ◌∙◌, arith, ext_get_or}
use Rattle.trade.proofs.Unique.{OneResult, one_result}
use Rattle.nodes.proofs.MaskLaws.{same_bits}
use Rattle.figures.specs.Figures.{HeardIn}
use Rattle.figures.proofs.heard.hear_above.Reads as hear_above
use Rattle.figures.proofs.heard.Heard.of.Reads as heard_of
use Rattle.figures.proofs.heard.Heard.figures_at.Kinds as figures_at_kinds
use Rattle.figures.proofs.heard.Heard.figures_at.Reads as figures_at
use Rattle.figures.proofs.heard.Heard.figure_at.Kinds as figure_at_kinds
use Rattle.figures.proofs.heard.Heard.figure_at.Reads as figure_at

pub figures_at_unique : OneResult 1 figures_at_kinds.ps figures_at_kinds.r figures_at.Post
figures_at_unique κs a r r' s s' p q = one_result p q

-- who is heard is one table
one_table :
    {flows : ℕ} {rows records steps heard heard' : List ℕ}
    → HeardIn flows rows records steps heard
    → HeardIn flows rows records steps heard'
    → heard ≡ heard'
one_table {heard = heard} {heard' = heard'} p q =
    ext_get_or 0 heard heard' (p.size ∙ sym q.size)
    (λ y h. same_bits (get_or heard y 0) (get_or heard' y 0) (λ x. p.bits y x (omega (arith, p.size)) ∙ sym (q.bits y x (omega (arith, p.size)))))

pub hear_above_unique : (κs : _) (a : _) (r r' : _) (s s' : _) → hear_above.Post κs a r s → hear_above.Post κs a r' s' → s.1.0.now ≡ s'.1.0.now
hear_above_unique κs a r r' s s' p q = one_table p q

pub heard_of_unique :
    (κs : _) (a : _) (r r' : _) (s s' : _)
    → heard_of.Post κs a r s
    → heard_of.Post κs a r' s'
    → (r.parts ≡ r'.parts) × (r.heard.now ≡ r'.heard.now)
heard_of_unique κs a r r' s s' p q = (one_result p.0 q.0, one_table p.1 q.1)

pub figure_at_unique : OneResult 1 figure_at_kinds.ps figure_at_kinds.r figure_at.Post
figure_at_unique κs a r r' s s' p q = one_result p q
