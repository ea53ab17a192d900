-- Each public function's contract leaves one result, and one content of what it was lent. The contracts are those that the check
-- reads in the code, `Post`. Assumes nothing.
use mathlib.Core.Path.{◌≡◌}
use Rattle.trade.proofs.Unique.{OneResult, one_result}
use Rattle.trade.proofs.Refusals.{one_test}
use Rattle.square.proofs.KeptLaws.{put_one}
use Rattle.square.proofs.kept.line_from.Kinds as line_from_kinds
use Rattle.square.proofs.kept.line_from.Reads as line_from
use Rattle.square.proofs.kept.put_line.Reads as put_line
use Rattle.square.proofs.kept.keep.Reads as keep
use Rattle.square.proofs.kept.kept_answer.Kinds as kept_answer_kinds
use Rattle.square.proofs.kept.kept_answer.Reads as kept_answer
use Rattle.square.proofs.carried.pairs_at.Kinds as pairs_at_kinds
use Rattle.square.proofs.carried.pairs_at.Reads as pairs_at
use Rattle.square.proofs.carried.line_with.Kinds as line_with_kinds
use Rattle.square.proofs.carried.line_with.Reads as line_with
use Rattle.square.proofs.carried.figures_in.Reads as figures_in
use Rattle.square.proofs.carried.figures_out.Reads as figures_out

pub line_from_unique : OneResult 1 line_from_kinds.ps line_from_kinds.r line_from.Post
line_from_unique κs a r r' s s' p q = one_result p q

pub put_line_unique : (κs : _) (a : _) (r r' : _) (s s' : _) → put_line.Post κs a r s → put_line.Post κs a r' s' → s.0.now ≡ s'.0.now
put_line_unique κs a r r' s s' p q = put_one p q

pub keep_unique : (κs : _) (a : _) (r r' : _) (s s' : _) → keep.Post κs a r s → keep.Post κs a r' s' → s.1.0.now ≡ s'.1.0.now
keep_unique κs a r r' s s' p q = one_result p q

pub kept_answer_unique : OneResult 2 kept_answer_kinds.ps kept_answer_kinds.r kept_answer.Post
kept_answer_unique κs a r r' s s' p q = one_test r r' (one_result p q)

pub pairs_at_unique : OneResult 1 pairs_at_kinds.ps pairs_at_kinds.r pairs_at.Post
pairs_at_unique κs a r r' s s' p q = one_result p q

pub line_with_unique : OneResult 2 line_with_kinds.ps line_with_kinds.r line_with.Post
line_with_unique κs a r r' s s' p q = one_result p q

pub figures_in_unique : (κs : _) (a : _) (r r' : _) (s s' : _) → figures_in.Post κs a r s → figures_in.Post κs a r' s' → s.1.1.1.0.now ≡ s'.1.1.1.0.now
figures_in_unique κs a r r' s s' p q = one_result p q

pub figures_out_unique : (κs : _) (a : _) (r r' : _) (s s' : _) → figures_out.Post κs a r s → figures_out.Post κs a r' s' → s.1.1.0.now ≡ s'.1.1.0.now
figures_out_unique κs a r r' s s' p q = one_result p q
