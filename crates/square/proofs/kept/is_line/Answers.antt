-- `square::kept::is_line` looks at figure by figure. Assumes nothing.
use Rattle.std.proofs.Common.{rules, ℕ, ◌∙◌, take, tests}
use lib.Dec.{eqb}
use Rattle.std.proofs.lemmas.Iterator.{YieldsList-from_slice, YieldsList-from_zip}
use Rattle.std.proofs.lemmas.Iterator.Search.{all_from_yields_List}
use Rattle.square.proofs.KeptLaws.{from_line, line_same}
use Rattle.square.proofs.kept.is_line.Goals as goal

pub returns : goal.returns
returns c =
    let a = c.args in
    all_from_yields_List (λ (p : ℕ × ℕ). eqb p.0 p.1) c.all.new.self _ _ c.all.ensures.ran
    (YieldsList-from_zip (YieldsList-from_slice (from_line a.figures.now a.l) cc) (YieldsList-from_slice (take a.l a.line.now) cc))
    (λ x b q k. search (rules, tests))
    ∙ line_same a.figures.now a.line.now a.l c.requires.0 c.told-line c.requires.1
