-- `square::kept::clear_from` fills what stands from the line on. Assumes nothing.
use Rattle.std.proofs.Common.{◌≡◌, ℕ, ◌*◌, ◌-◌, length, get_or, ap, ◌∙◌, rules}
use Rattle.std.proofs.lemmas.List.{places}
use Rattle.trade.specs.Limits.{most_flows}
use Rattle.pairs.proofs.SpreadLaws.{zeros}
use Rattle.square.proofs.kept.clear_from.Goals as goal

pub returns : goal.returns
returns c =
    let a = c.args in
    let rest : ℕ = length a.figures.now - most_flows * a.l in
    record {
      size = search (rules, places);
      above = λ k h. search (rules, places);
      past = λ k h.
          let part : get_or c.fill.new.self (k - most_flows * a.l) 0 ≡ 0 =
          ap (λ (xs : _). get_or xs (k - most_flows * a.l) 0) (c.fill.ensures.after (λ y e. e)) ∙ zeros _ (k - most_flows * a.l) in search (rules, places, part);
    }
