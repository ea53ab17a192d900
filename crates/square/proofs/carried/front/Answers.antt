-- `square::carried::front` copies the first of the pairs. Assumes nothing.
use Rattle.std.proofs.Common.{◌≡◌, ℕ, ◌<◌, ◌≤◌, List, refl, length, get_or, drop, take, ◌++◌, sym, ◌∙◌, ⊎_elim, rules, ext_get_or}
use Rattle.std.proofs.lemmas.List.{places}
use Rattle.trade.specs.Limits.{most_flows}
use Rattle.trade.proofs.First.{lt_or_ge}
use Rattle.pairs.proofs.SpreadLaws.{zeros}
use Rattle.figures.proofs.Padded.{filled, length_filled, filled_at, filled_behind}
use Rattle.square.proofs.carried.front.Goals as goal

-- the first of a list, and zeros behind them
first_of :
    (pairs blank : List ℕ) (count : ℕ)
    → length pairs ≡ most_flows
    → length blank ≡ most_flows
    → ((k : ℕ) → get_or blank k 0 ≡ 0)
    → count ≤ most_flows
    → take count pairs ++ drop count blank ≡ filled most_flows (λ h. get_or pairs h 0) count
first_of pairs blank count m n none h =
    ext_get_or 0 _ _ (all ∙ sym (length_filled most_flows _ count h))
    (λ k b.
    ⊎_elim
    (λ (p : k < count).
    let here : get_or (take count pairs ++ drop count blank) k 0 ≡ get_or pairs k 0 = search (rules, places) in here ∙ sym (filled_at most_flows _ count k p))
    (λ (p : count ≤ k).
    let there : get_or (take count pairs ++ drop count blank) k 0 ≡ get_or blank k 0 = search (rules, places) in
    there ∙ none k ∙ sym (filled_behind most_flows _ count k p)) (lt_or_ge k count))
  where
    all : length (take count pairs ++ drop count blank) ≡ most_flows
    all = search (rules, places)

pub returns : goal.returns
returns c = rw c.copy_from_slice.ensures.after (first_of c.args.pairs.now _ c.args.count c.told-pairs refl (zeros 32) c.requires)
