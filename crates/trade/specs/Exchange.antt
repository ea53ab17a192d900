-- Flows of a table exchanged for others: the one cut and paste behind adding and removing. Leans on Facts and Layout.
use Rattle.std.specs.Prelude.{ℕ, suc, ◌+◌, ◌-◌, ◌*◌, cond, List, ◌++◌, ltb, take, drop}
use Rattle.trade.specs.Limits.{record_bytes, step_bytes}
use Rattle.trade.specs.Layout.{Sections}
use Rattle.trade.specs.Facts.{facts_of, first_step}

-- bytes in which those from one place up to another give way to others
unfoldable pub spliced : ℕ → ℕ → List ℕ → List ℕ → List ℕ
spliced from to new old = take from old ++ new ++ drop to old

-- the flows from one place up to another go, and so many come in their stead, with their records and the steps of their plans
pub record Exchange : Type 0 where
  pub from : ℕ
  pub to : ℕ
  pub come : ℕ
  pub records : List ℕ
  pub steps : List ℕ

-- sections whose places are all used, after an exchange: a flow goes with its record and the steps of its plan, and the rows stay
unfoldable pub recut : Sections → Exchange → Sections
recut s x =
    let start : ℕ → ℕ = λ i. step_bytes * first_step (facts_of s) i in
    record {
      nodes = s.nodes;
      flows = s.flows - (x.to - x.from) + x.come;
      rows = s.rows;
      records = spliced (record_bytes * x.from) (record_bytes * x.to) x.records s.records;
      steps = spliced (start x.from) (start x.to) x.steps s.steps;
    }

-- where a flow stood before the one at a place went
unfoldable pub before_out : ℕ → ℕ → ℕ
before_out place i = cond (ltb i place) i (suc i)
