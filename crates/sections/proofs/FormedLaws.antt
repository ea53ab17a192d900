-- Sections that pass codes 6 and 8, and hold what their counts say, are well formed; and where they are, so are fewer flows, and their
-- plans lie in the steps. Leans on the trade's Valid. Assumes nothing.
use Prim.Native.Nat.{ℕ, ◌+◌, ◌*◌, ◌≤◌, ◌<◌, suc, ◌-◌}
use mathlib.Core.Path.{◌≡◌, ap, sym, ◌∙◌}
use mathlib.Core.List.{List, []}
use native.Mathlib.Omega.{arith}
use lib.ListN.{length, drop, length-drop}
use Rattle.trade.specs.Limits.{most_nodes, most_flows, row_bytes, record_bytes, step_bytes, most_steps}
use Rattle.trade.specs.Layout.{Sections, sections, field}
use Rattle.trade.specs.Facts.{facts_of, facts_in, first_step, all_steps}
use Rattle.trade.specs.Answers.{done}
use Rattle.trade.specs.declared.answer.Answer.{Answer}
use Rattle.trade.specs.Codes.{bad_record, code6, code8}
use Rattle.trade.proofs.Answers.{given_first_passed}
use Rattle.trade.proofs.Valid.{sound, placed}
use Rattle.sections.specs.Formed.{Formed, plan_start, plan_at}
use Rattle.sections.proofs.OwnSections.{code6_records, code8_steps}
use lib.Seq.{length-take-le}
use Rattle.trade.specs.First.{sum_to}
use Rattle.trade.specs.Bytes.{part}
use Rattle.trade.proofs.Sums.{sum_le, sum_next}
use Rattle.plans.specs.Plan.{AllWithin}
use Rattle.plans.proofs.StepsLaws.{within_plan}

module _
    (s : Sections) (nodes : s.nodes ≤ most_nodes) (flows : s.flows ≤ most_flows)
    (rows : row_bytes * s.nodes ≤ length s.rows) (records : record_bytes * s.flows ≤ length s.records)
    (steps : step_bytes * all_steps (facts_of s) ≤ length s.steps)
  where
    pub formed_by : (code6 (facts_of s)).code ≡ 0 → (code8 (facts_of s)).code ≡ 0 → Formed s.flows s.rows s.records s.steps
    unfolding code6 facts_of first_step all_steps
    formed_by six eight =
        record {
          most = flows;
          recorded = records;
          fields =
              λ i h.
              let r = sound (facts_of s) i (given_first_passed 5 (bad_record (facts_of s)) s.flows six i h) in
              record {
                period = (r.period.least, r.period.most);
                deadline = (r.deadline.least, r.deadline.most);
                len = (r.len.least, r.len.most);
              };
          planned = steps;
          within =
              λ j h.
              let p = placed (facts_of s) eight j h in
              record {
                sender = record { numbered = omega (arith, p.sender); row = omega (arith, p.sender) };
                receiver = record { numbered = omega (arith, p.receiver); row = omega (arith, p.receiver) };
                apart = p.apart;
              };
        }

-- the same of counts and sections that are apart, by what their tests answer
pub formed_when :
    (nodes flows : ℕ) (rows records steps : List ℕ)
    → nodes ≤ most_nodes
    → flows ≤ most_flows
    → row_bytes * nodes ≤ length rows
    → record_bytes * flows ≤ length records
    → step_bytes * sum_to (λ i. field records i 4) flows ≤ length steps
    → done 0 ≡ code6 (facts_in 0 flows [] records [])
    → done 0 ≡ code8 (facts_in nodes flows [] records steps)
    → Formed flows rows records steps
unfolding all_steps first_step facts_of
formed_when nodes flows rows records steps n m r c p six eight =
    let s = sections nodes flows rows records steps in
    formed_by s n m r c p
    (sym (ap (λ (a : Answer). a.code) (six ∙ code6_records s)))
    (sym (ap (λ (a : Answer). a.code) (eight ∙ code8_steps s)))

-- fewer flows are well formed too
pub formed_less : (k m : ℕ) (rows records steps : List ℕ) → k ≤ m → Formed m rows records steps → Formed k rows records steps
formed_less k m rows records steps h f =
    let fewer : sum_to (λ i. field records i 4) k ≤ sum_to (λ i. field records i 4) m = sum_le (λ i. field records i 4) k m h in
    record {
      most = omega (arith, f.most);
      recorded = omega (arith, f.recorded);
      fields = λ i l. f.fields i (omega arith);
      planned = omega (arith, f.planned);
      within = λ j l. f.within j (omega arith);
    }

-- the plan of a flow ends where the next one starts, or before
pub plan_ends : (records : List ℕ) (i k : ℕ) → i < k → plan_start records i + field records i 4 ≤ plan_start records k
plan_ends records i k l = omega (arith, sum_next (λ (n : ℕ). field records n 4) i, sum_le (λ (n : ℕ). field records n 4) (suc i) k l)

module _ (k : ℕ) (rows records steps : List ℕ) (f : Formed k rows records steps) (i : ℕ) (l : i < k) where
  -- it lies in the steps
  pub plan_lies : step_bytes * (plan_start records i + field records i 4) ≤ length steps
  plan_lies = omega (arith, plan_ends records i k l, f.planned)

  -- it has at most so many bytes, and its steps lie in the network
  pub length_plan : length (plan_at records steps i) ≤ step_bytes * most_steps
  unfolding part
  length_plan =
      let at : ℕ = step_bytes * plan_start records i in
      let size : length (drop at steps) ≡ length steps - at = length-drop at steps in
      let fits : step_bytes * field records i 4 ≤ length (drop at steps) = omega (arith, plan_lies) in
      omega (arith, length-take-le (step_bytes * field records i 4) (drop at steps) fits, (f.fields i l).len.1)

  pub plan_within : AllWithin rows (plan_at records steps i)
  plan_within =
      within_plan steps (plan_start records i) (field records i 4) plan_lies rows (λ j h. f.within j (omega (arith, plan_ends records i k l)))
