-- `figures::heard::hear_above` asks for the nodes of the plans above another. Assumes nothing.
use Rattle.std.proofs.Common.{◌≡◌, ℕ, ◌-◌, Bool, ◌&&◌, sym, ap, ◌∙◌, arith}
use Rattle.trade.specs.First.{some, sum_to}
use Rattle.trade.specs.Facts.{disturbs_in, step_in}
use Rattle.trade.proofs.First.{some_none}
use Rattle.nodes.proofs.MaskLaws.{bit_none}
use Rattle.pairs.specs.Columns.{ending}
use Rattle.sections.specs.Formed.{Formed}
use Rattle.sections.proofs.FormedLaws.{formed_less}
use Rattle.figures.proofs.FiguresLaws.{nodes_known}
use Rattle.figures.proofs.heard.hear_above.Goals as goal
use Rattle.figures.proofs.heard.hear_above.Goals.{Start}

-- the flows but the last
above : (c : Start) → Formed (c.args.parts.flows - 1) c.args.parts.rows.now c.args.parts.records.now c.args.parts.steps.now
above c = formed_less (c.args.parts.flows - 1) c.args.parts.flows c.args.parts.rows.now c.args.parts.records.now c.args.parts.steps.now (omega arith) c.args.parts.formed

pub nodes_in-nodes-requires : goal.nodes_in-nodes-requires
nodes_in-nodes-requires c =
    let f = above (goal.at.nodes_in-nodes-requires c).Start in
    let count = c.steps_before.ensures.0 in (
      rw count f.planned,
      λ j h. let w = f.within j (rw count at h) in (w.sender.numbered, w.receiver.numbered),
    )

pub hear-requires : goal.hear-requires
hear-requires c =
    let a = c.args in (
      λ x e.
          nodes_known (a.parts.flows - 1) a.parts.rows.now a.parts.records.now a.parts.steps.now (above (goal.at.hear-requires c).Start) x
          (sym (ap (some (λ (j : ℕ). ending (step_in a.parts.steps.now j) x)) c.steps_before.ensures.0) ∙ sym (c.nodes_in-nodes.ensures x) ∙ e),
      omega (arith, c.requires.0),
      c.requires.1,
    )

pub returns-then-parts-gt1 : goal.returns-then-parts-gt1
returns-then-parts-gt1 c =
    let a = c.args in
    let heard = c.hear.ensures in
    record {
      size = heard.size ∙ c.requires.0;
      bits =
          λ y x h.
          heard.bits y x h
          ∙ ap (λ (t : Bool). t && disturbs_in a.parts.rows.now x y)
          (c.nodes_in-nodes.ensures x ∙ ap (some (λ (j : ℕ). ending (step_in a.parts.steps.now j) x)) c.steps_before.ensures.0);
    }

pub returns-else-parts-gt1 : goal.returns-else-parts-gt1
unfolding sum_to
returns-else-parts-gt1 c =
    let a = c.args in
    let none : a.parts.flows - 1 ≡ 0 = omega arith in
    record {
      size = c.requires.0;
      bits =
          λ y x h.
          rw (c.requires.1 y h, none, some_none (λ (j : ℕ). ending (step_in a.parts.steps.now j) x) 0 (λ j l. absurd (omega arith))) (bit_none x);
    }
