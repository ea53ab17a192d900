-- Where the parts of a book lie in its slice, by its trailer. Leans on the trade's layout and codes, and on the sections' Parts.
use Rattle.std.specs.Prelude.{ℕ, ◌+◌, ◌-◌, ◌*◌, ◌%◌, ◌≤◌, ◌≡◌, Bool, cond, not, ◌&&◌, ◌||◌, List, [], ◌∷◌, eqb, ltb, length}
use Rattle.trade.specs.Limits.{mark, most_nodes, most_flows, row_bytes, record_bytes, trailer_bytes}
use Rattle.trade.specs.Bytes.{byte, word}
use Rattle.trade.specs.Layout.{rows_distance, records_distance, steps_distance, node_count, flow_count}
use Rattle.trade.specs.Facts.{said}
use Rattle.trade.specs.Answers.{done, refused}
use Rattle.trade.specs.Codes.{outside, code5, code6, code7, code8}
use Rattle.trade.specs.declared.answer.Answer.{Answer}
use Rattle.sections.specs.declared.parts.Parts.{Parts}
use Rattle.book.specs.declared.parts.Trailer.{Trailer}
use Rattle.book.specs.declared.parts.Frame.{Frame}

-- what the ten bytes of a trailer say
unfoldable pub trailer_in : List ℕ → Trailer
trailer_in tail =
    record {
      rows = word tail 0;
      records = word tail 2;
      steps = word tail 4;
      nodes = byte tail 6;
      flows = byte tail 7;
      marked = eqb (byte tail 8) (byte mark 0) && eqb (byte tail 9) (byte mark 1);
    }

-- the distances are not those of the counts, or do not lie in a slice of so many bytes
unfoldable pub astray : Trailer → ℕ → Bool
astray t len =
    not (eqb t.rows (t.records + row_bytes * t.nodes))
    || not (eqb t.records (t.steps + record_bytes * t.flows))
    || ltb t.steps trailer_bytes
    || eqb (t.steps % 2) 1
    || ltb len t.rows

-- codes 2 to 4 on what a trailer says of a slice of so many bytes
unfoldable pub trailer_answer : Trailer → ℕ → Answer
trailer_answer t len =
    cond (not t.marked) (refused 2 0)
    (cond (outside 1 most_nodes t.nodes || outside 0 most_flows t.flows) (refused 3 0)
    (cond (astray t len) (refused 4 0) (done 0)))

-- where the parts start, and where the steps end
unfoldable pub frame_by : Trailer → ℕ → Frame
frame_by t len =
    record {
      nodes = t.nodes;
      flows = t.flows;
      rows = len - t.rows;
      records = len - t.records;
      steps = len - t.steps;
      end = len - trailer_bytes;
    }

unfoldable pub frame_of : List ℕ → Frame
frame_of slice =
    record {
      nodes = node_count slice;
      flows = flow_count slice;
      rows = length slice - rows_distance slice;
      records = length slice - records_distance slice;
      steps = length slice - steps_distance slice;
      end = length slice - trailer_bytes;
    }

-- where the sections that parts hold start in a slice of so many bytes, behind which only the trailer stands, and where the steps end
unfoldable pub frame_held : Parts → ℕ → Frame
frame_held p len =
    record {
      nodes = p.nodes;
      flows = p.flows;
      rows = len - trailer_bytes - length p.steps.now - length p.records.now - length p.rows.now;
      records = len - trailer_bytes - length p.steps.now - length p.records.now;
      steps = len - trailer_bytes - length p.steps.now;
      end = len - trailer_bytes;
    }

-- the parts of a slice lie one behind the other, each as long as the counts say
pub record Lies (slice : List ℕ) (f : Frame) : Type 0 where
  pub frame : f ≡ frame_of slice
  pub nodes : f.nodes ≤ most_nodes
  pub flows : f.flows ≤ most_flows
  pub rows : f.rows + row_bytes * f.nodes ≡ f.records
  pub records : f.records + record_bytes * f.flows ≡ f.steps
  pub steps : f.steps ≤ f.end
  pub end : f.end + trailer_bytes ≡ length slice
  pub within : steps_distance slice ≤ length slice

-- the rules on the sections: 5, 6, 7 and 8
unfoldable pub section_rules : List (List ℕ → Answer)
section_rules = (λ b. code5 (said b)) ∷ (λ b. code6 (said b)) ∷ code7 ∷ (λ b. code8 (said b)) ∷ []
