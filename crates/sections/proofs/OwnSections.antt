-- Each of codes 5, 6 and 8 reads the counts and sections that it is about, and no others. Leans on nothing. Assumes nothing.
use mathlib.Core.Path.{◌≡◌, refl}
use mathlib.Core.List.{[]}
use Rattle.trade.specs.Layout.{Sections}
use Rattle.trade.specs.Facts.{facts_of, facts_in, first_step, all_steps}
use Rattle.trade.specs.Codes.{bad_row, bad_record, first_of_plan, bad_step, code5, code6, code8}

pub code5_rows : (s : Sections) → code5 (facts_in s.nodes 0 s.rows [] []) ≡ code5 (facts_of s)
unfolding code5 bad_row facts_of
code5_rows s = refl

pub code6_records : (s : Sections) → code6 (facts_in 0 s.flows [] s.records []) ≡ code6 (facts_of s)
unfolding code6 bad_record facts_of
code6_records s = refl

pub code8_steps : (s : Sections) → code8 (facts_in s.nodes s.flows [] s.records s.steps) ≡ code8 (facts_of s)
unfolding code8 bad_step first_of_plan first_step all_steps facts_of
code8_steps s = refl
