-- The sections that parts hold. Leans on the trade's layout.
use Rattle.trade.specs.Layout.{Sections, sections}
use Rattle.sections.specs.declared.parts.Parts.{Parts}

abbrev pub sections_held : Parts → Sections
sections_held p = sections p.nodes p.flows p.rows.now p.records.now p.steps.now
