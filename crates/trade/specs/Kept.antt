-- A table that carries the interference of its flows: what its figures are, and code 17. Leans on Interference, Bound, Table and Answers.
use Rattle.std.specs.Prelude.{ℕ, ◌+◌, ◌*◌, ◌/◌, ◌%◌, ◌<◌, ◌≡◌, Bool, not, cond, ◌&&◌, List, eqb, ltb, length}
use Rattle.trade.specs.Limits.{most_flows}
use Rattle.trade.specs.First.{some, list_to}
use Rattle.trade.specs.Bytes.{byte}
use Rattle.trade.specs.Layout.{Sections, sections}
use Rattle.trade.specs.Facts.{Facts, facts_of}
use Rattle.trade.specs.Table.{InMemory, table_of, empty_table}
use Rattle.trade.specs.Answers.{given_first}
use Rattle.trade.specs.Interference.{interference}
use Rattle.trade.specs.Bound.{Measure, deadlined, fairly}
use Rattle.trade.specs.declared.answer.Answer.{Answer}

-- a table in memory: its counts and sections, and its figures
pub record Tabled : Type 0 where
  pub sections : Sections
  pub figures : List ℕ

-- its parts put together, for code that has them apart
abbrev pub tabled : ℕ → ℕ → List ℕ → List ℕ → List ℕ → List ℕ → Tabled
tabled n m rows records steps figures = record { sections = sections n m rows records steps; figures = figures }

-- there is room for 32 lines of 32 figures, a byte each
abbrev pub figures_room : ℕ
figures_room = most_flows * most_flows

pub record KeptInMemory (t : Tabled) : Type 0 where
  pub sections : InMemory t.sections
  pub figures : length t.figures ≡ figures_room

-- the figure of l and h: the h-th of line l
unfoldable pub figure_in : List ℕ → ℕ → ℕ → ℕ
figure_in figures l h = byte figures (most_flows * l + h)

-- 32 lines of 32 figures
unfoldable pub square : (ℕ → ℕ → ℕ) → List ℕ
square figure = list_to (λ k. figure (k / most_flows) (k % most_flows)) figures_room

-- I(l,h) for each used l and each h above it, every other figure zero
unfoldable pub figures_of : Facts → List ℕ
figures_of f = square (λ l h. cond (ltb l f.flows && ltb h l) (interference f l h) 0)

-- the table of the same facts whose unused places are zero and whose figures are right
unfoldable pub kept_of : Sections → Tabled
kept_of s = record { sections = table_of s; figures = figures_of (facts_of s) }

-- the table of zeros that a refused read returns
unfoldable pub empty_kept : Tabled
empty_kept = kept_of empty_table

-- the figures of a table are right: each that is asked for is what its definition says. What stands elsewhere does not matter
abbrev pub RightFigures : Tabled → Type 0
RightFigures t =
    (l h : ℕ) → l < t.sections.flows → h < l → figure_in t.figures l h ≡ interference (facts_of t.sections) l h

-- 17: a figure of a used l and an h above it is wrong; the first such l
unfoldable pub wrong_line : Tabled → ℕ → Bool
wrong_line t l = some (λ h. not (eqb (figure_in t.figures l h) (interference (facts_of t.sections) l h))) l

unfoldable pub code17 : Tabled → Answer
code17 t = given_first 17 (wrong_line t) t.sections.flows

-- the measure that a table carries: its figures as they stand, and an instance may be carried in up to its bound by them
abbrev pub kept_measure : Tabled → Measure
kept_measure t = fairly (facts_of t.sections) (figure_in t.figures)

-- and by the deadline count
abbrev pub kept_by_deadline : Tabled → Measure
kept_by_deadline t = deadlined (facts_of t.sections) (figure_in t.figures)
