-- The report of a settled table. Assumes nothing.
use Rattle.std.specs.Prelude.{ℕ, suc}
use mathlib.Core.List.{List, [], ◌∷◌, flatten}
use Rattle.model.specs.Groups.{Group}
use Rattle.model.specs.Levels.{level, levelled}
use Rattle.model.specs.Running.{marked_figures}
use Rattle.works.specs.Resting.{marks_of}
use Rattle.member_ranges.specs.Tables.{Table, lows_of, highs_of}
use Rattle.works.specs.Settling.{Outcome}
use Rattle.report.specs.Lines.{settled_line, unit_line, group_line, refusal_line}

-- the unit lines, in order, the first with the given number
unfoldable pub unit_lines : ℕ → List ℕ → List ℕ → List (List ℕ)
unit_lines number [] highs = []
unit_lines number (l ∷ lows) [] = []
unit_lines number (l ∷ lows) (h ∷ highs) = unit_line number l h ∷ unit_lines (suc number) lows highs

-- the line of a group with the given ranges, marks and total: its level, its levelled shares and the figures of those that run
unfoldable pub levelled_line : ℕ → List ℕ → List ℕ → List ℕ → ℕ → List ℕ
levelled_line number lows highs marks total =
    let shares : List ℕ = levelled lows highs total in
    group_line number (level lows highs total) (marked_figures marks total shares) shares

-- the line of a group in a table, with the marks of the units; 01: "levelled shares within the settled table"
abbrev pub line_of : List ℕ → ℕ → Table → Group → List ℕ
line_of marks number table group = levelled_line number (lows_of table group) (highs_of table group) (marks_of marks group) group.total

-- the group lines, in order, the first with the given number
unfoldable pub group_lines : List ℕ → ℕ → Table → List Group → List (List ℕ)
group_lines marks number table [] = []
group_lines marks number table (group ∷ groups) = line_of marks number table group ∷ group_lines marks (suc number) table groups

-- the report of a settled table and the passes; 02: "Reports print shut units as ranges"
unfoldable pub report_of : List ℕ → List Group → Table → ℕ → List ℕ
report_of marks groups table passes =
    flatten (settled_line passes ∷ flatten (unit_lines 1 table.lows table.highs) ∷ flatten (group_lines marks 1 table groups) ∷ [])

-- what the program prints of an outcome: the report, or one line
unfoldable pub printed : List ℕ → List Group → Outcome → List ℕ
printed marks groups (Outcome.settled table passes) = report_of marks groups table passes
printed marks groups (Outcome.refused number place passes) = refusal_line number place
