-- The lines of a report, and a group line with its number. Assumes nothing.
use Rattle.std.specs.Prelude.{ℕ, List, ◌∷◌, ◌++◌}
use Rattle.model.specs.Groups.{Group}
use Rattle.text.specs.Words.{bytes}
use Rattle.print.specs.Items.{item}
use Rattle.member_ranges.specs.Tables.{Table}
use Rattle.report.specs.Lines.{settled_line}
use Rattle.report.specs.Reports.{unit_lines, group_lines}

-- the lines of a report: that of the passes, the unit lines, the group lines
abbrev pub report_lines : List ℕ → List Group → Table → ℕ → List (List ℕ)
report_lines marks groups table passes = settled_line passes ∷ (unit_lines 1 table.lows table.highs ++ group_lines marks 1 table groups)

-- a group's line with this number and these bytes past it
abbrev pub numbered : ℕ → List ℕ → List ℕ
numbered number past = bytes "(group" ++ (item number ++ past)
