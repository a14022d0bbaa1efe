-- The group lines of a report as they were before item 6 of 02. Assumes nothing.
use Rattle.std.specs.Prelude.{ℕ, suc, List, [], ◌∷◌}
use Rattle.model.specs.Groups.{Group}
use Rattle.model.specs.Running.{marked_figures}
use Rattle.model.specs.Ways.{evened}
use Rattle.model.specs.declared.Figures.{Figures}
use Rattle.works.specs.Resting.{marks_of}
use Rattle.member_ranges.specs.Tables.{Table, lows_of, highs_of}
use Rattle.report.specs.Lines.{group_line}
use Rattle.report.specs.Evenness.{level_in}

-- the line of a group in a table, with the copies left over for the first members
abbrev pub group_line_before : List ℕ → ℕ → Table → Group → List ℕ
group_line_before marks number table group =
    let shares : List ℕ = evened (lows_of table group) (highs_of table group) group.total in
    group_line number (level_in table group) (marked_figures (marks_of marks group) group.total shares) shares

-- the group lines, in order, the first with the given number
unfoldable pub group_lines_before : List ℕ → ℕ → Table → List Group → List (List ℕ)
group_lines_before marks number table [] = []
group_lines_before marks number table (group ∷ groups) = group_line_before marks number table group ∷ group_lines_before marks (suc number) table groups

-- group lines that are the same but for the shares
pub data SameButShares : List (List ℕ) → List (List ℕ) → Type 0 where
  none : SameButShares [] []
  also : {lines before : List (List ℕ)} (number v : ℕ) (figures : Figures) (shares were : List ℕ) → SameButShares lines before
      → SameButShares (group_line number v figures shares ∷ lines) (group_line number v figures were ∷ before)
