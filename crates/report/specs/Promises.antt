-- What a report promises of the table that the call leaves. Assumes nothing.
use Rattle.std.specs.Prelude.{ℕ, ◌≤◌, List, ◌≡◌, length}
use Rattle.form.specs.Form.{most_bytes}
use Rattle.model.specs.Groups.{Group}
use Rattle.works.specs.Consistency.{Apart}
use Rattle.works.specs.Resting.{AtRest}
use Rattle.works.specs.Called.{Cleared, first_of, count}
use Rattle.member_ranges.specs.Tables.{Table, low_of, high_of, Inside}
use Rattle.report.specs.Calls.{Reported, report_text}
use Rattle.report.specs.Evenness.{EvenLines}
use Rattle.report.specs.Reports.{group_lines}

-- 01, demand 3: the table lies inside the opening one, is at rest, every table at rest inside the opening one lies inside it, units in
-- no group keep their range; and each group's line has its level, evenest shares and their figures
pub record Promised (marks : List ℕ) (groups : List Group) (opening table : Table) : Type 0 where
  pub inside : Inside table opening
  pub at_rest : AtRest marks groups table
  pub greatest : (inner : Table) → AtRest marks groups inner → Inside inner opening → Inside inner table
  pub untouched : (unit : ℕ) → Apart groups unit → (low_of table unit ≡ low_of opening unit) × (high_of table unit ≡ high_of opening unit)
  pub lines : EvenLines marks table 1 groups (group_lines marks 1 table groups)

module _ {text lows highs : List ℕ} {scratch : ℕ} (cleared : Cleared text lows highs scratch) (buffer : List ℕ)
    (long : most_bytes ≤ length buffer) where
  -- what the call answers and leaves
  abbrev pub outcome : Reported
  outcome = report_text text lows highs scratch buffer

  -- 01: the settled table of the report
  abbrev pub left : Table
  left = first_of (count cleared) outcome.lows outcome.highs
