-- What the functions of the report ask of their lists. Assumes nothing.
use Rattle.model.specs.declared.Refusal.{Refusal}
use Rattle.std.specs.Prelude.{ℕ, Err, Result, Ok, ◌+◌, ◌≤◌, ◌≡◌, length, take}
use mathlib.Core.List.{List, [], Memᴰ}
use Rattle.levelling.specs.declared.Levelled.{Levelled}
use Rattle.groups.specs.Memberships.{memberships, size, SoundGroup}
use Rattle.groups.specs.Inner.Flat.{marks_from, marks_in, groups_in, Holds}
use Rattle.job.specs.Job.{most_groups, most_memberships}
use Rattle.model.specs.Groups.{Group}
use Rattle.model.specs.Levels.{level, levelled}
use Rattle.model.specs.Running.{Marked, marked_figures}
use Rattle.works.specs.Resting.{marks_of}
use Rattle.member_ranges.specs.Tables.{Table, Named, table_of, units, gather, lows_of, highs_of}
use Rattle.model.specs.Sound.{SoundRanges}
use Rattle.works.specs.declared.Unsettled.{Unsettled}
use Rattle.report.specs.Lines.{group_line}
use Rattle.report.specs.Reportable.{AllLevelable, Reportable}

-- the marks of a table's units in a flat list
abbrev pub marks_for : List ℕ → Table → List ℕ
marks_for flat table = marks_in (units table) flat

-- a flat list holds groups whole that can be levelled in the table, and the marks of its units
pub record Printable (flat : List ℕ) (count : ℕ) (table : Table) : Type 0 where
  pub holds : Holds count flat
  pub marked : marks_from + units table ≤ length flat
  pub paired : length table.highs ≡ length table.lows
  pub levelable : AllLevelable (marks_for flat table) table (groups_in count flat)

-- a flat list holds so many groups whole, and the marks of so many units
pub record HoldsJob (flat : List ℕ) (count unit_count : ℕ) : Type 0 where
  pub holds : Holds count flat
  pub marked : marks_from + unit_count ≤ length flat

-- members with marks and ranges, sound ones, of which each shut one has the range 0 to 0
pub record LevelMembers (members marks lows highs : List ℕ) : Type 0 where
  pub for_marks : Named (length marks) members
  pub for_lows : Named (length lows) members
  pub for_highs : Named (length highs) members
  pub sound : SoundRanges (gather lows members) (gather highs members)
  pub shut : Marked (gather marks members) (gather lows members) (gather highs members)

-- what levelling a group that can be levelled answers, and the plan's first numbers after it
pub record LevelledIn (marks : List ℕ) (table : Table) (group : Group) (answer : Result Levelled Refusal) (plan : List ℕ) : Type 0 where
  pub answers : answer ≡ Ok (record {
    level = record { copies = level (lows_of table group) (highs_of table group) group.total };
    figures = marked_figures (marks_of marks group) group.total (levelled (lows_of table group) (highs_of table group) group.total);
  })
  pub holds : take (size group) plan ≡ levelled (lows_of table group) (highs_of table group) group.total

-- the line of what levelling a group answers: its level, the figures and the shares; none on a refusal
abbrev pub line_of_levelling : ℕ → Result Levelled Refusal → List ℕ → List ℕ
line_of_levelling number (Ok answer) shares = group_line number answer.level.copies answer.figures shares
line_of_levelling number (Err refusal) shares = []

-- the groups of a flat list, over so many units, are within the limits of 01
pub record WithinLimits (flat : List ℕ) (count unit_count : ℕ) : Type 0 where
  pub few_groups : count ≤ most_groups
  pub few_memberships : memberships (groups_in count flat) ≤ most_memberships
  pub each : (group : Group) → Memᴰ group (groups_in count flat) → SoundGroup unit_count group

-- the ranges of a job's units at the front of two lists make a table that can be reported
pub record FrontReportable (marks : List ℕ) (groups : List Group) (unit_count passes : ℕ) (lows highs : List ℕ) : Type 0 where
  pub for_lows : unit_count ≤ length lows
  pub for_highs : unit_count ≤ length highs
  pub reportable : Reportable marks groups (table_of (take unit_count lows) (take unit_count highs)) passes

-- where a settling answers with the passes, what it leaves can be reported
abbrev pub Answerable : List ℕ → List Group → ℕ → Result ℕ Unsettled → List ℕ → List ℕ → Type 0
Answerable marks groups unit_count answer lows highs = (passes : ℕ) → answer ≡ Ok passes → FrontReportable marks groups unit_count passes lows highs
