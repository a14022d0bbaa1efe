-- What a report is printed of. Assumes nothing.
use Rattle.std.specs.Prelude.{ℕ, suc, ◌≤◌, ◌≡◌, length}
use mathlib.Core.List.{List, Memᴰ}
use Rattle.model.specs.Shares.{greatest_total, most_units}
use Rattle.model.specs.Groups.{Group}
use Rattle.model.specs.Running.{Marked}
use Rattle.works.specs.Resting.{marks_of}
use Rattle.model.specs.Sound.{HasShares}
use Rattle.groups.specs.Memberships.{memberships}
use Rattle.job.specs.Job.{most_groups, most_memberships}
use Rattle.member_ranges.specs.Tables.{Table, Valid, Named, units, lows_of, highs_of}

-- a group that can be levelled in the table: its members are units of it, each shut one has the range 0 to 0, and shares with its total exist there
pub record Levelable (marks : List ℕ) (table : Table) (group : Group) : Type 0 where
  pub named : Named (units table) group.members
  pub marked : Marked (marks_of marks group) (lows_of table group) (highs_of table group)
  pub shares : HasShares (lows_of table group) (highs_of table group) group.total

abbrev pub AllLevelable : List ℕ → Table → List Group → Type 0
AllLevelable marks table groups = (group : Group) → Memᴰ group groups → Levelable marks table group

-- a settled table of a job within the limits of 01, and the passes
pub record Reportable (marks : List ℕ) (groups : List Group) (table : Table) (passes : ℕ) : Type 0 where
  pub valid : Valid table
  pub few_units : units table ≤ most_units
  pub few_groups : length groups ≤ most_groups
  pub few_memberships : memberships groups ≤ most_memberships
  pub few_passes : passes ≤ suc greatest_total
  pub each_marked : length marks ≡ units table
  pub levelable : AllLevelable marks table groups
