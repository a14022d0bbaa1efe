-- What the functions of settling ask of their lists. Assumes nothing.
use Rattle.std.specs.Prelude.{ℕ, ◌+◌, ◌≤◌, length}
use mathlib.Core.List.{List, Memᴰ}
use Rattle.model.specs.Shares.{most_units}
use Rattle.model.specs.Groups.{Group}
use Rattle.works.specs.Consistency.{SoundOpening}
use Rattle.groups.specs.Inner.Flat.{marks_from, marks_in, groups_in, Holds}
use Rattle.groups.specs.declared.Stored.{Stored}
use Rattle.works.specs.Resting.{running_groups}
use Rattle.member_ranges.specs.Tables.{Table, Valid, units}
use Rattle.groups.specs.Memberships.{SoundMembers}

-- the running groups of a flat list, so many over so many units
abbrev pub running_in : ℕ → ℕ → List ℕ → List Group
running_in count unit_count flat = running_groups (marks_in unit_count flat) (groups_in count flat)

-- a group's turn: the table has ranges of at most 256 units, the group is sound
pub record Turning (table : Table) (group : Group) : Type 0 where
  pub valid : Valid table
  pub few : units table ≤ most_units
  pub sound : SoundMembers (units table) group

-- a flat list holds a group's members and the marks of so many units
pub record HoldsMembers (flat : List ℕ) (group : Stored) (unit_count : ℕ) : Type 0 where
  pub whole : group.from + group.count ≤ length flat
  pub marked : marks_from + unit_count ≤ length flat

-- a settling: the flat list holds the groups whole and the marks of the units, and the groups are sound over a table of at most 256 units
pub record Opening (flat : List ℕ) (count : ℕ) (table : Table) : Type 0 where
  pub holds : Holds count flat
  pub marked : marks_from + units table ≤ length flat
  pub few : units table ≤ most_units
  pub sound : SoundOpening (groups_in count flat) table

-- groups read for a job of so many units: the flat list holds them whole and the marks of the units, and each is sound
pub record Prepared (flat : List ℕ) (count unit_count : ℕ) : Type 0 where
  pub holds : Holds count flat
  pub marked : marks_from + unit_count ≤ length flat
  pub few : unit_count ≤ most_units
  pub each : (group : Group) → Memᴰ group (groups_in count flat) → SoundMembers unit_count group
