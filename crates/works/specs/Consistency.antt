-- Sound jobs, and tables at rest, for the groups that `settle` takes: those of running members. Of jobs with shut units Resting speaks. Assumes nothing.
use Rattle.std.specs.Prelude.{ℕ, ◌≤◌, ◌<◌, ◌≡◌, get_or}
use mathlib.Core.List.{List, Memᴰ}
use Rattle.model.specs.Groups.{Group}
use Rattle.model.specs.Plans.{Plan}
use Rattle.member_ranges.specs.Tables.{Table, Valid, units, low_of, high_of, Inside, Place, gather, lows_of, highs_of}
use Rattle.groups.specs.Memberships.{size, unit_of, SoundMembers}

-- the groups and the opening table that the checks ahead of settling let through
pub record SoundOpening (groups : List Group) (table : Table) : Type 0 where
  pub valid : Valid table
  pub each : (group : Group) → Memᴰ group groups → SoundMembers (units table) group

-- 01: a unit in no group
abbrev pub Apart : List Group → ℕ → Type 0
Apart groups unit = (group : Group) → Memᴰ group groups → Place group.members unit → ⊥

-- 01: a plan of the group drawn from the table
abbrev pub PlanIn : Table → Group → List ℕ → Type 0
PlanIn table group xs = Plan (lows_of table group) (highs_of table group) group.total group.limits xs

-- 01: one choice of shares, one a unit, suits all groups at once
abbrev pub Suits : List Group → Table → List ℕ → Type 0
Suits groups table xs = (group : Group) → Memᴰ group groups → PlanIn table group (gather xs group.members)

-- the group has a plan drawn from the table, also where it has no members, and every value of each member's range is taken by one
pub record Supported (table : Table) (group : Group) : Type 0 where
  pub planned : (xs : List ℕ) × PlanIn table group xs
  pub taken : (k : ℕ) → k < size group → (v : ℕ) → low_of table (unit_of group k) ≤ v → v ≤ high_of table (unit_of group k)
      → (xs : List ℕ) × PlanIn table group xs × (get_or xs k 0 ≡ v)

-- 01: a table at rest: "for each group and each member every value of its range is taken by a plan of that group inside the table"
pub record Consistent (groups : List Group) (table : Table) : Type 0 where
  pub valid : Valid table
  pub each : (group : Group) → Memᴰ group groups → Supported table group

-- no table inside this one is at rest
abbrev pub NoneInside : List Group → Table → Type 0
NoneInside groups table = (inner : Table) → Consistent groups inner → Inside inner table → ⊥
