-- Jobs with shut units: the groups of their running members, plans drawn from a table, and tables at rest. Assumes nothing.
use Rattle.std.specs.Prelude.{ℕ, ◌≤◌, ◌<◌, ◌≡◌, get_or}
use mathlib.Core.List.{List, Memᴰ, map}
use Rattle.model.specs.Groups.{Group}
use Rattle.model.specs.Running.{running, Marked, MarkedPlan}
use Rattle.groups.specs.Memberships.{size, unit_of, SoundGroup}
use Rattle.member_ranges.specs.Tables.{Table, Valid, units, low_of, high_of, Inside, gather, lows_of, highs_of}

-- 02: the marks of a group's members, from those of the units
abbrev pub marks_of : List ℕ → Group → List ℕ
marks_of marks group = gather marks group.members

-- 02: the group of the members that run
abbrev pub running_group : List ℕ → Group → Group
running_group marks group =
    record {
      total = group.total;
      limits = group.limits;
      pairs_there = group.pairs_there;
      members = running (marks_of marks group) group.members;
    }

-- 02: "The trade now counts running stands only"
abbrev pub running_groups : List ℕ → List Group → List Group
running_groups marks groups = map (running_group marks) groups

-- the marks, the groups and the opening table that the checks ahead of settling let through
pub record ShutOpening (marks : List ℕ) (groups : List Group) (table : Table) : Type 0 where
  pub valid : Valid table
  pub shut : Marked marks table.lows table.highs
  pub each : (group : Group) → Memᴰ group groups → SoundGroup (units table) group

-- 01: a plan of the group drawn from the table; 02: the running members' figures
abbrev pub PlanFrom : List ℕ → Table → Group → List ℕ → Type 0
PlanFrom marks table group xs = MarkedPlan (marks_of marks group) (lows_of table group) (highs_of table group) group.total group.limits xs

-- 01: a table is at rest "if for each group and each member every value of its range is taken by a plan of that group inside the table"
pub record AtRest (marks : List ℕ) (groups : List Group) (table : Table) : Type 0 where
  pub valid : Valid table
  pub taken : (group : Group) → Memᴰ group groups → (k : ℕ) → k < size group
      → (v : ℕ) → low_of table (unit_of group k) ≤ v → v ≤ high_of table (unit_of group k)
      → (xs : List ℕ) × PlanFrom marks table group xs × (get_or xs k 0 ≡ v)

-- no table inside this one is at rest
abbrev pub NoneAtRest : List ℕ → List Group → Table → Type 0
NoneAtRest marks groups table = (inner : Table) → AtRest marks groups inner → Inside inner table → ⊥
