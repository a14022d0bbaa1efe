-- Tables of the units' ranges, and the ranges of a group's members in them. Assumes nothing.
use Rattle.std.specs.Prelude.{ℕ, ◌+◌, ◌-◌, ◌≤◌, ◌<◌, Bool, ◌&&◌, List, [], ◌∷◌, ◌≡◌, length, get_or, set}
use Rattle.model.specs.Groups.{Group}
use Rattle.model.specs.Known.{same_list}
use Rattle.model.specs.Shares.{Ranges}

-- 01: a table gives each unit of a job one range
pub record Table : Type 0 where
  pub lows : List ℕ
  pub highs : List ℕ

-- the table of these lows and highs
abbrev pub table_of : List ℕ → List ℕ → Table
table_of lows highs = record { lows = lows; highs = highs }

-- 01: each "with low at most high"
abbrev pub Valid : Table → Type 0
Valid table = Ranges table.lows table.highs

-- the number of units
abbrev pub units : Table → ℕ
units table = length table.lows

-- a unit's range, units counted from 0
abbrev pub low_of : Table → ℕ → ℕ
low_of table unit = get_or table.lows unit 0

abbrev pub high_of : Table → ℕ → ℕ
high_of table unit = get_or table.highs unit 0

-- whether two tables have the same ranges
abbrev pub same_table : Table → Table → Bool
same_table a b = same_list a.lows b.lows && same_list a.highs b.highs

-- 01: the sum of high − low
unfoldable pub widths : List ℕ → List ℕ → ℕ
widths [] highs = 0
widths (l ∷ lows) [] = 0
widths (l ∷ lows) (h ∷ highs) = (h - l) + widths lows highs

abbrev pub width : Table → ℕ
width table = widths table.lows table.highs

-- 01: a table lies inside another "if each unit's range lies in that unit's range there"; past the units all entries are 0
pub record Inside (inner outer : Table) : Type 0 where
  pub same_lows : length inner.lows ≡ length outer.lows
  pub same_highs : length inner.highs ≡ length outer.highs
  pub above : (unit : ℕ) → low_of outer unit ≤ low_of inner unit
  pub below : (unit : ℕ) → high_of inner unit ≤ high_of outer unit

-- each member is one of so many units
pub record Named (count : ℕ) (members : List ℕ) : Type 0 where
  pub below : (k : ℕ) → k < length members → get_or members k 0 < count

-- the members' entries, in the group's order
unfoldable pub gather : List ℕ → List ℕ → List ℕ
gather entries [] = []
gather entries (m ∷ members) = get_or entries m 0 ∷ gather entries members

-- the entries with the members' ones replaced by the given values, in the group's order
unfoldable pub scatter : List ℕ → List ℕ → List ℕ → List ℕ
scatter entries [] values = entries
scatter entries (m ∷ members) [] = entries
scatter entries (m ∷ members) (v ∷ values) = scatter (set entries m v) members values

-- the ranges of a group's members in a table
abbrev pub lows_of : Table → Group → List ℕ
lows_of table group = gather table.lows group.members

abbrev pub highs_of : Table → Group → List ℕ
highs_of table group = gather table.highs group.members

-- a unit is a member, at some place in the group's order
abbrev pub Place : List ℕ → ℕ → Type 0
Place members unit = (k : ℕ) × (k < length members) × (get_or members k 0 ≡ unit)
