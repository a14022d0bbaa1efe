-- The greatest consistent table inside a table, and what passes leave of one. Assumes nothing.
use Rattle.std.specs.Prelude.{ℕ, List, ◌≡◌}
use Rattle.model.specs.Groups.{Group}
use Rattle.works.specs.Consistency.{Apart, Consistent}
use Rattle.member_ranges.specs.Tables.{Table, Valid, low_of, high_of, Inside}

-- what passes leave of a table: a table of ranges inside it, with the same range at each unit in no group
pub record After (groups : List Group) (next table : Table) : Type 0 where
  pub inside : Inside next table
  pub valid : Valid next
  pub untouched : (unit : ℕ) → Apart groups unit
      → (low_of next unit ≡ low_of table unit) × (high_of next unit ≡ high_of table unit)

-- the greatest consistent table inside a table
pub record Greatest (groups : List Group) (table final : Table) : Type 0 where
  pub after : After groups final table
  pub consistent : Consistent groups final
  pub holds : (inner : Table) → Consistent groups inner → Inside inner table → Inside inner final
