-- The unit numbers of a group line. Assumes nothing.
use Rattle.std.specs.Prelude.{ℕ, ◌-◌, Bool, true, ◌&&◌, List, [], ◌∷◌, leb}

-- a unit number from 1 to the count
abbrev pub named : ℕ → ℕ → Bool
named units m = leb 1 m && leb m units

-- every number is a unit's
unfoldable pub all_named : ℕ → List ℕ → Bool
all_named units [] = true
all_named units (m ∷ ms) = named units m && all_named units ms

-- a member is the unit's number less 1
abbrev pub member_of : ℕ → ℕ
member_of m = m - 1
