-- The members of groups. Assumes nothing.
use Rattle.std.specs.Prelude.{ℕ, ◌+◌, ◌<◌, false, List, [], ◌∷◌, ◌≡◌, length, get_or}
use Rattle.model.specs.Groups.{Group}
use Rattle.model.specs.declared.Limit.TheVariants.{Any}

-- 01: memberships, "the sum of the groups' n"
unfoldable pub memberships : List Group → ℕ
memberships [] = 0
memberships (g ∷ gs) = length g.members + memberships gs

-- the number of members, and the unit of member k, counted from 0
abbrev pub size : Group → ℕ
size group = length group.members

abbrev pub unit_of : Group → ℕ → ℕ
unit_of group k = get_or group.members k 0

-- 01: "A group names n different units", each one of the job's; 02: of its members some may run, or none
pub record SoundMembers (count : ℕ) (group : Group) : Type 0 where
  pub below : (k : ℕ) → k < size group → unit_of group k < count
  pub different : (j k : ℕ) → j < size group → k < size group → unit_of group j ≡ unit_of group k → j ≡ k

-- 01: at least one of them
pub record SoundGroup (count : ℕ) (group : Group) : Type 0 where
  pub some : 0 < size group
  pub named : SoundMembers count group

-- 02: without a pairs limit "the limit is any"
abbrev pub UnsaidAny : Group → Type 0
UnsaidAny group = group.pairs_there ≡ false → group.limits.pairs ≡ Any
