-- The groups of a job and the marks of its units as one flat list of numbers: how they are written, and how they are read. Assumes nothing.
use Rattle.std.specs.Prelude.{ℕ, zero, suc, ◌+◌, ◌*◌, ◌≤◌, Bool, true, false, not, List, [], ◌∷◌, ◌++◌, eqb, length, get_or, take, drop}
use Rattle.model.specs.Groups.{Group}
use Rattle.model.specs.declared.Limit.{Limit}
use Rattle.model.specs.declared.Limit.TheVariants.{Any, AtMost}
use Rattle.model.specs.declared.Limits.{Limits}
use Rattle.groups.specs.declared.Stored.{Stored}

-- the number that a limit is stored as: 0 for any, 1 more than the limit otherwise
abbrev pub limit_code : Limit → ℕ
limit_code Any = 0
limit_code (AtMost most) = most + 1

-- the greatest number of 64 bits
abbrev pub most_word : ℕ
most_word = 18_446_744_073_709_551_615

-- a limit's number fits 64 bits
abbrev pub Coded : Limit → Type 0
Coded limit = limit_code limit ≤ most_word

-- the limit that a number stands for
abbrev pub limit_of : ℕ → Limit
limit_of zero = Any
limit_of (suc most) = AtMost most

-- the number that a pairs limit is stored as: 0 where it was not there, 1 more than any limit's number otherwise
abbrev pub pairs_code : Bool → Limit → ℕ
pairs_code false limit = 0
pairs_code true limit = limit_code limit + 1

-- it fits 64 bits
abbrev pub PairsCoded : Limit → Type 0
PairsCoded limit = limit_code limit + 1 ≤ most_word

-- the pairs limit that a number stands for; 02: "without it the limit is any"
abbrev pub pairs_of : ℕ → Limit
pairs_of zero = Any
pairs_of (suc code) = limit_of code

-- so many numbers stand in front of a group's members
abbrev pub head_length : ℕ
head_length = 5

-- the numbers in front of a group's members: total, deviation limit, spread limit, pairs limit, number of members
abbrev pub head_of : ℕ → Limits → Bool → ℕ → List ℕ
head_of total limits pairs_there count =
    total ∷ limit_code limits.deviation ∷ limit_code limits.spread ∷ pairs_code pairs_there limits.pairs ∷ count ∷ []

-- a group's numbers
abbrev pub flat_group : Group → List ℕ
flat_group g = head_of g.total g.limits g.pairs_there (length g.members) ++ g.members

-- the groups one after another
unfoldable pub flatten : List Group → List ℕ
flatten [] = []
flatten (g ∷ gs) = flat_group g ++ flatten gs

-- the numbers that so many groups with so many memberships take
abbrev pub flat_length : ℕ → ℕ → ℕ
flat_length groups taken = groups * head_length + taken

-- the most: 64 groups with 4,096 memberships; behind them begin the marks of the units
abbrev pub marks_from : ℕ
marks_from = 4416

-- with the marks of 256 units
abbrev pub most_flat : ℕ
most_flat = 4672

-- 02: the marks of so many units, "0 running, 1 shut"
abbrev pub marks_in : ℕ → List ℕ → List ℕ
marks_in units flat = take units (drop marks_from flat)

-- the limits of the group at an index
abbrev pub limits_at : List ℕ → ℕ → Limits
limits_at flat at =
    record { deviation = limit_of (get_or flat (at + 1) 0); spread = limit_of (get_or flat (at + 2) 0); pairs = pairs_of (get_or flat (at + 3) 0) }

-- what stands at an index: a group's total and limits, whether a pairs limit was there, where its members begin, how many they are, where the
-- next group starts
abbrev pub stored_at : List ℕ → ℕ → Stored
stored_at flat at = record {
  total = get_or flat at 0;
  limits = limits_at flat at;
  pairs_there = not (eqb (get_or flat (at + 3) 0) 0);
  from = at + head_length;
  count = get_or flat (at + 4) 0;
  next = at + head_length + get_or flat (at + 4) 0;
}

-- it lies whole in the list
abbrev pub WholeAt : List ℕ → ℕ → Type 0
WholeAt flat at = at + head_length + get_or flat (at + 4) 0 ≤ length flat

-- the group with its members
abbrev pub group_in : List ℕ → Stored → Group
group_in flat stored =
    record {
      total = stored.total;
      limits = stored.limits;
      pairs_there = stored.pairs_there;
      members = take stored.count (drop stored.from flat);
    }

-- so many groups from an index on
unfoldable pub groups_from : ℕ → ℕ → List ℕ → List Group
groups_from zero at flat = []
groups_from (suc count) at flat = group_in flat (stored_at flat at) ∷ groups_from count (stored_at flat at).next flat

-- the first groups, so many
abbrev pub groups_in : ℕ → List ℕ → List Group
groups_in count flat = groups_from count 0 flat

-- the list holds so many groups whole from an index on
pub data HoldsFrom : ℕ → ℕ → List ℕ → Type 0 where
  none : {at : ℕ} {flat : List ℕ} → HoldsFrom 0 at flat
  also : {count at : ℕ} {flat : List ℕ} → WholeAt flat at → HoldsFrom count (stored_at flat at).next flat → HoldsFrom (suc count) at flat

-- it holds so many groups whole
abbrev pub Holds : ℕ → List ℕ → Type 0
Holds count flat = HoldsFrom count 0 flat
