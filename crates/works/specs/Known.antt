-- The known shares of 01, of groups and of jobs: one list of cases, and the check that computes over it. Assumes nothing.
use Rattle.std.specs.Prelude.{ℕ, Bool, true, false, ◌&&◌, List, [], ◌∷◌, ◌++◌, map, eqb}
use Rattle.model.specs.Groups.{Group}
use Rattle.model.specs.Known.{Known, known, is_known, limits_of}
use Rattle.model.specs.declared.Limit.TheVariants.{Any, AtMost}
use Rattle.works.specs.Settling.{Outcome, settle}
use Rattle.member_ranges.specs.Tables.{Table, same_table}

-- what 01 says of a group, or of a job and its opening table
pub data KnownJob : Type 0 where
  group : Known → KnownJob
  job : List Group → Table → Outcome → KnownJob

abbrev pub same_outcome : Outcome → Outcome → Bool
same_outcome (Outcome.settled a p) (Outcome.settled b q) = same_table a b && eqb p q
same_outcome (Outcome.settled a p) (Outcome.refused n k q) = false
same_outcome (Outcome.refused n k p) (Outcome.settled b q) = false
same_outcome (Outcome.refused m j p) (Outcome.refused n k q) = eqb m n && (eqb j k && eqb p q)

unfoldable pub holds_job : KnownJob → Bool
holds_job (KnownJob.group known) = is_known known
holds_job (KnownJob.job groups table outcome) = same_outcome (settle groups table) outcome

unfoldable pub all_jobs : List KnownJob → Bool
all_jobs [] = true
all_jobs (k ∷ ks) = holds_job k && all_jobs ks

-- a pair of units with total 1, limits any
abbrev pub pair : ℕ → ℕ → Group
pair a b = record { total = 1; limits = limits_of Any Any Any; pairs_there = false; members = a ∷ b ∷ [] }

-- 01: "Three units of [0,1], each pair a group with S 1, limits any"
unfoldable pub three_pairs : List Group
three_pairs = pair 0 1 ∷ pair 0 2 ∷ pair 1 2 ∷ []

unfoldable pub pair_table : Table
pair_table = record { lows = 0 ∷ 0 ∷ 0 ∷ []; highs = 1 ∷ 1 ∷ 1 ∷ [] }

-- 01's example of a job text
unfoldable pub example : List Group
example =
    record { total = 10; limits = limits_of (AtMost 4) Any Any; pairs_there = false; members = 0 ∷ 1 ∷ [] }
    ∷ record { total = 8; limits = limits_of Any (AtMost 4) Any; pairs_there = false; members = 1 ∷ 2 ∷ [] }
    ∷ []

-- the same with limits on the pair differences alone
unfoldable pub example_pairs : List Group
example_pairs =
    record { total = 10; limits = limits_of Any Any (AtMost 2); pairs_there = true; members = 0 ∷ 1 ∷ [] }
    ∷ record { total = 8; limits = limits_of Any Any (AtMost 2); pairs_there = true; members = 1 ∷ 2 ∷ [] }
    ∷ []

unfoldable pub example_table : Table
example_table = record { lows = 0 ∷ 0 ∷ 0 ∷ []; highs = 10 ∷ 10 ∷ 10 ∷ [] }

unfoldable pub known_jobs : List KnownJob
known_jobs =
    map KnownJob.group known
    ++ KnownJob.job three_pairs pair_table (Outcome.settled pair_table 1)
    ∷ KnownJob.job example example_table (Outcome.settled (record { lows = 5 ∷ 4 ∷ 3 ∷ []; highs = 6 ∷ 5 ∷ 4 ∷ [] }) 3)
    ∷ KnownJob.job example_pairs example_table (Outcome.settled (record { lows = 5 ∷ 4 ∷ 3 ∷ []; highs = 6 ∷ 5 ∷ 4 ∷ [] }) 3)
    ∷ []
