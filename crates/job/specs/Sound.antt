-- What an accepted job satisfies. Assumes nothing.
use Rattle.std.specs.Prelude.{ℕ, ◌≤◌, true, List, [], ◌∷◌, ◌≡◌, length}
use Rattle.model.specs.Figures.{greatest_deviation, greatest_spread, greatest_pairs, limit_within}
use Rattle.model.specs.Shares.{Ranges, greatest_total, most_units}
use Rattle.model.specs.Running.{Marked}
use Rattle.model.specs.Groups.{Group}
use Rattle.groups.specs.Memberships.{memberships, SoundGroup, UnsaidAny}
use Rattle.job.specs.Job.{Job, most_groups, most_memberships}

-- 01: a sound group, with a total and limits in range
pub record AcceptedGroup (units : ℕ) (g : Group) : Type 0 where
  pub total_fits : g.total ≤ greatest_total
  pub deviation_fits : limit_within g.limits.deviation greatest_deviation ≡ true
  pub spread_fits : limit_within g.limits.spread greatest_spread ≡ true
  pub pairs_fits : limit_within g.limits.pairs greatest_pairs ≡ true
  pub unsaid_any : UnsaidAny g
  pub sound : SoundGroup units g

-- every group is so
pub data AcceptedGroups (units : ℕ) : List Group → Type 0 where
  none : AcceptedGroups units []
  also : {g : Group} {gs : List Group} → AcceptedGroup units g → AcceptedGroups units gs → AcceptedGroups units (g ∷ gs)

-- the job of some lines, units or not
pub record Built (job : Job) : Type 0 where
  pub ranges : Ranges job.lows job.highs
  pub marked : Marked job.marks job.lows job.highs
  pub few_units : length job.lows ≤ most_units
  pub few_groups : length job.groups ≤ most_groups
  pub few_memberships : memberships job.groups ≤ most_memberships
  pub groups_sound : AcceptedGroups (length job.lows) job.groups

-- 01: "A job has 1 to 256 units, 0 to 64 groups and at most 4,096 memberships"
pub record SoundJob (job : Job) : Type 0 where
  pub some_unit : 1 ≤ length job.lows
  pub built : Built job
