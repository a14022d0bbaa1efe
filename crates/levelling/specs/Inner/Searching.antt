-- Between which levels a group's level is looked for. Assumes nothing.
use Rattle.std.specs.Prelude.{ℕ, suc, ◌≤◌, ◌<◌, List}
use Rattle.model.specs.Shares.{greatest_share}
use Rattle.model.specs.Levels.{total_at}
use Rattle.model.specs.Sound.{SoundRanges}

-- the level of sound ranges is from v to below top
pub record LevelBetween (lows highs : List ℕ) (total v top : ℕ) : Type 0 where
  pub sound : SoundRanges lows highs
  pub apart : v < top
  pub share : top ≤ suc greatest_share
  pub holds : total_at lows highs v ≤ total
  pub fails : top ≤ greatest_share → total < total_at lows highs top
