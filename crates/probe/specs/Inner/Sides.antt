-- Half of a pinned group's deviation as its part on one side of the mean. Assumes nothing.
use Rattle.std.specs.Prelude.{ℕ, suc, ◌+◌, ◌-◌, ◌*◌, ◌≤◌, ◌<◌, List, ◌≡◌, length}
use Rattle.model.specs.Shares.{greatest_share, sum_of, most_units}
use Rattle.probe.specs.declared.pinned.Reach.{Reach}
use Rattle.probe.specs.declared.pinned.Trial.{Trial}
use Rattle.probe.specs.declared.sides.Sides.{Sides}
use Rattle.probe.specs.declared.terms.Terms.{Terms}
use Rattle.breakpoints.specs.Inner.Tables.{greatest_part}

-- a share's part above the mean, and its part below
abbrev pub above_mean : ℕ → ℕ → ℕ → ℕ
above_mean n total x = n * x - total

abbrev pub below_mean : ℕ → ℕ → ℕ → ℕ
below_mean n total x = total - n * x

-- no half of a deviation is greater than this
abbrev pub greatest_half : ℕ
greatest_half = 4 * (most_units * greatest_part)

-- the lows' parts above the mean, and the highs' below it
pub record BothSides (lows highs : List ℕ) (total : ℕ) (sides : Sides) : Type 0 where
  pub lows_above : sides.above ≡ sum_of (above_mean (length lows) total) lows
  pub highs_below : sides.below ≡ sum_of (below_mean (length lows) total) highs

-- with the value's part in place of the member's own: of the highs where the level is at the mean or above, else of the lows
pub record Halved (terms : Terms) (trial : Trial) (reach : Reach) (r : ℕ) : Type 0 where
  pub high : terms.total ≤ terms.count * reach.level
      → r + below_mean terms.count terms.total trial.high ≡ terms.below + below_mean terms.count terms.total trial.value
  pub low : terms.count * reach.level < terms.total
      → r + above_mean terms.count terms.total trial.low
      ≡ terms.above + (above_mean terms.count terms.total trial.value + reach.over * above_mean terms.count terms.total (suc reach.level))
  pub small : r ≤ greatest_half

-- it can be computed
pub record Halving (terms : Terms) (trial : Trial) (reach : Reach) : Type 0 where
  pub above_small : terms.above ≤ most_units * greatest_part
  pub below_small : terms.below ≤ most_units * greatest_part
  pub low_share : trial.low ≤ greatest_share
  pub high_share : trial.high ≤ greatest_share
  pub value_share : trial.value ≤ greatest_share
  pub level_share : reach.level ≤ greatest_share
  pub over_few : reach.over ≤ most_units
  pub high_fits : terms.total ≤ terms.count * reach.level
      → below_mean terms.count terms.total trial.high ≤ terms.below + below_mean terms.count terms.total trial.value
  pub low_fits : terms.count * reach.level < terms.total
      → above_mean terms.count terms.total trial.low ≤ terms.above + above_mean terms.count terms.total trial.value
