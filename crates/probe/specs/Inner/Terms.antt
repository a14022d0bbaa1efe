-- The numbers that the trials of a turn compare with. Assumes nothing.
use Rattle.std.specs.Prelude.{ℕ, ◌-◌, ◌*◌, ◌≤◌, List, ◌≡◌, leb, length}
use Rattle.model.specs.Shares.{sum_of, most_units}
use Rattle.model.specs.Figures.{allows}
use Rattle.model.specs.declared.Limit.{Limit}
use Rattle.model.specs.declared.Limits.{Limits}
use Rattle.probe.specs.declared.terms.Terms.{Terms}
use Rattle.breakpoints.specs.Inner.Distances.{most_pairs}
use Rattle.breakpoints.specs.Inner.Rows.{last_row}
use Rattle.probe.specs.Inner.Sides.{above_mean, below_mean, greatest_half}
use Rattle.breakpoints.specs.Inner.Tables.{greatest_part}

-- what lies above the mean is at most this exactly where the limit allows the deviation, twice as much
pub record HalfAllowed (limit : Limit) (half : ℕ) : Type 0 where
  pub is : (h : ℕ) → h ≤ greatest_half → leb h half ≡ allows limit (2 * h)

-- a sum of squares of n shares with the total is at most this exactly where the limit allows the spread
pub record SquaresAllowed (limit : Limit) (n total squares : ℕ) : Type 0 where
  pub is : (q : ℕ) → q ≤ most_units * greatest_part → total * total ≤ n * q → leb q squares ≡ allows limit (n * q - total * total)

-- pair differences are at most this exactly where the limit allows them
pub record PairsAllowed (limit : Limit) (most : ℕ) : Type 0 where
  pub is : (p : ℕ) → p ≤ most_pairs → leb p most ≡ allows limit p

-- the terms are those of a group: its members, the last row of its table, and the parts of its bounds on both sides of the mean
pub record GroupTerms (lows highs table : List ℕ) (terms : Terms) : Type 0 where
  pub counted : terms.count ≡ length lows
  pub ended : terms.last ≡ last_row table
  pub lows_above : terms.above ≡ sum_of (above_mean terms.count terms.total) lows
  pub highs_below : terms.below ≡ sum_of (below_mean terms.count terms.total) highs

-- and those of limits
pub record LimitTerms (limits : Limits) (terms : Terms) : Type 0 where
  pub halves : HalfAllowed limits.deviation terms.half
  pub squares : SquaresAllowed limits.spread terms.count terms.total terms.squares
  pub pairs : PairsAllowed limits.pairs terms.pairs

-- the terms of a group with a total and limits
pub record Termed (lows highs table : List ℕ) (total : ℕ) (limits : Limits) (terms : Terms) : Type 0 where
  pub totals : terms.total ≡ total
  pub group : GroupTerms lows highs table terms
  pub allowed : LimitTerms limits terms
