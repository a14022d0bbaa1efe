-- Lists that are sound, and shares that exist in them. Assumes nothing.
use Rattle.std.specs.Prelude.{ℕ, ◌≤◌, List, ◌≡◌, length}
use Rattle.model.specs.Shares.{Ranges, sum, most_units}

-- ranges of at most 256 members; the total is any number, while SoundWithTotal of crate breakpoints bounds it too
pub record SoundRanges (lows highs : List ℕ) : Type 0 where
  pub ranges : Ranges lows highs
  pub paired : length highs ≡ length lows
  pub few : length lows ≤ most_units

-- sound ranges with room for the total: shares that have it exist
pub record HasShares (lows highs : List ℕ) (total : ℕ) : Type 0 where
  pub sound : SoundRanges lows highs
  pub low : sum lows ≤ total
  pub high : total ≤ sum highs
