-- The pair differences of a pinned group at the level that its total reaches. Assumes nothing.
use Rattle.std.specs.Prelude.{ℕ, suc, ◌+◌, ◌-◌, ◌*◌, ◌≤◌, ◌<◌, List, ◌≡◌}
use Rattle.model.specs.Shares.{most_units}
use Rattle.model.specs.Figures.{pairs}
use Rattle.model.specs.Levels.{clamp, clamped}
use Rattle.model.specs.Ways.{topped}
use Rattle.probe.specs.declared.pairs.LevelSpot.{LevelSpot}
use Rattle.probe.specs.declared.terms.Terms.{Terms}
use Rattle.breakpoints.specs.Inner.Distances.{most_pairs, above_level, MarkedBelow}
use Rattle.probe.specs.Inner.Pinned.{Pin, Reached}
use Rattle.breakpoints.specs.Inner.Rows.{row_at}
use Rattle.probe.specs.Inner.Verdicts.{Asked}

-- the pair differences at a level of all ranges with the value
pub record WithValue (lows highs : List ℕ) (low high v w r : ℕ) : Type 0 where
  pub is : {lows' highs' : List ℕ} → Pin lows highs low high v lows' highs' → r ≡ pairs (clamped lows' highs' w)

-- the shares above a level, as so many lows are passed there: with the value in place of the member's own share
abbrev pub shares_above : ℕ → ℕ → ℕ → ℕ → ℕ → ℕ → ℕ
shares_above count passed low high v w = count + above_level w v - (passed + above_level w (clamp low high w))

-- the copies left over are given out
pub record WithOver (count passed low high v w over before r : ℕ) : Type 0 where
  pub is : r + over * (over + 2 * shares_above count passed low high v w) ≡ before + over * count

-- which can be computed
pub record OverGiven (count passed low high v w over before : ℕ) : Type 0 where
  pub few : count ≤ most_units
  pub few_passed : passed ≤ count
  pub ordered : low ≤ high
  pub few_over : over ≤ most_units
  pub small : before ≤ most_pairs
  pub above : passed + above_level w (clamp low high w) ≤ count + above_level w v
  pub fits : over * (over + 2 * shares_above count passed low high v w) ≤ before + over * count

-- a level lies below the next row's, and further below where copies are left over
pub record SpotBelow (table : List ℕ) (last k level over : ℕ) : Type 0 where
  pub below : MarkedBelow table last level k
  pub inside : 0 < over → (k < last) × (suc level ≤ (row_at table (suc k)).mark)
  pub few : over ≤ most_units

-- the level that the total reaches in some ranges
pub record ReachedAt (lows highs : List ℕ) (total w r : ℕ) : Type 0 where
  pub mark : ℕ
  pub moving : ℕ
  pub reached : Reached lows highs total mark moving w r

-- and in all ranges with the value
pub record Spotted (lows highs table : List ℕ) (terms : Terms) (low high v : ℕ) (spot : LevelSpot) : Type 0 where
  pub asked : Asked lows highs low high v
  pub under : SpotBelow table terms.last spot.row spot.level spot.over
  pub reached : {lows' highs' : List ℕ} → Pin lows highs low high v lows' highs' → ReachedAt lows' highs' terms.total spot.level spot.over

-- the pair differences of the shares there
pub record PinnedPairs (lows highs : List ℕ) (low high v w over r : ℕ) : Type 0 where
  pub is : {lows' highs' : List ℕ} → Pin lows highs low high v lows' highs' → r ≡ pairs (topped lows' highs' w over)
