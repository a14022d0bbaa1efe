-- Where pairs are limited: what the rows of a table have beside their sums. Assumes nothing.
use Rattle.std.specs.Prelude.{ℕ, suc, ◌+◌, ◌-◌, ◌*◌, ◌≤◌, ◌<◌, min, List, ◌≡◌, length}
use Rattle.model.specs.Shares.{greatest_share, greatest_total, sum_of, most_units}
use Rattle.model.specs.Figures.{apart, pairs}
use Rattle.model.specs.Levels.{clamped}
use Rattle.breakpoints.specs.declared.distances.Distances.{Distances}
use Rattle.breakpoints.specs.declared.rows.PairRow.{PairRow}
use Rattle.breakpoints.specs.declared.rows.Row.{Row}
use Rattle.breakpoints.specs.Inner.Rows.{row_at, pair_row_at, last_row}
use Rattle.breakpoints.specs.Inner.Tables.{itself}

-- no pair differences of a group's shares are greater than this
abbrev pub most_pairs : ℕ
most_pairs = most_units * greatest_total

-- 1 for a share above a level, else 0
abbrev pub above_level : ℕ → ℕ → ℕ
above_level w x = min 1 (x - w)

-- how far the shares at a level are from it in all, and their pair differences
pub record PairSums (lows highs : List ℕ) (m : ℕ) (row : PairRow) : Type 0 where
  pub far : row.far ≡ sum_of (apart m) (clamped lows highs m)
  pub pairs : row.pairs ≡ pairs (clamped lows highs m)

-- of all lows, a are at most m, and the others are at least w
pub record LowsPassed (lows : List ℕ) (m w a : ℕ) : Type 0 where
  pub few : a ≤ length lows
  pub sums : (x : ℕ) → m ≤ x → x ≤ w → sum_of (λ l. l - m) lows + a * (x - m) ≡ sum_of (λ l. l - x) lows + length lows * (x - m)

-- each row of a table counts the lows of all members, and has its two further numbers
pub record Paired (lows highs table : List ℕ) : Type 0 where
  pub rows : (k : ℕ) → k ≤ last_row table → PairSums lows highs (row_at table k).mark (pair_row_at table k)
  pub passed : (k : ℕ) → k < last_row table → LowsPassed lows (row_at table k).mark (row_at table (suc k)).mark (row_at table k).lows
  pub last : LowsPassed lows (row_at table (last_row table)).mark (suc greatest_share) (row_at table (last_row table)).lows

-- a level, T, the distances and the pair differences there
pub record DistancesAt (lows highs : List ℕ) (level : ℕ) (at : Distances) : Type 0 where
  pub is : at.level ≡ level
  pub totals : at.total ≡ sum_of itself (clamped lows highs level)
  pub fars : at.far ≡ sum_of (apart level) (clamped lows highs level)
  pub differ : at.pairs ≡ pairs (clamped lows highs level)

-- they come of a row's
pub record DistancesMoved (count : ℕ) (row : Row) (apart : PairRow) (level : ℕ) (at : Distances) : Type 0 where
  pub is : at.level ≡ level
  pub totals : at.total ≡ row.total + (row.lows * (level - row.mark) - row.highs * (level - row.mark))
  pub fars : at.far + count * (level - row.mark) ≡ apart.far + (row.lows + row.highs) * (level - row.mark)
  pub differ : at.pairs + (row.lows * (level - row.mark) - row.highs * (level - row.mark)) * count
      ≡ apart.pairs + (row.lows * (level - row.mark) - row.highs * (level - row.mark)) * (row.lows + row.highs)

-- and can be computed
pub record DistancesMovable (count : ℕ) (row : Row) (apart : PairRow) (level : ℕ) : Type 0 where
  pub few : count ≤ most_units
  pub few_lows : row.lows ≤ count
  pub few_highs : row.highs ≤ count
  pub up : row.mark ≤ level
  pub share : level ≤ greatest_share
  pub total_small : row.total ≤ greatest_total
  pub far_small : apart.far ≤ greatest_total
  pub pairs_small : apart.pairs ≤ most_pairs
  pub rises : row.highs * (level - row.mark) ≤ row.lows * (level - row.mark)
  pub far_fits : count * (level - row.mark) ≤ apart.far + (row.lows + row.highs) * (level - row.mark)
  pub pairs_fit : (row.lows * (level - row.mark) - row.highs * (level - row.mark)) * count
      ≤ apart.pairs + (row.lows * (level - row.mark) - row.highs * (level - row.mark)) * (row.lows + row.highs)

-- the row whose level is the last one at or below x; where two rows have x for their level, either
pub record MarkedBelow (table : List ℕ) (last x k : ℕ) : Type 0 where
  pub up_to : k ≤ last
  pub from : (row_at table k).mark ≤ x
  pub next : k < last → x ≤ (row_at table (suc k)).mark

-- every row is in the table, and the first one's level is 0
pub record MarksKept (table : List ℕ) (last : ℕ) : Type 0 where
  pub room : 7 * last + 7 ≤ length table
  pub few : last ≤ 2 * most_units
  pub first : (row_at table 0).mark ≡ 0
