-- The breakpoint table of a group: what its rows hold. Assumes nothing.
use Rattle.std.specs.Prelude.{ℕ, suc, ◌+◌, ◌*◌, ◌≤◌, ◌<◌, List, ◌≡◌, length}
use Rattle.model.specs.Shares.{Ranges, greatest_share, greatest_total, sum_of, most_units}
use Rattle.model.specs.Levels.{clamped}
use Rattle.breakpoints.specs.declared.rows.Row.{Row}
use Rattle.breakpoints.specs.Inner.Rows.{row_at, last_row}
use Rattle.breakpoints.specs.Inner.Spans.{Span}

-- 01: a group of at most 256 units, with a total of at most 256,000,000
pub record SoundWithTotal (lows highs : List ℕ) (total : ℕ) : Type 0 where
  pub ranges : Ranges lows highs
  pub paired : length highs ≡ length lows
  pub few : length lows ≤ most_units
  pub small : total ≤ greatest_total

-- a share's part of T and of the sum of squares
abbrev pub itself : ℕ → ℕ
itself x = x

abbrev pub square : ℕ → ℕ
square x = x * x

-- each row's level is a share, its sums are those of the shares there, and it counts bounds of the group
pub record Sums (lows highs : List ℕ) (row : Row) : Type 0 where
  pub share : row.mark ≤ greatest_share
  pub totals : row.total ≡ sum_of itself (clamped lows highs row.mark)
  pub squares : row.squares ≡ sum_of square (clamped lows highs row.mark)
  pub few_lows : row.lows ≤ length lows
  pub few_highs : row.highs ≤ length lows

-- no bound lies between a row's level and w
abbrev pub SpanTo : List ℕ → List ℕ → Row → ℕ → Type 0
SpanTo lows highs row w = Span lows highs row.mark w row.lows row.highs

-- the breakpoint table of a group: a row for level 0 and one for each bound of the members with several values, rising
pub record Breakpoints (lows highs table : List ℕ) : Type 0 where
  pub room : 7 * last_row table + 7 ≤ length table
  pub few : last_row table ≤ 2 * length lows
  pub first : (row_at table 0).mark ≡ 0
  pub sums : (k : ℕ) → k ≤ last_row table → Sums lows highs (row_at table k)
  pub spans : (k : ℕ) → k < last_row table → SpanTo lows highs (row_at table k) (row_at table (suc k)).mark
  pub last : SpanTo lows highs (row_at table (last_row table)) (suc greatest_share)
  pub all : (row_at table (last_row table)).lows ≡ (row_at table (last_row table)).highs

-- no part of a share, or of one more than a share, is greater than this
abbrev pub greatest_part : ℕ
greatest_part = 2_000_000_000_000

-- a row moved to a further level
pub record RowMoved (lows highs : List ℕ) (row : Row) (mark : ℕ) (after : Row) : Type 0 where
  pub sums : Sums lows highs after
  pub at : after.mark ≡ mark
  pub same_lows : after.lows ≡ row.lows
  pub same_highs : after.highs ≡ row.highs
