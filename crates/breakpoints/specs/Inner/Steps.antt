-- The rows that are written one after another, on the way up the rising bounds. Assumes nothing.
use Rattle.std.specs.Prelude.{ℕ, suc, ◌+◌, ◌<◌, List, ◌≡◌, length}
use Rattle.model.specs.Shares.{greatest_share}
use Rattle.breakpoints.specs.declared.rows.Row.{Row}
use Rattle.breakpoints.specs.Inner.Rows.{row_at, last_row}
use Rattle.breakpoints.specs.Inner.Kept.{Kept}
use Rattle.model.specs.Inner.Orders.{Ordered}
use Rattle.breakpoints.specs.Inner.Spans.{Parted}
use Rattle.breakpoints.specs.Inner.Tables.{Sums, SpanTo}

-- the bounds of the members with several values in rising order
pub record Risen (lows highs starts stops : List ℕ) : Type 0 where
  pub kept_lows : List ℕ
  pub kept_highs : List ℕ
  pub kept : Kept lows highs kept_lows kept_highs
  pub starts_from : Ordered (length kept_lows) kept_lows starts
  pub stops_from : Ordered (length kept_highs) kept_highs stops

-- a row reached on the way up
pub record RowReached (lows highs starts stops : List ℕ) (row : Row) : Type 0 where
  pub sums : Sums lows highs row
  pub parted_lows : Parted row.mark row.mark row.lows starts
  pub parted_highs : Parted row.mark row.mark row.highs stops

-- the row for the next bound
pub record NextRow (lows highs starts stops : List ℕ) (row after : Row) : Type 0 where
  pub span : SpanTo lows highs row after.mark
  pub passed : Parted row.mark after.mark row.lows starts
  pub walk : RowReached lows highs starts stops after
  pub counted : after.lows + after.highs ≡ suc (row.lows + row.highs)

-- each row counts the lows up to its level, and none follows before the next row's
pub record Passed (starts table : List ℕ) : Type 0 where
  pub up : (k : ℕ) → k < last_row table → Parted (row_at table k).mark (row_at table (suc k)).mark (row_at table k).lows starts
  pub last : Parted (row_at table (last_row table)).mark (suc greatest_share) (row_at table (last_row table)).lows starts

-- the row for level 0
pub record Begun (lows highs : List ℕ) (row : Row) : Type 0 where
  pub sums : Sums lows highs row
  pub at : row.mark ≡ 0
  pub no_lows : row.lows ≡ 0
  pub no_highs : row.highs ≡ 0
