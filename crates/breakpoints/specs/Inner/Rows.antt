-- A row of a breakpoint table in a list of numbers. Assumes nothing.
use Rattle.std.specs.Prelude.{ℕ, ◌+◌, ◌-◌, ◌*◌, ◌/◌, List, ◌≢◌, ◌≡◌, length, get_or}
use Rattle.breakpoints.specs.declared.rows.Row.{Row}
use Rattle.breakpoints.specs.declared.rows.PairRow.{PairRow}

-- row k of a table
unfoldable pub row_at : List ℕ → ℕ → Row
row_at table k = record {
  mark = get_or table (7 * k) 0;
  total = get_or table (7 * k + 1) 0;
  squares = get_or table (7 * k + 2) 0;
  lows = get_or table (7 * k + 3) 0;
  highs = get_or table (7 * k + 4) 0;
}

-- the two numbers behind them
unfoldable pub pair_row_at : List ℕ → ℕ → PairRow
pair_row_at table k = record { far = get_or table (7 * k + 5) 0; pairs = get_or table (7 * k + 6) 0 }

-- the last row of a table, which has room for its rows and no more
unfoldable pub last_row : List ℕ → ℕ
last_row table = length table / 7 - 1

-- row k is written, and every other row is as it was
pub record RowWritten (k : ℕ) (row : Row) (before after : List ℕ) : Type 0 where
  pub same : length after ≡ length before
  pub here : row_at after k ≡ row
  pub others : (j : ℕ) → j ≢ k → row_at after j ≡ row_at before j

-- the two numbers behind row k are written, and all else is as it was
pub record PairRowWritten (k : ℕ) (row : PairRow) (before after : List ℕ) : Type 0 where
  pub same : length after ≡ length before
  pub rows : (j : ℕ) → row_at after j ≡ row_at before j
  pub here : pair_row_at after k ≡ row
  pub others : (j : ℕ) → j ≢ k → pair_row_at after j ≡ pair_row_at before j
