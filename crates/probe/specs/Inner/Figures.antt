-- The sum of squares of the pinned group at the level reached, from a row's. Assumes nothing.
use Rattle.std.specs.Prelude.{ℕ, suc, ◌+◌, ◌*◌, ◌≤◌, ◌≡◌}
use Rattle.model.specs.Shares.{greatest_share, greatest_total, most_units}
use Rattle.probe.specs.declared.pinned.Reach.{Reach}
use Rattle.breakpoints.specs.declared.rows.Row.{Row}
use Rattle.breakpoints.specs.Inner.Tables.{greatest_part, square}

-- a row's squares with v's in place of the member's own, and what they rise by from the row's level to the one reached
pub record MovedSquares (row : Row) (own v : ℕ) (reach : Reach) (r : ℕ) : Type 0 where
  pub is : r + square own
      ≡ row.squares + square v + (reach.copies * (2 * row.mark + reach.each) + reach.over * suc reach.each)

-- it can be computed
pub record Summable (row : Row) (own v : ℕ) (reach : Reach) : Type 0 where
  pub stored_small : row.squares ≤ most_units * greatest_part
  pub mark_share : row.mark ≤ greatest_share
  pub own_share : own ≤ greatest_share
  pub value_share : v ≤ greatest_share
  pub copies_small : reach.copies ≤ greatest_total
  pub each_share : reach.each ≤ greatest_share
  pub over_few : reach.over ≤ most_units
  pub fits : square own ≤ row.squares + square v
