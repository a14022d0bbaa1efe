-- What a probe asks of the table and finds there. Assumes nothing.
use Rattle.std.specs.Prelude.{ℕ, suc, ◌+◌, ◌-◌, ◌*◌, ◌≤◌, ◌<◌, List, ◌≡◌, length, get_or}
use Rattle.model.specs.Levels.{clamp, growth}
use Rattle.breakpoints.specs.declared.rows.Row.{Row}
use Rattle.probe.specs.declared.pinned.Reach.{Reach}
use Rattle.breakpoints.specs.Inner.Rows.{row_at, last_row}
use Rattle.breakpoints.specs.Inner.Tables.{greatest_part}

-- T at a row's level of the group with v in place of a member's own
unfoldable pub pinned_total : Row → ℕ → ℕ → ℕ → ℕ
pinned_total row low high v = row.total + v - clamp low high row.mark

-- it can be computed
pub record Pinnable (row : Row) (low high v : ℕ) : Type 0 where
  pub ordered : low ≤ high
  pub small : row.total + v ≤ 512 * greatest_part
  pub under : clamp low high row.mark ≤ row.total + v

-- and so at every row of a table
pub record Probeable (table : List ℕ) (last low high v : ℕ) : Type 0 where
  pub few : last ≤ 512
  pub room : 7 * last + 7 ≤ length table
  pub rows : (k : ℕ) → k ≤ last → Pinnable (row_at table k) low high v

-- a row with T at most the total, whose next row has at least the total
pub record LastWithin (table : List ℕ) (last low high v total k : ℕ) : Type 0 where
  pub up_to : k ≤ last
  pub holds : pinned_total (row_at table k) low high v ≤ total
  pub next : k < last → total ≤ pinned_total (row_at table (suc k)) low high v

-- the other members can make up for v
pub record InReach (table : List ℕ) (last low high v total : ℕ) : Type 0 where
  pub least : pinned_total (row_at table 0) low high v ≤ total
  pub greatest : total ≤ pinned_total (row_at table last) low high v

-- the same for a value of member i of a group, whose table has twice as many rows after the first
abbrev pub MadeUp : List ℕ → List ℕ → List ℕ → ℕ → ℕ → ℕ → Type 0
MadeUp lows highs table total i v = InReach table (last_row table) (get_or lows i 0) (get_or highs i 0) v total

-- v moved up by what is short of the total, or down by what is too much
pub record IntoReach (table : List ℕ) (last low high v total r : ℕ) : Type 0 where
  pub short : pinned_total (row_at table last) low high v < total → r ≡ v + (total - pinned_total (row_at table last) low high v)
  pub long : total ≤ pinned_total (row_at table last) low high v → total < pinned_total (row_at table 0) low high v
      → r + (pinned_total (row_at table 0) low high v - total) ≡ v
  pub within : InReach table last low high v total → r ≡ v

-- the copies left over at a row, divided among the members that grow there, but for the pinned one
pub record Divided (row : Row) (low high copies : ℕ) (reach : Reach) : Type 0 where
  pub all : reach.copies ≡ copies
  pub level : reach.level ≡ row.mark + reach.each
  pub divides : reach.growing * reach.each + reach.over ≡ copies
  pub none : copies ≡ 0 → (reach.growing ≡ 0) × (reach.each ≡ 0) × (reach.over ≡ 0)
  pub some : 0 < copies → (reach.growing + (row.highs + growth low high row.mark) ≡ row.lows) × (reach.over < reach.growing)
