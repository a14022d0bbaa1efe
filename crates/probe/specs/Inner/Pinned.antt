-- A group with one member pinned, and the level that its total reaches. Assumes nothing.
use Rattle.std.specs.Prelude.{ℕ, suc, ◌+◌, ◌-◌, ◌*◌, ◌≤◌, ◌<◌, List, ◌≡◌, length}
use Rattle.model.specs.Shares.{Ranges, greatest_share, sum_of}
use Rattle.model.specs.Levels.{clamp, clamped, total_at}
use Rattle.breakpoints.specs.Inner.Spans.{Span}

-- ranges that have v in place of what one member of the group with this low and high has
pub record Pin (lows highs : List ℕ) (low high v : ℕ) (lows' highs' : List ℕ) : Type 0 where
  pub ranges : Ranges lows' highs'
  pub count : length lows' ≡ length lows
  pub ordered : low ≤ high
  pub highest : high ≤ greatest_share
  pub value : v ≤ greatest_share
  pub sums : (f : ℕ → ℕ) (w : ℕ)
      → sum_of f (clamped lows' highs' w) + f (clamp low high w) ≡ sum_of f (clamped lows highs w) + f v
  pub clear : {m w a b : ℕ} → Span lows highs m w a b → low < high → (m < low → w ≤ low) × (m < high → w ≤ high)

-- the level w with r copies left over gives the group its total; from m to w, c members move
pub record Reached (lows highs : List ℕ) (total m c w r : ℕ) : Type 0 where
  pub share : w ≤ greatest_share
  pub holds : total_at lows highs w + r ≡ total
  pub fits : r ≤ total_at lows highs (suc w) - total_at lows highs w
  pub spare : 0 < r → r < total_at lows highs (suc w) - total_at lows highs w
  pub sums : (f : ℕ → ℕ) → sum_of f (clamped lows highs w) + c * f m ≡ sum_of f (clamped lows highs m) + c * f w
