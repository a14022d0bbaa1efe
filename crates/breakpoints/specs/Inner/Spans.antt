-- The bounds passed from one breakpoint to the next. Assumes nothing.
use Rattle.std.specs.Prelude.{ℕ, ◌+◌, ◌*◌, ◌≤◌, ◌<◌, List, ◌≡◌, length, get_or}
use Rattle.model.specs.Shares.{sum_of}
use Rattle.model.specs.Levels.{clamped}

-- the first a numbers are at most m, and the others are at least w
pub record Parted (m w a : ℕ) (xs : List ℕ) : Type 0 where
  pub few : a ≤ length xs
  pub before : (p : ℕ) → p < a → get_or xs p 0 ≤ m
  pub after : (p : ℕ) → a ≤ p → p < length xs → w ≤ get_or xs p 0

-- from m to w no bound of a member with several values lies: a of their lows and b of their highs are passed at m, and no further one before w
pub record Span (lows highs : List ℕ) (m w a b : ℕ) : Type 0 where
  pub rises : m ≤ w
  pub sums : (f : ℕ → ℕ) (v : ℕ) → m ≤ v → v ≤ w
      → sum_of f (clamped lows highs v) + (a * f m + b * f v) ≡ sum_of f (clamped lows highs m) + (a * f v + b * f m)
  pub clear : (i : ℕ) → i < length lows → get_or lows i 0 < get_or highs i 0
      → (m < get_or lows i 0 → w ≤ get_or lows i 0) × (m < get_or highs i 0 → w ≤ get_or highs i 0)
