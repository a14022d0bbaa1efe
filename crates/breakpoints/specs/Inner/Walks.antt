-- Which of the next low and the next high comes first. Assumes nothing.
use Rattle.std.specs.Prelude.{ℕ, ◌≤◌, ◌<◌, Bool, true, false, List, ◌≡◌, length, get_or}

-- which of the next low and the next high comes first: a low where the two are equal, and the one that is left where the other list has ended
pub record First (lows highs : List ℕ) (a b : ℕ) (low : Bool) : Type 0 where
  pub is_low : low ≡ true → (a < length lows) × (b < length highs → get_or lows a 0 ≤ get_or highs b 0)
  pub is_high : low ≡ false → (b < length highs) × (a < length lows → get_or highs b 0 ≤ get_or lows a 0)
