-- The values that plans take, and ranges inside others. Assumes nothing.
use Rattle.std.specs.Prelude.{ℕ, ◌≤◌, ◌<◌, List, ◌≡◌, length, get_or}
use Rattle.model.specs.Plans.{narrowed_low, narrowed_high, Plan}
use Rattle.model.specs.declared.Limits.{Limits}

-- the ranges of the first two lists lie inside those of the last two
pub record RangesInside (lows' highs' lows highs : List ℕ) : Type 0 where
  pub same_lows : length lows' ≡ length lows
  pub same_highs : length highs' ≡ length highs
  pub at : (i : ℕ) → i < length lows → (get_or lows i 0 ≤ get_or lows' i 0) × (get_or highs' i 0 ≤ get_or highs i 0)

-- ranges between the opening ones and the narrowed ones
pub record PartlyNarrowed (lows highs : List ℕ) (total : ℕ) (limits : Limits) (lows' highs' : List ℕ) : Type 0 where
  pub inside : RangesInside lows' highs' lows highs
  pub keeps : (i : ℕ) → i < length lows
      → (get_or lows' i 0 ≤ narrowed_low lows highs total limits i) × (narrowed_high lows highs total limits i ≤ get_or highs' i 0)

-- some plan gives member i the value v
abbrev pub Taken : List ℕ → List ℕ → ℕ → Limits → ℕ → ℕ → Type 0
Taken lows highs total limits i v = (xs : List ℕ) × Plan lows highs total limits xs × (get_or xs i 0 ≡ v)
