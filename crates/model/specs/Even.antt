-- Even shares: what levelling comes to, whichever members take the copies left over. Assumes nothing.
use Rattle.std.specs.Prelude.{ℕ, suc, ◌≤◌, ◌<◌, List, length, get_or}

-- a share that could be lowered is at most one above any share that could be raised
pub record Even (lows highs xs : List ℕ) : Type 0 where
  pub near : (i j : ℕ) → i < length xs → j < length xs
      → get_or xs i 0 < get_or highs i 0 → get_or lows j 0 < get_or xs j 0 → get_or xs j 0 ≤ suc (get_or xs i 0)
