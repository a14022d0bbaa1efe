-- The first unit whose low, high and mark fail a test. Assumes nothing.
use Rattle.std.specs.Prelude.{ℕ, ◌<◌, Bool, true, false, List, ◌≡◌, length, get_or}

-- every unit passes the test
abbrev pub EachUnit : (ℕ → ℕ → ℕ → Bool) → List ℕ → List ℕ → List ℕ → Type 0
EachUnit test lows highs marks = (i : ℕ) → i < length lows → test (get_or lows i 0) (get_or highs i 0) (get_or marks i 0) ≡ true

-- unit i, counted from 0, fails the test and every unit before it passes
pub record FirstUnit (test : ℕ → ℕ → ℕ → Bool) (lows highs marks : List ℕ) (i : ℕ) : Type 0 where
  pub here : i < length lows
  pub fails : test (get_or lows i 0) (get_or highs i 0) (get_or marks i 0) ≡ false
  pub before : (k : ℕ) → k < i → test (get_or lows k 0) (get_or highs k 0) (get_or marks k 0) ≡ true
