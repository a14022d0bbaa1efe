-- Units that a check finds nothing wrong with. Assumes nothing.
use Rattle.std.specs.Prelude.{ℕ, zero, suc, Bool, ◌&&◌, List, ◌≡◌, eqb, Option, Some, None}
use Rattle.list_checks.specs.Checks.{unit_within, unit_ordered, first_failing}

-- the place that a search from 1 found, none for 0
abbrev pub place_found : ℕ → Option ℕ
place_found zero = None
place_found (suc i) = Some (suc i)

-- a closure with these results tells the test: of any numbers it answers what the test does
abbrev pub Tells : (ℕ → ℕ → ℕ → Bool → Type 0) → (ℕ → ℕ → ℕ → Bool) → Type 0
Tells post test = (low high mark : ℕ) (answer : Bool) → post low high mark answer → answer ≡ test low high mark

-- a unit's numbers are in their ranges and in order
abbrev pub unit_sound : ℕ → ℕ → ℕ → Bool
unit_sound low high mark = unit_within low high mark && unit_ordered low high mark

-- no unit fails that
abbrev pub all_sound : List ℕ → List ℕ → List ℕ → Bool
all_sound lows highs marks = eqb (first_failing unit_sound 1 lows highs marks) 0
