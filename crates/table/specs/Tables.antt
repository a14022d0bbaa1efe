-- A table of ranges as two lists of numbers. Assumes nothing.
use Rattle.std.specs.Prelude.{ℕ, List, map}
use Rattle.table.specs.declared.Range.{Range}

-- the lows of a table
abbrev pub lows_in : List Range → List ℕ
lows_in t = map (λ r. r.low) t

-- the highs of a table
abbrev pub highs_in : List Range → List ℕ
highs_in t = map (λ r. r.high) t
