-- A group with its breakpoint table, and room to work in. Assumes nothing.
use Rattle.std.specs.Prelude.{ℕ, ◌+◌, ◌*◌, ◌≤◌, true, false, List, ◌≡◌, length}
use Rattle.model.specs.Figures.{allows}
use Rattle.model.specs.Plans.{has_plan}
use Rattle.model.specs.declared.Limits.{Limits}
use Rattle.breakpoints.specs.Inner.Distances.{most_pairs, Paired}
use Rattle.breakpoints.specs.Inner.Tables as probed
use Rattle.model.specs.Sound.{SoundRanges}
use Rattle.model.specs.Shares.{most_units}

-- a group with the table that its values are looked up in
pub record Tabled (lows highs : List ℕ) (total : ℕ) (limits : Limits) (table : List ℕ) : Type 0 where
  pub sound : probed.SoundWithTotal lows highs total
  pub held : probed.Breakpoints lows highs table
  pub paired : allows limits.pairs most_pairs ≡ false → Paired lows highs table

-- room to work in for a group of n members
pub record TableLists (n : ℕ) (starts stops table : List ℕ) : Type 0 where
  pub size_starts : length starts ≡ n
  pub size_stops : length stops ≡ n
  pub size_table : 7 * (2 * n) + 7 ≤ length table

-- arrays with such room for every group of n members that the checks let pass
pub record TableRoom (n : ℕ) (starts stops table : List ℕ) : Type 0 where
  pub size_starts : n ≤ most_units → n ≤ length starts
  pub size_stops : n ≤ most_units → n ≤ length stops
  pub size_table : n ≤ most_units → 7 * (2 * n) + 7 ≤ length table

-- a group of sound ranges that has a plan
pub record HasPlan (lows highs : List ℕ) (total : ℕ) (limits : Limits) : Type 0 where
  pub sound : SoundRanges lows highs
  pub found : has_plan lows highs total limits ≡ true
