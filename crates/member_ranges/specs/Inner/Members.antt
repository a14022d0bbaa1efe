-- What gathering members' ranges from a table and writing them back ask of their lists. Assumes nothing.
use Rattle.std.specs.Prelude.{ℕ, ◌≤◌, List, ◌≡◌, length, take}
use Rattle.model.specs.Running.{running}
use Rattle.model.specs.Shares.{most_units}
use Rattle.member_ranges.specs.Tables.{Named, gather}

-- those of some members that run, by the marks of the units
abbrev pub running_members : List ℕ → List ℕ → List ℕ
running_members marks members = running (gather marks members) members

-- each of at most 256 members has a mark and a range
pub record Listed (members marks lows highs : List ℕ) : Type 0 where
  pub few : length members ≤ most_units
  pub for_marks : Named (length marks) members
  pub for_lows : Named (length lows) members
  pub for_highs : Named (length highs) members

-- working lists with room for every group
pub record MemberRoom (lows highs : List ℕ) : Type 0 where
  pub for_lows : most_units ≤ length lows
  pub for_highs : most_units ≤ length highs

-- the ranges of the running members, so many, are the first of two working lists
pub record RunningGathered (members marks lows highs member_lows member_highs : List ℕ) (count : ℕ) : Type 0 where
  pub few : count ≤ length members
  pub lows_are : take count member_lows ≡ gather lows (running_members marks members)
  pub highs_are : take count member_highs ≡ gather highs (running_members marks members)
