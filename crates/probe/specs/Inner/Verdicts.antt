-- What is asked of a probe, and what it finds of the pinned group. Assumes nothing.
use Rattle.std.specs.Prelude.{ℕ, ◌*◌, ◌≤◌, ◌<◌, Bool, true, false, ◌&&◌, List, ◌≡◌, leb}
use Rattle.model.specs.Shares.{sum_of}
use Rattle.model.specs.Figures.{deviation}
use Rattle.model.specs.Ways.{topped}
use Rattle.model.specs.Plans.{has_plan}
use Rattle.model.specs.declared.Limits.{Limits}
use Rattle.probe.specs.declared.probing.GroupLevel.{GroupLevel}
use Rattle.probe.specs.declared.probing.Pinned.{Pinned}
use Rattle.probe.specs.declared.terms.Terms.{Terms}
use Rattle.breakpoints.specs.Inner.Distances.{most_pairs, Paired}
use Rattle.breakpoints.specs.Inner.Tables.{SoundWithTotal, Breakpoints, square}
use Rattle.probe.specs.Inner.Terms.{GroupTerms, LimitTerms, Termed}
use Rattle.probe.specs.Inner.Sides.{greatest_half}
use Rattle.probe.specs.Inner.Pinned.{Pin, Reached}
use Rattle.probe.specs.Inner.Probes.{InReach, LastWithin}

-- some ranges have v in place of what a member with this low and high has
pub record Asked (lows highs : List ℕ) (low high v : ℕ) : Type 0 where
  pub pinned_lows : List ℕ
  pub pinned_highs : List ℕ
  pub pin : Pin lows highs low high v pinned_lows pinned_highs

-- a value that the other members can make up for can be looked up
pub record Lookable (lows highs table : List ℕ) (terms : Terms) (low high v : ℕ) : Type 0 where
  pub sound : SoundWithTotal lows highs terms.total
  pub held : Breakpoints lows highs table
  pub summed : GroupTerms lows highs table terms
  pub asked : Asked lows highs low high v
  pub reach : InReach table terms.last low high v terms.total
  pub paired : terms.pairs < most_pairs → Paired lows highs table

-- and tried, within limits
pub record Triable (lows highs table : List ℕ) (total : ℕ) (limits : Limits) (terms : Terms) (low high v : ℕ) : Type 0 where
  pub sound : SoundWithTotal lows highs total
  pub held : Breakpoints lows highs table
  pub termed : Termed lows highs table total limits terms
  pub asked : Asked lows highs low high v
  pub reach : InReach table terms.last low high v total
  pub paired : terms.pairs < most_pairs → Paired lows highs table

-- the level that the total reaches in some ranges, half of the deviation and the sum of squares of the shares there
pub record Figured (lows highs : List ℕ) (terms : Terms) (pinned : Pinned) : Type 0 where
  pub mark : ℕ
  pub moving : ℕ
  pub reached : Reached lows highs terms.total mark moving pinned.level pinned.over
  pub halves : 2 * pinned.half ≡ deviation terms.count terms.total (topped lows highs pinned.level pinned.over)
  pub small : pinned.half ≤ greatest_half
  pub squares : pinned.squares ≡ sum_of square (topped lows highs pinned.level pinned.over)

-- what is found of all ranges with the value
pub record PinnedFigures (lows highs : List ℕ) (terms : Terms) (low high v : ℕ) (pinned : Pinned) : Type 0 where
  pub is : {lows' highs' : List ℕ} → Pin lows highs low high v lows' highs' → Figured lows' highs' terms pinned

-- deviation and spread are within the terms
abbrev pub within_terms : Terms → Pinned → Bool
within_terms terms pinned = leb pinned.half terms.half && leb pinned.squares terms.squares

-- whether all ranges with the value have a plan
pub record Decides (lows highs : List ℕ) (total : ℕ) (limits : Limits) (low high v : ℕ) (taken : Bool) : Type 0 where
  pub is : {lows' highs' : List ℕ} → Pin lows highs low high v lows' highs' → taken ≡ has_plan lows' highs' total limits

-- the same within whatever limits the terms are of
pub record DecidesFor (lows highs : List ℕ) (terms : Terms) (low high v : ℕ) (taken : Bool) : Type 0 where
  pub for : {limits : Limits} → LimitTerms limits terms → Decides lows highs terms.total limits low high v taken

-- whether the limits of deviation and spread allow a plan: if not, there is none, and if so, there is one where pairs are not limited
pub record Judged (lows highs : List ℕ) (total : ℕ) (limits : Limits) (terms : Terms) (low high v : ℕ) (taken : Bool) : Type 0 where
  pub refused : taken ≡ false → Decides lows highs total limits low high v false
  pub allowed : taken ≡ true → most_pairs ≤ terms.pairs → Decides lows highs total limits low high v true

-- a level with copies left over that gives the group its total, the row below it, and whether the group has a plan within whatever limits the terms are of
pub record LevelledOn (lows highs table : List ℕ) (terms : Terms) (at : GroupLevel) : Type 0 where
  pub found : LastWithin table terms.last 0 0 0 terms.total at.row
  pub mark : ℕ
  pub moving : ℕ
  pub reached : Reached lows highs terms.total mark moving at.level at.over
  pub decides : {limits : Limits} → LimitTerms limits terms → at.planned ≡ has_plan lows highs terms.total limits
