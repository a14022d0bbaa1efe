-- What one member's search tells of other members. Assumes nothing.
use Rattle.std.specs.Prelude.{ℕ, suc, ◌≤◌, ◌<◌, min, max, Bool, true, false, List, ◌≢◌, ◌≡◌, length, get_or, IfSome}
use Rattle.model.specs.Shares.{greatest_share}
use Rattle.model.specs.Figures.{apart}
use Rattle.model.specs.Plans.{taken}
use Rattle.model.specs.declared.Limits.{Limits}
use Rattle.breakpoints.specs.Inner.Rows.{row_at, last_row}
use Rattle.probe.specs.Inner.Probes.{LastWithin}
use Rattle.range_ends.specs.declared.known.Shared.{Shared}
use Rattle.range_ends.specs.declared.known.Bracket.{Bracket}
use Rattle.range_ends.specs.declared.ends.End.{End}
use Rattle.range_ends.specs.Inner.Edges.{Straddle, Reaches, Search}

-- inner passes the test; outer is inner, or the value next to it, and fails
pub record Outcomes (test : ℕ → Bool) (inner outer : ℕ) : Type 0 where
  pub small : inner ≤ greatest_share
  pub passes : test inner ≡ true
  pub near : apart outer inner ≤ 1
  pub fails : outer ≢ inner → test outer ≡ false

-- so it is for every member whose range reaches from under to over
pub record SharedHolds (lows highs : List ℕ) (total : ℕ) (limits : Limits) (shared : Shared) : Type 0 where
  pub of : (j : ℕ) → j < length lows → get_or lows j 0 ≤ shared.under → shared.over ≤ get_or highs j 0
      → Outcomes (taken lows highs total limits j) shared.inner shared.outer

-- the range is such a one, and the end lies between the share and inner
pub record EndKnown (low high share end : ℕ) (shared : Shared) : Type 0 where
  pub under : low ≤ shared.under
  pub over : shared.over ≤ high
  pub rising : end < share → shared.inner ≤ end
  pub falling : share ≤ end → end ≤ shared.inner

-- the range is such a one, and inner and outer, which differ, lie between the share and the end
pub record EdgeKnown (low high share end : ℕ) (shared : Shared) : Type 0 where
  pub under : low ≤ shared.under
  pub over : shared.over ≤ high
  pub rising : end < share → (end ≤ shared.outer) × (shared.outer < shared.inner) × (shared.inner ≤ share)
  pub falling : share ≤ end → (share ≤ shared.inner) × (shared.inner < shared.outer) × (shared.outer ≤ end)

-- so that values are taken as far as seen: the end is the share, or lies before inner; or they end at inner
pub data SeenTo (low high share end : ℕ) (shared : Shared) : ℕ → Type 0 where
  itself : end ≡ share → SeenTo low high share end shared end
  within : EndKnown low high share end shared → SeenTo low high share end shared end
  before : end ≢ share → EdgeKnown low high share end shared → SeenTo low high share end shared shared.inner

-- what was found of a member with this low and high serves others from the level of the first row to that after the last one;
-- near is the row found for inner
pub record Serves (table : List ℕ) (last low high : ℕ) (found : Bracket) (near : ℕ) (r : Shared) : Type 0 where
  pub follows : max near found.far < last
  pub under : r.under ≡ (row_at table (min near found.far)).mark
  pub over : r.over ≡ (row_at table (suc (max near found.far))).mark
  pub from : low ≤ r.under
  pub up_to : r.over ≤ high
  pub inner : r.inner ≡ found.inner
  pub outer : r.outer ≡ found.outer

-- it serves them, or what was known stays
pub data Noted (table : List ℕ) (last low high : ℕ) (was : Shared) (found : Bracket) (near : ℕ) (r : Shared) : Type 0 where
  stays : r ≡ was → Noted table last low high was found near r
  serves : Serves table last low high found near r → Noted table last low high was found near r

-- the row found for a value of member i
abbrev pub RowOf : List ℕ → List ℕ → List ℕ → ℕ → ℕ → ℕ → ℕ → Type 0
RowOf lows highs table total i v k = LastWithin table (last_row table) (get_or lows i 0) (get_or highs i 0) v total k

-- a search that has come to these values, and their rows
pub record Bracketed (lows highs table : List ℕ) (total : ℕ) (limits : Limits) (i outside inside : ℕ) (found : Bracket) : Type 0 where
  pub straddle : Straddle (taken lows highs total limits i) outside inside found.outer found.inner
  pub search : Search lows highs table total limits i found.outer found.inner
  pub outer_row : RowOf lows highs table total i found.outer found.far
  pub inner_row : IfSome found.near (λ near. RowOf lows highs table total i found.inner near)

-- a search that is over
pub record EdgeFound (lows highs table : List ℕ) (total : ℕ) (limits : Limits) (i outside inside : ℕ) (found : Bracket) : Type 0 where
  pub bracketed : Bracketed lows highs table total limits i outside inside found
  pub near : apart found.outer found.inner ≤ 1

-- how far values of member i are taken, and what is known then
pub record EndFound (lows highs : List ℕ) (total : ℕ) (limits : Limits) (i end share : ℕ) (r : End) : Type 0 where
  pub reaches : Reaches (taken lows highs total limits i) end share r.value
  pub known : SharedHolds lows highs total limits r.shared
