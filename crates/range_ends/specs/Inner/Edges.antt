-- The end of a range of values that pass a test, and the way there. Assumes nothing.
use Rattle.std.specs.Prelude.{ℕ, ◌≤◌, ◌<◌, Bool, true, false, List, ◌≡◌, length, get_or}
use Rattle.model.specs.Shares.{greatest_share}
use Rattle.model.specs.Figures.{apart}
use Rattle.model.specs.Plans.{taken}
use Rattle.model.specs.declared.Limits.{Limits}
use Rattle.probe.specs.Inner.Probes.{MadeUp}
use Rattle.range_ends.specs.Inner.Tabled.{Tabled, HasPlan}

-- strictly between two values
pub record Amid (outer inner middle : ℕ) : Type 0 where
  pub rising : outer < inner → (outer < middle) × (middle < inner)
  pub falling : inner < outer → (inner < middle) × (middle < outer)

-- outer fails the test and inner passes it; they lie between two values in that order
pub record Straddle (test : ℕ → Bool) (outside inside outer inner : ℕ) : Type 0 where
  pub fails : test outer ≡ false
  pub passes : test inner ≡ true
  pub rising : outside < inside → (outside ≤ outer) × (outer < inner) × (inner ≤ inside)
  pub falling : inside < outside → (inside ≤ inner) × (inner < outer) × (outer ≤ outside)

-- the last value that passes on the way from inside to outside: its neighbour fails
pub record Edge (test : ℕ → Bool) (outside inside inner : ℕ) : Type 0 where
  pub outer : ℕ
  pub straddle : Straddle test outside inside outer inner
  pub near : apart outer inner ≤ 1

-- how far from inside to an end values pass: to the end itself, or to an edge before it
pub data Reaches (test : ℕ → Bool) (end inside : ℕ) : ℕ → Type 0 where
  whole : test end ≡ true → Reaches test end inside end
  part : {r : ℕ} → test end ≡ false → Edge test end inside r → Reaches test end inside r

-- a way from a share that some plan gives member i to an end
pub record Approach (lows highs table : List ℕ) (total : ℕ) (limits : Limits) (i end share : ℕ) : Type 0 where
  pub tabled : Tabled lows highs total limits table
  pub here : i < length lows
  pub small : end ≤ greatest_share
  pub share_small : share ≤ greatest_share
  pub passes : taken lows highs total limits i share ≡ true

-- one to a value that the others can make up for, but no plan gives the member
pub record Search (lows highs table : List ℕ) (total : ℕ) (limits : Limits) (i outer inner : ℕ) : Type 0 where
  pub way : Approach lows highs table total limits i outer inner
  pub fails : taken lows highs total limits i outer ≡ false
  pub reach : MadeUp lows highs table total i outer

-- member i of a group that has a plan, and a share in its range that some plan gives it
pub record Planned (lows highs : List ℕ) (total : ℕ) (limits : Limits) (i share : ℕ) : Type 0 where
  pub has : HasPlan lows highs total limits
  pub here : i < length lows
  pub low : get_or lows i 0 ≤ share
  pub high : share ≤ get_or highs i 0
  pub passes : taken lows highs total limits i share ≡ true
