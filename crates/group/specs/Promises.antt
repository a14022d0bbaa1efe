-- What narrowing one group promises of the lists after the call, where it is not refused. Assumes nothing.
use Rattle.std.specs.Prelude.{ℕ, ◌≤◌, ◌<◌, List, ◌↔◌, length, get_or}
use Rattle.model.specs.Shares.{Ranges}
use Rattle.model.specs.Narrowing.{RangesInside}
use Rattle.model.specs.Running.{marked_lows, marked_highs, MarkedTaken}
use Rattle.model.specs.declared.Limits.{Limits}
use Rattle.group.specs.Narrowing.{narrowing, list_after}

-- 01, demand 2: ranges inside those at the call, and a value lies in a member's range exactly if some plan within those at the call takes it
pub record NarrowPromise (lows highs marks : List ℕ) (total : ℕ) (limits : Limits) (lows_after highs_after : List ℕ) : Type 0 where
  pub ranges : Ranges lows_after highs_after
  pub inside : RangesInside lows_after highs_after lows highs
  pub exactly : (i : ℕ) → i < length lows → (v : ℕ)
      → ((get_or lows_after i 0 ≤ v) × (v ≤ get_or highs_after i 0)) ↔ MarkedTaken marks lows highs total limits i v

module _ (lows highs marks : List ℕ) (total : ℕ) (limits : Limits) where
  -- the lists after narrowing
  abbrev pub lows_left : List ℕ
  lows_left = list_after (narrowing lows highs marks total limits) (marked_lows marks lows highs total limits) lows

  abbrev pub highs_left : List ℕ
  highs_left = list_after (narrowing lows highs marks total limits) (marked_highs marks lows highs total limits) highs
