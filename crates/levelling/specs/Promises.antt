-- What levelling one group promises of the plan list after the call, where it is not refused. Assumes nothing.
use Rattle.std.specs.Prelude.{ℕ, ◌-◌, ◌≤◌, List, ◌≡◌, length, take, drop}
use Rattle.model.specs.Shares.{greatest_share, Within, sum}
use Rattle.model.specs.Levels.{total_at, levelled}
use Rattle.model.specs.Ways.{HandsOut, HeadroomFirst}
use Rattle.model.specs.Running.{marked_deviation, marked_spread, marked_pairs, marked_above, marked_figures}
use Rattle.model.specs.declared.Figures.{Figures}
use Rattle.levelling.specs.Levelling.{levelling, plan_after}

-- 01: the level, "the greatest v from 0 to 1,000,000 with T(v) at most S"
pub record GreatestLevel (lows highs : List ℕ) (total v : ℕ) : Type 0 where
  pub share : v ≤ greatest_share
  pub fits : total_at lows highs v ≤ total
  pub greatest : (w : ℕ) → w ≤ greatest_share → total_at lows highs w ≤ total → w ≤ v

-- 01, demand 2: shares in the ranges that add up to the total; none such have a lesser deviation, spread or total above t, for every t;
-- 02: "a third figure, under demand 2 too", and all four of the running members
pub record LeastShares (lows highs marks : List ℕ) (total : ℕ) (shares : List ℕ) : Type 0 where
  pub within : Within lows highs shares
  pub adds : sum shares ≡ total
  pub least_deviation : (xs : List ℕ) → Within lows highs xs → sum xs ≡ total → marked_deviation marks total shares ≤ marked_deviation marks total xs
  pub least_spread : (xs : List ℕ) → Within lows highs xs → sum xs ≡ total → marked_spread marks total shares ≤ marked_spread marks total xs
  pub least_pairs : (xs : List ℕ) → Within lows highs xs → sum xs ≡ total → marked_pairs marks shares ≤ marked_pairs marks xs
  pub least_above : (xs : List ℕ) → Within lows highs xs → sum xs ≡ total → (t : ℕ) → marked_above marks t shares ≤ marked_above marks t xs

-- what levelling promises where it answers level v and these figures: the plan list begins with least shares, whose figures they are,
-- and keeps its numbers past the members; 01: each member has v moved into its range, and the copies left over, S − T(v), go one each to
-- members that can take one more; 02: to those with the most headroom first
pub record LevelPromise (lows highs marks : List ℕ) (total v : ℕ) (answered : Figures) (before after : List ℕ) : Type 0 where
  pub least : LeastShares lows highs marks total (take (length lows) after)
  pub past : drop (length lows) after ≡ drop (length lows) before
  pub level : GreatestLevel lows highs total v
  pub figures : answered ≡ marked_figures marks total (take (length lows) after)
  pub handed : HandsOut lows highs v (total - total_at lows highs v) (take (length lows) after)
  pub headroom : HeadroomFirst lows highs v (take (length lows) after)

module _ (lows highs marks : List ℕ) (total : ℕ) (plan : List ℕ) where
  -- the plan list after levelling
  abbrev pub plan_left : List ℕ
  plan_left = plan_after (levelling lows highs marks total (length plan)) (levelled lows highs total) plan
