-- Every way to hand out the copies left over gives even shares with the same figures. Assumes nothing.
use Rattle.std.specs.Prelude.{ℕ, ◌+◌, ◌≤◌, List, ◌≡◌}
use Rattle.std.proofs.Common.{sym, ◌∙◌, le_antisymm}
use Rattle.model.specs.Shares.{Ranges, Within, sum}
use Rattle.model.specs.Figures.{deviation, spread, pairs, figures_of}
use Rattle.model.specs.Levels.{total_at}
use Rattle.model.specs.Ways.{HandsOut}
use Rattle.model.specs.Even.{Even}
use Rattle.model.specs.Transfers.{SchurConvex}
use Rattle.model.proofs.Laws.Least.{least}
use Rattle.model.proofs.Laws.Levelled.{between_within, between_near, near_even}
use Rattle.model.proofs.Laws.Pairs.{pairs_schur}
use Rattle.model.proofs.Laws.Transfer.{deviation_schur, spread_schur}

module _ {lows highs : List ℕ} (ranges : Ranges lows highs) {v left : ℕ} where
  -- the shares of every way are in the ranges
  pub way_within : {xs : List ℕ} → HandsOut lows highs v left xs → Within lows highs xs
  way_within way = between_within ranges v way.between

  -- and even
  pub way_even : {xs : List ℕ} → HandsOut lows highs v left xs → Even lows highs xs
  way_even way = near_even (between_near ranges v way.between)

  -- they have the least of every figure that an exchange never raises, among all shares with their total
  pub way_least : {xs ys : List ℕ} → HandsOut lows highs v left xs → Within lows highs ys → sum ys ≡ total_at lows highs v + left
      → (F : List ℕ → ℕ) → SchurConvex F → F xs ≤ F ys
  way_least way within adds F convex = least convex (way_within way) (way_even way) within (adds ∙ sym way.adds)

  module _ {xs ys : List ℕ} (one : HandsOut lows highs v left xs) (other : HandsOut lows highs v left ys) where
    -- so two ways have the same
    pub ways_same : (F : List ℕ → ℕ) → SchurConvex F → F xs ≡ F ys
    ways_same F convex =
        le_antisymm (way_least one (way_within other) other.adds F convex) (way_least other (way_within one) one.adds F convex)

    -- and the same figures
    pub ways_figures : (n total : ℕ) → figures_of n total xs ≡ figures_of n total ys
    ways_figures n total =
        rw (ways_same (deviation n total) (deviation_schur n total), ways_same (spread n total) (spread_schur n total), ways_same pairs pairs_schur)
