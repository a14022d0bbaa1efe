-- Copies that members can take. Assumes nothing.
use Rattle.std.specs.Prelude.{ℕ, ◌≤◌, List, ◌≡◌}
use Rattle.model.specs.Levels.{roomier}
use Rattle.model.specs.Shares.{greatest_share}
use Rattle.model.specs.Sound.{SoundRanges}

-- at v, a share, at least so many members can take one copy more
pub record HasTakers (lows highs : List ℕ) (v left : ℕ) : Type 0 where
  pub sound : SoundRanges lows highs
  pub share : v ≤ greatest_share
  pub enough : left ≤ roomier lows highs v v

-- at least as many members as there are copies have a high above the number under the bar, and no more have one above the bar
pub record BarBetween (lows highs : List ℕ) (v left under bar above : ℕ) : Type 0 where
  pub from : v ≤ under
  pub enough : left ≤ roomier lows highs v under
  pub is : above ≡ roomier lows highs v bar
  pub few : above ≤ left
  pub small : bar ≤ greatest_share
  pub ordered : under ≤ bar
