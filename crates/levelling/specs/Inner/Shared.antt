-- Shares that a total is shared out in. Assumes nothing.
use Rattle.std.specs.Prelude.{ℕ, List, ◌≡◌}
use Rattle.model.specs.Shares.{sum}
use Rattle.model.specs.Running.{Marked}
use Rattle.model.specs.Sound.{SoundRanges}

-- shares with the total, those of shut members 0: each is sound as a range of one value
pub record SoundShares (marks shares : List ℕ) (total : ℕ) : Type 0 where
  pub sound : SoundRanges shares shares
  pub marked : Marked marks shares shares
  pub adds : sum shares ≡ total
