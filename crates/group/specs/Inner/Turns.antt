-- What a turn of a group with marks leaves in the lists. Assumes nothing.
use Rattle.std.specs.Prelude.{ℕ, List, ◌≡◌}
use Rattle.model.specs.Running.{marked_turn, marked_lows, marked_highs}
use Rattle.model.specs.declared.Limits.{Limits}
use Rattle.model.specs.declared.Turn.{Turn}
use Rattle.narrow.specs.Inner.Turns.{after_turn}

-- the answer, and both lists after it: the running members' ranges are narrowed, the others' stay
pub record MarkedTurned (marks lows highs : List ℕ) (total : ℕ) (limits : Limits) (turn : Turn) (lows_left highs_left : List ℕ) : Type 0 where
  pub answer : turn ≡ marked_turn marks lows highs total limits
  pub lows_are : lows_left ≡ after_turn turn (marked_lows marks lows highs total limits) lows
  pub highs_are : highs_left ≡ after_turn turn (marked_highs marks lows highs total limits) highs
