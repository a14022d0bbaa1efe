-- The known shares of 01 for one group, computed. Assumes nothing.
use Rattle.std.specs.Prelude.{true, ◌≡◌, refl}
use Rattle.model.specs.Shares.{sum, sum_of}
use Rattle.model.specs.Figures.{deviation, spread, pairs}
use Rattle.model.specs.Levels.{clamped, total_at, level_below, level, remainder, roomier, by_headroom, levelled}
use Rattle.model.specs.Ways.{topped, evened}
use Rattle.model.specs.Plans.{has_plan, turn_of, first_up, first_down, narrowed_low, narrowed_high, tabulate, narrowed_lows, narrowed_highs}
use Rattle.model.specs.Known.{same_list, is_known, all, four, ten, three, known}

-- every known share holds of the definitions
pub known_shares : all known ≡ true
unfolding all is_known known four ten three same_list sum sum_of deviation spread pairs clamped total_at level_below level remainder roomier by_headroom levelled topped evened has_plan turn_of first_up first_down narrowed_low narrowed_high tabulate narrowed_lows narrowed_highs
known_shares = refl
