-- Looking distances up by a turn's terms: the table's last row and a level under their other names. Assumes nothing.
use Rattle.std.specs.Prelude.{ℕ, suc, ◌≤◌, ◌<◌, List}
use Rattle.std.proofs.Common.{sym, subst, arith}
use Rattle.model.specs.Shares.{greatest_share}
use Rattle.breakpoints.specs.declared.distances.Distances.{Distances}
use Rattle.probe.specs.declared.terms.Terms.{Terms}
use Rattle.breakpoints.specs.Inner.Distances.{LowsPassed, Paired, DistancesAt, MarksKept}
use Rattle.probe.specs.Inner.Lookups.{PairLookable}
use Rattle.probe.specs.Inner.Pairs.{WithValue, SpotBelow}
use Rattle.breakpoints.specs.Inner.Rows.{row_at, last_row}
use Rattle.breakpoints.specs.Laws.Distances.{passed_within}

-- the rows can be searched by their levels
pub marks_kept : {lows highs table : List ℕ} {terms : Terms} → PairLookable lows highs table terms → MarksKept table terms.last
marks_kept asked =
    rw asked.ended (record { room = asked.held.room; few = omega (arith, asked.held.few, asked.sound.few); first = asked.held.first })

-- where copies are left over, no further low is passed one level up
pub passed_over : {lows highs table : List ℕ} {level over k : ℕ} → Paired lows highs table → SpotBelow table (last_row table) k level over → 0 < over
    → LowsPassed lows (row_at table k).mark (suc level) (row_at table k).lows
passed_over paired spot some =
    let (follows, inside) = spot.inside some in
    passed_within (paired.passed _ follows) _ (omega (arith, spot.below.from)) inside

-- what is told with the last row and the level by other names
pub spot_last : {lows highs table : List ℕ} {terms : Terms} {k level over : ℕ} → PairLookable lows highs table terms → SpotBelow table terms.last k level over
    → SpotBelow table (last_row table) k level over
spot_last asked spot = rw asked.ended at spot

pub distances_there : {lows highs : List ℕ} {level : ℕ} {at : Distances} → DistancesAt lows highs level at → level ≤ greatest_share
    → DistancesAt lows highs at.level at × (at.level ≤ greatest_share)
distances_there {lows} {highs} {at = at} told share =
    (subst (λ (w : ℕ). DistancesAt lows highs w at) (sym told.is) told, omega (arith, told.is))

pub with_there : {lows highs : List ℕ} {low high v level r : ℕ} {at : Distances} → DistancesAt lows highs level at → WithValue lows highs low high v at.level r
    → WithValue lows highs low high v level r
with_there {lows} {highs} {low} {high} {v} {r = r} told held = subst (λ (w : ℕ). WithValue lows highs low high v w r) told.is held
