-- The pinned group's sum of squares at the level reached, from the row's. Assumes nothing.
use Rattle.std.specs.Prelude.{ℕ, suc, ◌+◌, ◌*◌, ◌≤◌, List, ◌≡◌}
use Rattle.std.proofs.Common.{arith}
use Rattle.model.specs.Shares.{greatest_share, greatest_total, sum_of, most_units}
use Rattle.model.specs.Levels.{clamp, clamped}
use Rattle.model.specs.Ways.{topped}
use Rattle.probe.specs.declared.pinned.Reach.{Reach}
use Rattle.breakpoints.specs.declared.rows.Row.{Row}
use Rattle.breakpoints.specs.Inner.Tables.{SoundWithTotal, square}
use Rattle.breakpoints.specs.Laws.Tables.{small_square, clamped_small}
use Rattle.probe.specs.Inner.Pinned.{Pin, Reached}
use Rattle.probe.specs.Inner.Probes.{Divided}
use Rattle.probe.specs.Laws.Pinned.{reached_sum}
use Rattle.probe.specs.Inner.Figures.{MovedSquares, Summable}

-- members that grow from a mark by so many each, and some of them by one more, in plain numbers
rises : (mark each growing over : ℕ)
    → (growing * each + over) * (2 * mark + each) + over * suc each + (growing * square mark + over * square (mark + each))
    ≡ growing * square (mark + each) + over * square (suc (mark + each))
rises mark each growing over = omega arith

rises_to : {level copies : ℕ} (mark each growing over : ℕ) → level ≡ mark + each → copies ≡ growing * each + over
    → copies * (2 * mark + each) + over * suc each + (growing * square mark + over * square level)
    ≡ growing * square level + over * square (suc level)
rises_to mark each growing over at divides = rw (at, divides) (rises mark each growing over)

module _ {lows highs lows' highs' : List ℕ} {total low high v copies : ℕ} (pin : Pin lows highs low high v lows' highs') {row : Row}
    (held : row.squares ≡ sum_of square (clamped lows highs row.mark)) {reach : Reach} (divided : Divided row low high copies reach)
    (reached : Reached lows' highs' total row.mark reach.growing reach.level reach.over) where
  -- the sum over the shares reached
  pub moved_squares : {r : ℕ} → MovedSquares row (clamp low high row.mark) v reach r → r ≡ sum_of square (topped lows' highs' reach.level reach.over)
  moved_squares told =
      omega (
        arith,
        told.is,
        reached_sum pin.ranges reached square,
        pin.sums square row.mark,
        rises_to {copies = reach.copies} row.mark reach.each reach.growing reach.over divided.level (omega (arith, divided.all, divided.divides)),
      )

  pub summable : SoundWithTotal lows highs total → row.mark ≤ greatest_share → copies ≤ greatest_total → reach.over ≤ most_units
      → Summable row (clamp low high row.mark) v reach
  summable sound share small few = record {
    stored_small = omega (arith, clamped_small sound.ranges small_square row.mark, sound.few);
    mark_share = share;
    own_share = omega (arith, pin.ordered, pin.highest);
    value_share = pin.value;
    copies_small = omega (arith, divided.all);
    each_share = omega (arith, divided.level, reached.share);
    over_few = few;
    fits = omega (arith, pin.sums square row.mark);
  }
