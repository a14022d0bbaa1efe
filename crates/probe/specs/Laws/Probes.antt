-- What a probe finds in the table: the row below the pinned group's level, and the level. Assumes nothing.
use Rattle.std.specs.Prelude.{ℕ, suc, ◌+◌, ◌-◌, ◌≤◌, ◌<◌, List, ◌≡◌}
use Rattle.std.proofs.Math.Decide.{dec_lt, ℕ_discrete}
use Rattle.std.proofs.Common.{arith}
use Rattle.model.specs.Shares.{most_units}
use Rattle.model.specs.Levels.{clamp, total_at, growth}
use Rattle.model.proofs.Laws.Lists.{sum_sum_of}
use Rattle.breakpoints.specs.declared.rows.Row.{Row}
use Rattle.probe.specs.declared.pinned.Reach.{Reach}
use Rattle.breakpoints.specs.Inner.Rows.{row_at, last_row}
use Rattle.breakpoints.specs.Inner.Spans.{Span}
use Rattle.breakpoints.specs.Inner.Tables.{SoundWithTotal, Breakpoints, itself}
use Rattle.breakpoints.specs.Laws.Tables.{small_itself, clamped_small}
use Rattle.probe.specs.Inner.Pinned.{Pin, Reached}
use Rattle.probe.specs.Inner.Pairs.{SpotBelow}
use Rattle.probe.specs.Laws.Pinned.{pinned_span, grows, level_inside, reached_mark, reached_between}
use Rattle.probe.specs.Inner.Probes.{pinned_total, Pinnable, Probeable, LastWithin, Divided}

-- the copies left over at the level are at most as many as the lows passed
pub divided_few : {row : Row} {low high copies : ℕ} {reach : Reach} → Divided row low high copies reach → row.lows ≤ most_units → reach.over ≤ most_units
divided_few {copies = copies} divided few =
    elim (dec_lt 0 copies) [
      | yes some ↦ let (moving, under) = divided.some some in omega arith
      | no none ↦ let (growing, each, over) = divided.none (omega arith) in omega arith
    ]

module _ {lows highs table lows' highs' : List ℕ} {total low high v : ℕ} (sound : SoundWithTotal lows highs total) (held : Breakpoints lows highs table)
    (pin : Pin lows highs low high v lows' highs') where
  -- the pinned group's T at a row's level is what is computed from the row
  module _ (k : ℕ) (up_to : k ≤ last_row table) where
    with_own : total_at lows' highs' (row_at table k).mark + clamp low high (row_at table k).mark ≡ (row_at table k).total + v
    unfolding total_at
    with_own = rw (sum_sum_of, (held.sums k up_to).totals) (pin.sums itself (row_at table k).mark)

    pub pinned_total_lem : pinned_total (row_at table k) low high v ≡ total_at lows' highs' (row_at table k).mark
    unfolding pinned_total
    pinned_total_lem = omega (arith, with_own)

    pub pinnable : Pinnable (row_at table k) low high v
    pinnable = record {
      ordered = pin.ordered;
      small = omega (arith, (held.sums k up_to).totals, clamped_small sound.ranges small_itself (row_at table k).mark, sound.few, pin.value);
      under = omega (arith, with_own);
    }

  pub probeable : Probeable table (last_row table) low high v
  probeable = record { few = omega (arith, sound.few); room = held.room; rows = pinnable }

  module _ {k : ℕ} (found : LastWithin table (last_row table) low high v total k) (enough : total ≤ pinned_total (row_at table (last_row table)) low high v) where
    abbrev row : Row
    row = row_at table k

    abbrev left : ℕ
    left = total - pinned_total row low high v

    -- where copies are left over, a row follows
    follows : 0 < left → k < last_row table
    follows some =
        elim (ℕ_discrete k (last_row table)) [
          | yes e ↦ absurd (omega (arith, rw (← e) at enough))
          | no e ↦ omega (arith, found.up_to)
        ]

    module _ (some : 0 < left) where
      abbrev next : Row
      next = row_at table (suc k)

      between : Span lows highs row.mark next.mark row.lows row.highs
      between = held.spans k (follows some)

      below : total_at lows' highs' row.mark < total
      below = rw (← pinned_total_lem k found.up_to) (omega arith)

      past : total ≤ total_at lows' highs' next.mark
      past = rw (← pinned_total_lem (suc k) (follows some)) (found.next (follows some))

      -- and more lows than highs are passed, the pinned member aside
      pub growing : row.highs + growth low high row.mark < row.lows
      growing =
          grows lows' highs' total row.mark next.mark row.lows (row.highs + growth low high row.mark)
          between.rises below past (pinned_span pin between)

      -- the level found by dividing is one that the total reaches
      reached_some : (reach : Reach) → Divided row low high left reach
          → Reached lows' highs' total row.mark reach.growing reach.level reach.over
      reached_some reach divided =
          let (moving, under) = divided.some some in
          rw divided.level (reached_between lows' highs' total row.mark next.mark row.lows (row.highs + growth low high row.mark)
          between.rises below past (pinned_span pin between) reach.growing reach.each reach.over
          (held.sums (suc k) (follows some)).share moving (omega (arith, pinned_total_lem k found.up_to, below, divided.divides)) under)

    -- the level lies below the next row's
    pub reached_below : (reach : Reach) → Divided row low high left reach → row.lows ≤ most_units → SpotBelow table (last_row table) k reach.level reach.over
    reached_below reach divided few =
        elim (dec_lt 0 left) [
          | yes some ↦
              let (moving, under) = divided.some some in
              let (up_to, inside) = level_inside lows' highs' total row.mark (next some).mark row.lows (row.highs + growth low high row.mark)
              (between some).rises (below some) (past some) (pinned_span pin (between some)) reach.growing reach.each reach.over moving
              (omega (arith, pinned_total_lem k found.up_to, below some, divided.divides)) under in
              record {
                below = record { up_to = found.up_to; from = omega (arith, divided.level); next = λ more. rw divided.level up_to };
                inside = λ over. (follows some, rw divided.level (inside over));
                few = divided_few divided few;
              }
          | no none ↦
              let (growing, each, over) = divided.none (omega arith) in
              let level : reach.level ≡ row.mark = omega (arith, divided.level) in
              record {
                below = record { up_to = found.up_to; from = omega arith; next = λ more. rw level (held.spans k more).rises };
                inside = λ over. absurd (omega arith);
                few = divided_few divided few;
              }
        ]

    pub reached : (reach : Reach) → Divided row low high left reach
        → Reached lows' highs' total row.mark reach.growing reach.level reach.over
    reached reach divided =
        elim (dec_lt 0 left) [
          | yes some ↦ reached_some some reach divided
          | no none ↦
              let (growing, each, over) = divided.none (omega arith) in
              let level : reach.level ≡ row.mark = omega (arith, divided.level) in
              rw (level, growing, over) (reached_mark lows' highs' total row.mark (held.sums k found.up_to).share
              (omega (arith, pinned_total_lem k found.up_to, found.holds)))
        ]
