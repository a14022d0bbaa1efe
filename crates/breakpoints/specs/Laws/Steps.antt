-- From one row of the table to the next, on the way up the rising bounds. Assumes nothing.
use Rattle.std.specs.Prelude.{ℕ, ◌+◌, ◌≤◌, ◌<◌, List, ◌≡◌, length, get_or}
use Rattle.std.proofs.Common.{le_refl, add-one, arith}
use Rattle.model.specs.Shares.{Ranges, greatest_share}
use Rattle.model.specs.Sound.{SoundRanges}
use Rattle.model.proofs.Laws.Lists.{ranges_at}
use Rattle.breakpoints.specs.declared.rows.Row.{Row}
use Rattle.model.specs.Inner.Orders.{Rising}
use Rattle.breakpoints.specs.Laws.Kept.{kept_ranges, kept_few, kept_span}
use Rattle.breakpoints.specs.Laws.Spans.{span}
use Rattle.breakpoints.specs.Laws.Walks.{rearranged_small, next_up, passes_none, passed_none, passed_one}
use Rattle.breakpoints.specs.Inner.Tables.{Sums, SpanTo, RowMoved}
use Rattle.breakpoints.specs.Inner.Steps.{Risen, RowReached, NextRow}

-- a row with other numbers of bounds passed: one low more, or one high more
abbrev with_passed : Row → ℕ → ℕ → Row
with_passed row a b = record {
  mark = row.mark;
  total = row.total;
  squares = row.squares;
  lows = a;
  highs = b;
}

abbrev pub low_passed : Row → Row
low_passed row = with_passed row (row.lows + 1) row.highs

abbrev pub high_passed : Row → Row
high_passed row = with_passed row row.lows (row.highs + 1)

-- its sums are the same
still_sums : {lows highs : List ℕ} {row : Row} {a b : ℕ} → Sums lows highs row → a ≤ length lows → b ≤ length lows
    → Sums lows highs (with_passed row a b)
still_sums sums few_lows few_highs = record {
  share = sums.share;
  totals = sums.totals;
  squares = sums.squares;
  few_lows = few_lows;
  few_highs = few_highs;
}

module _ {lows highs starts stops : List ℕ} (sound : SoundRanges lows highs) (risen : Risen lows highs starts stops) where
  -- the kept members' ranges, and how many bounds they have
  kept_in : Ranges risen.kept_lows risen.kept_highs
  kept_in = kept_ranges sound.ranges risen.kept

  pub bounds_few : (length starts ≤ length lows) × (length stops ≡ length starts)
  bounds_few = let few = kept_few risen.kept in (omega (arith, few.0, risen.starts_from.same), omega (arith, few.1, risen.starts_from.same, risen.stops_from.same))

  -- every bound is a share
  start_small : (i : ℕ) → i < length starts → get_or starts i 0 ≤ greatest_share
  start_small = rearranged_small greatest_share risen.starts_from.rearranged (λ i below. omega (arith, ranges_at kept_in i below))

  stop_small : (i : ℕ) → i < length stops → get_or stops i 0 ≤ greatest_share
  stop_small = rearranged_small greatest_share risen.stops_from.rearranged
      (λ i below. omega (arith, ranges_at kept_in i (omega (arith, (kept_few risen.kept).1))))

  starts_rise : Rising (length starts) starts
  starts_rise = rw risen.starts_from.same risen.starts_from.rising

  stops_rise : Rising (length stops) stops
  stops_rise = rw risen.stops_from.same risen.stops_from.rising

  module _ {row : Row} (walk : RowReached lows highs starts stops row) where
    -- where the next bound is w, no bound lies between
    span_next : (w : ℕ) → row.mark ≤ w
        → (row.lows < length starts → w ≤ get_or starts row.lows 0)
        → (row.highs < length stops → w ≤ get_or stops row.highs 0)
        → SpanTo lows highs row w
    span_next w up below_low below_high =
        kept_span sound.ranges risen.kept (span kept_in risen.starts_from.rearranged risen.stops_from.rearranged up
        (passes_none starts_rise walk.parted_lows below_low)
        (passes_none stops_rise walk.parted_highs below_high))

    module _ (first : (row.lows < length starts) × (row.highs < length stops → get_or starts row.lows 0 ≤ get_or stops row.highs 0)) where
      low_up : row.mark ≤ get_or starts row.lows 0
      low_up = next_up starts_rise walk.parted_lows first.0

      -- where a low comes first, no bound lies before it
      pub low_next : SpanTo lows highs row (get_or starts row.lows 0) × (get_or starts row.lows 0 ≤ greatest_share)
      low_next = (span_next _ low_up (λ h. le_refl _) first.1, start_small row.lows first.0)

      -- and the row for it has one low more passed
      pub low_stepped : {after : Row} → RowMoved lows highs row (get_or starts row.lows 0) after
          → NextRow lows highs starts stops row (low_passed after)
      low_stepped m = record {
        span = rw m.at low_next.0;
        passed = rw m.at (passes_none starts_rise walk.parted_lows (λ h. le_refl _));
        walk = record {
          sums = still_sums m.sums (omega (arith, m.same_lows, bounds_few.0)) m.sums.few_highs;
          parted_lows = rw (m.at, m.same_lows, add-one) (passed_one starts_rise walk.parted_lows first.0);
          parted_highs = rw (m.at, m.same_highs) (passed_none stops_rise walk.parted_highs low_up first.1);
        };
        counted = omega (arith, m.same_lows, m.same_highs);
      }

    module _ (first : (row.highs < length stops) × (row.lows < length starts → get_or stops row.highs 0 ≤ get_or starts row.lows 0)) where
      high_up : row.mark ≤ get_or stops row.highs 0
      high_up = next_up stops_rise walk.parted_highs first.0

      -- where a high comes first, no bound lies before it
      pub high_next : SpanTo lows highs row (get_or stops row.highs 0) × (get_or stops row.highs 0 ≤ greatest_share)
      high_next = (span_next _ high_up first.1 (λ h. le_refl _), stop_small row.highs first.0)

      -- and the row for it has one high more passed
      pub high_stepped : {after : Row} → RowMoved lows highs row (get_or stops row.highs 0) after
          → NextRow lows highs starts stops row (high_passed after)
      high_stepped m = record {
        span = rw m.at high_next.0;
        passed = rw m.at (passes_none starts_rise walk.parted_lows first.1);
        walk = record {
          sums = still_sums m.sums m.sums.few_lows (omega (arith, m.same_highs, bounds_few));
          parted_lows = rw (m.at, m.same_lows) (passed_none starts_rise walk.parted_lows high_up first.1);
          parted_highs = rw (m.at, m.same_highs, add-one) (passed_one stops_rise walk.parted_highs first.0);
        };
        counted = omega (arith, m.same_lows, m.same_highs);
      }
