-- Filling the table row after row. Assumes nothing.
use Rattle.std.specs.Prelude.{ℕ, suc, ◌+◌, ◌*◌, ◌≤◌, ◌<◌, List, ◌≡◌, length}
use Rattle.std.proofs.Common.{◌∙◌, arith}
use Rattle.std.proofs.Math.Decide.{ℕ_discrete}
use Rattle.model.specs.Sound.{SoundRanges}
use Rattle.breakpoints.specs.declared.rows.Row.{Row}
use Rattle.breakpoints.specs.Inner.Rows.{row_at, last_row, RowWritten}
use Rattle.breakpoints.specs.Laws.Kept.{kept_ranges, kept_span}
use Rattle.breakpoints.specs.Laws.Rows.{last_row_lem}
use Rattle.breakpoints.specs.Laws.Spans.{span}
use Rattle.breakpoints.specs.Laws.Steps.{bounds_few}
use Rattle.breakpoints.specs.Laws.Walks.{parted_none, parted_all}
use Rattle.breakpoints.specs.Inner.Tables.{Sums, SpanTo, Breakpoints}
use Rattle.breakpoints.specs.Inner.Spans.{Parted}
use Rattle.breakpoints.specs.Inner.Steps.{Risen, RowReached, NextRow, Passed, Begun}

-- the rows up to k are filled, and this one is the last of them
pub record RowsTo (lows highs starts stops : List ℕ) (k : ℕ) (row : Row) (table : List ℕ) : Type 0 where
  pub room : length table ≡ 7 * (2 * length starts) + 7
  pub few : k ≤ 2 * length starts
  pub first : (row_at table 0).mark ≡ 0
  pub sums : (j : ℕ) → j ≤ k → Sums lows highs (row_at table j)
  pub spans : (j : ℕ) → j < k → SpanTo lows highs (row_at table j) (row_at table (suc j)).mark
  pub passed : (j : ℕ) → j < k → Parted (row_at table j).mark (row_at table (suc j)).mark (row_at table j).lows starts
  pub here : row_at table k ≡ row
  pub walk : RowReached lows highs starts stops row
  pub counted : row.lows + row.highs ≡ k

module _ {lows highs starts stops : List ℕ} where
  -- the first row
  pub filled_first : {row : Row} {before table : List ℕ} → length before ≡ 7 * (2 * length starts) + 7
      → Begun lows highs row → RowWritten 0 row before table → RowsTo lows highs starts stops 0 row table
  filled_first {row} {before} {table} room begun put = record {
    room = rw put.same room;
    few = omega arith;
    first = rw put.here begun.at;
    sums = λ j h. let e : j ≡ 0 = omega arith in rw (e, put.here) begun.sums;
    spans = λ j h. absurd (omega arith);
    passed = λ j h. absurd (omega arith);
    here = put.here;
    walk = record {
      sums = begun.sums;
      parted_lows = rw (begun.at, begun.no_lows) (parted_none starts);
      parted_highs = rw (begun.at, begun.no_highs) (parted_none stops);
    };
    counted = omega (arith, begun.no_lows, begun.no_highs);
  }

  -- one row more
  pub rows_next : {k : ℕ} {row next : Row} {before table : List ℕ} → RowsTo lows highs starts stops k row before → k < 2 * length starts
      → NextRow lows highs starts stops row next → RowWritten (suc k) next before table
      → RowsTo lows highs starts stops (suc k) next table
  rows_next {k} {row} {next} {before} {table} filled more stepped put =
      let kept : (j : ℕ) → j ≤ k → row_at table j ≡ row_at before j = (λ j h. put.others j (λ e. omega arith)) in
      record {
        room = rw put.same filled.room;
        few = more;
        first = rw (kept 0 (omega arith)) filled.first;
        sums = λ j h. elim (ℕ_discrete j (suc k)) [
          | yes e ↦ rw (e, put.here) stepped.walk.sums
          | no e ↦ rw (kept j (omega arith)) (filled.sums j (omega arith))
        ];
        spans = λ j h. elim (ℕ_discrete j k) [
          | yes e ↦ rw (e, put.here, kept k (omega arith), filled.here) stepped.span
          | no e ↦ rw (kept j (omega arith), kept (suc j) (omega arith)) (filled.spans j (omega arith))
        ];
        passed = λ j h. elim (ℕ_discrete j k) [
          | yes e ↦ rw (e, put.here, kept k (omega arith), filled.here) stepped.passed
          | no e ↦ rw (kept j (omega arith), kept (suc j) (omega arith)) (filled.passed j (omega arith))
        ];
        here = put.here;
        walk = stepped.walk;
        counted = omega (arith, stepped.counted, filled.counted);
      }

  -- all rows: every bound is passed
  pub rows_all : {k : ℕ} {row : Row} {table : List ℕ} → SoundRanges lows highs → Risen lows highs starts stops
      → RowsTo lows highs starts stops k row table → 2 * length starts ≤ k → Breakpoints lows highs table × Passed starts table
  rows_all {k} {row} {table} sound risen filled past =
      let bounds = bounds_few sound risen in
      let full : last_row table ≡ k = last_row_lem table (2 * length starts) filled.room ∙ omega (arith, filled.few) in
      let few_lows = filled.walk.parted_lows.few in
      let few_highs = filled.walk.parted_highs.few in
      let all_lows : row.lows ≡ length starts = omega (arith, filled.counted, bounds.1) in
      let all_highs : row.highs ≡ length stops = omega (arith, filled.counted, bounds.1) in (
        record {
          room = omega (arith, filled.room, filled.few);
          few = omega (arith, filled.few, bounds.0);
          first = filled.first;
          sums = λ j h. filled.sums j (omega arith);
          spans = λ j h. filled.spans j (omega arith);
          last = rw (full, filled.here) (kept_span sound.ranges risen.kept (span (kept_ranges sound.ranges risen.kept) risen.starts_from.rearranged risen.stops_from.rearranged
              (omega (arith, filled.walk.sums.share))
              (parted_all filled.walk.parted_lows all_lows) (parted_all filled.walk.parted_highs all_highs)));
          all = rw (full, filled.here) (omega (arith, bounds.1));
        },
        record {
          up = λ j h. filled.passed j (omega arith);
          last = rw (full, filled.here) (parted_all filled.walk.parted_lows all_lows);
        },
      )
