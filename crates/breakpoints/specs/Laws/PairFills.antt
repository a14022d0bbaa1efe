-- Filling the two numbers behind each row. Assumes nothing.
use Rattle.std.specs.Prelude.{ℕ, suc, ◌*◌, ◌≤◌, ◌<◌, List, ◌≡◌, length}
use Rattle.std.proofs.Common.{sym, ap, ◌∙◌, arith}
use Rattle.std.proofs.Math.Decide.{ℕ_discrete}
use Rattle.model.specs.Figures.{apart, pairs}
use Rattle.model.specs.Inner.Orders.{Rising, Ordered}
use Rattle.model.specs.Levels.{clamped}
use Rattle.model.specs.Shares.{sum, sum_of, greatest_share, greatest_total, most_units}
use Rattle.model.proofs.Laws.Lists.{sum_sum_of}
use Rattle.model.specs.Sound.{SoundRanges}
use Rattle.model.proofs.Laws.Pairs.{sum_of_same, pairs_same}
use Rattle.breakpoints.specs.declared.distances.Distances.{Distances}
use Rattle.breakpoints.specs.declared.rows.PairRow.{PairRow}
use Rattle.breakpoints.specs.declared.rows.Row.{Row}
use Rattle.breakpoints.specs.Inner.Distances.{PairSums, LowsPassed, Paired, DistancesMoved, DistancesMovable}
use Rattle.breakpoints.specs.Inner.Rows.{row_at, pair_row_at, last_row, PairRowWritten}
use Rattle.breakpoints.specs.Inner.Steps.{Passed}
use Rattle.breakpoints.specs.Inner.Tables.{Breakpoints, itself}
use Rattle.breakpoints.specs.Laws.PairRows.{lows_passed, far_small, distances_moved, distances_movable}
use Rattle.breakpoints.specs.Laws.Sums.{clamped_least}

-- the numbers behind the rows up to k are written in a table that had none, and the rows are as they were
pub record PairsTo (lows highs start table : List ℕ) (k : ℕ) (row : Row) (here : PairRow) : Type 0 where
  pub same : length table ≡ length start
  pub rows : (j : ℕ) → row_at table j ≡ row_at start j
  pub up_to : k ≤ last_row start
  pub is : row ≡ row_at start k
  pub sums : PairSums lows highs (row_at start k).mark here
  pub told : (j : ℕ) → j ≤ k → PairSums lows highs (row_at start j).mark (pair_row_at table j)

-- a table as long has the same last row
same_last : (start table : List ℕ) → length table ≡ length start → last_row table ≡ last_row start
unfolding last_row
same_last start table same = rw same

module _ {lows highs starts start : List ℕ} (sound : SoundRanges lows highs) (sorted : Ordered (length lows) lows starts)
    (held : Breakpoints lows highs start) (passed : Passed starts start) where
  -- at level 0 the shares are the lows
  pub pairs_first : {table : List ℕ} {row : Row} {here : PairRow} → row ≡ row_at start 0 → here.far ≡ row.total → here.pairs ≡ pairs starts
      → PairRowWritten 0 here start table → PairsTo lows highs start table 0 row here
  pairs_first {table} {row} {here} is far differ put =
      let first = held.sums 0 (omega arith) in
      let totals : here.far ≡ sum_of itself (clamped lows highs (row_at start 0).mark) = far ∙ ap (λ (r : Row). r.total) is ∙ first.totals in
      let begun : PairSums lows highs (row_at start 0).mark here = record {
        far = totals ∙ rw held.first (sum_of_same itself (apart 0) (λ x. omega arith) (clamped lows highs 0));
        pairs = differ ∙ pairs_same starts lows sorted.rearranged.sums ∙ rw held.first (ap pairs (sym (clamped_least sound.ranges)));
      } in
      record {
        same = put.same;
        rows = put.rows;
        up_to = omega arith;
        is = is;
        sums = begun;
        told = λ j h. let e : j ≡ 0 = omega arith in rw (e, put.here) begun;
      }

  module _ {table : List ℕ} {k : ℕ} {row : Row} {here : PairRow} (filled : PairsTo lows highs start table k row here) (more : k < last_row start) where
    up : LowsPassed lows (row_at start k).mark (row_at start (suc k)).mark (row_at start k).lows
    up = lows_passed sorted.rearranged sorted.same (held.spans k more).rises (passed.up k more)

    -- the distances at the next row's level can be computed
    pub next_movable : {next : Row} → next ≡ row_at start (suc k) → DistancesMovable (length lows) row here next.mark
    next_movable is_next =
        rw (is_next, filled.is) (distances_movable sound.ranges (held.sums k filled.up_to) filled.sums (held.spans k more) up sound.few (held.sums (suc k) more).share)

    -- and are written behind it
    pub pairs_next : {after : List ℕ} {there : Distances} {next : Row} {behind : PairRow} → next ≡ row_at start (suc k) → DistancesMoved (length lows) row here next.mark there
        → behind.far ≡ there.far → behind.pairs ≡ there.pairs → PairRowWritten (suc k) behind table after → PairsTo lows highs start after (suc k) next behind
    pairs_next {behind = behind} is_next moved far differ put =
        let at = distances_moved sound.ranges (held.sums k filled.up_to) filled.sums (held.spans k more) up (rw (is_next, filled.is) at moved) in
        let sums : PairSums lows highs (row_at start (suc k)).mark behind = record { far = far ∙ at.fars; pairs = differ ∙ at.differ } in
        record {
          same = put.same ∙ filled.same;
          rows = λ j. put.rows j ∙ filled.rows j;
          up_to = more;
          is = is_next;
          sums = sums;
          told = λ j h. elim (ℕ_discrete j (suc k)) [
            | yes e ↦ rw (e, put.here) sums
            | no e ↦ rw (put.others j e) (filled.told j (omega arith))
          ];
        }

  -- all rows have theirs
  pub pairs_all : {table : List ℕ} {k : ℕ} {row : Row} {here : PairRow} → PairsTo lows highs start table k row here → last_row start ≤ k
      → Breakpoints lows highs table × Paired lows highs table
  pairs_all {table} {k} filled end =
      let full : last_row table ≡ last_row start = same_last start table filled.same in
      let rows = filled.rows in (
        record {
          room = rw (full, filled.same) held.room;
          few = rw full held.few;
          first = rw (rows 0) held.first;
          sums = λ j h. rw (rows j) (held.sums j (omega (arith, full)));
          spans = λ j h. rw (rows j, rows (suc j)) (held.spans j (omega (arith, full)));
          last = rw (full, rows (last_row start)) held.last;
          all = rw (full, rows (last_row start)) held.all;
        },
        record {
          rows = λ j h. rw (rows j) (filled.told j (omega (arith, full)));
          passed = λ j h. let follows : j < last_row start = omega (arith, full) in
              rw (rows j, rows (suc j)) (lows_passed sorted.rearranged sorted.same (held.spans j follows).rises (passed.up j follows));
          last = rw (full, rows (last_row start)) (lows_passed sorted.rearranged sorted.same held.last.rises passed.last);
        },
      )

-- the sorted lows are what the first row's numbers are asked of
pub starts_sorted : {lows highs starts : List ℕ} → SoundRanges lows highs → Ordered (length lows) lows starts
    → Rising (length starts) starts × (length starts ≤ most_units) × (sum starts ≤ greatest_total)
starts_sorted {lows} {highs} {starts} sound sorted =
    let all : sum_of itself lows ≤ length lows * greatest_share = rw (clamped_least sound.ranges) at (far_small sound.ranges 0 0 (omega arith)).1 in (
      rw sorted.same sorted.rising,
      omega (arith, sorted.same, sound.few),
      omega (arith, all, sum_sum_of starts, sorted.rearranged.sums itself, sound.few),
    )
