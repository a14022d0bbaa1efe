-- From the row below the level no bound lies before it. Assumes nothing.
use Rattle.breakpoints.specs.Inner.Distances.{LowsPassed, MarkedBelow}
use Rattle.breakpoints.specs.Inner.Rows.{row_at, last_row}
use Rattle.breakpoints.specs.Inner.Tables.{SpanTo}
use Rattle.breakpoints.specs.Laws.PairRows.{value_span, distances_movable, distances_moved}
use Rattle.probe.proofs.lookups.distances_on.Goals as goal
use Rattle.probe.proofs.lookups.distances_on.Goals.{Start}

-- what is asked, and the row
module _ (s : Start) where
  found : MarkedBelow s.args.table.now (last_row s.args.table.now) s.args.level s.args.k
  found = rw s.requires.pair_lookable.ended at s.requires.marked_below

  spans : SpanTo s.args.lows.now s.args.highs.now (row_at s.args.table.now s.args.k) s.args.level
      × LowsPassed s.args.lows.now (row_at s.args.table.now s.args.k).mark s.args.level (row_at s.args.table.now s.args.k).lows
  spans = value_span s.requires.pair_lookable.held s.requires.pair_lookable.paired s.requires.level_le_greatest_share found

pub distances_at-requires : goal.distances_at-requires
distances_at-requires c =
    let s = (goal.at.distances_at-requires c).Start in
    let asked = c.requires.pair_lookable in
    let k = (found s).up_to in
    rw (c.read_row-row.ensures, c.read_pair_row-here.ensures, asked.counted)
    (distances_movable asked.sound.ranges (asked.held.sums _ k) (asked.paired.rows _ k) (spans s).0 (spans s).1 asked.sound.few c.requires.level_le_greatest_share)

pub returns : goal.returns
returns c =
    let s = (goal.at.returns c).Start in
    let asked = c.requires.pair_lookable in
    let k = (found s).up_to in
    distances_moved asked.sound.ranges (asked.held.sums _ k) (asked.paired.rows _ k) (spans s).0 (spans s).1
    (rw (c.read_row-row.ensures, c.read_pair_row-here.ensures, asked.counted) at c.distances_at.ensures)
