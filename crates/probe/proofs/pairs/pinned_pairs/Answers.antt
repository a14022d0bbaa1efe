-- The value takes the own share's place, and the copies left over are given out. Assumes nothing.
use Rattle.std.proofs.Common.{◌≡◌, suc, ap, arith}
use Rattle.breakpoints.specs.declared.rows.Row.{Row}
use Rattle.breakpoints.specs.Inner.Distances.{LowsPassed}
use Rattle.breakpoints.specs.Inner.Rows.{row_at, last_row}
use Rattle.breakpoints.specs.Laws.PairRows.{differences_small}
use Rattle.probe.specs.Inner.Pairs.{WithValue, SpotBelow}
use Rattle.probe.specs.Laws.Lookups.{passed_over, spot_last, with_there}
use Rattle.probe.specs.Laws.PinnedPairs.{none_told, over_told, over_given, given_as, over_as}
use Rattle.probe.proofs.pairs.pinned_pairs.Goals as goal
use Rattle.probe.proofs.pairs.pinned_pairs.Goals.{After-read_row-row, After-with_value-pairs}

-- the group and its table, seen from the value in its place
is_with : (c : After-with_value-pairs)
    → WithValue c.args.lows.now c.args.highs.now c.args.trial.low c.args.trial.high c.args.trial.value c.args.spot.level c.with_value-pairs.result
is_with c = with_there c.distances_on-here.ensures c.with_value-pairs.ensures

pub returns-then-spot-eq0 : goal.returns-then-spot-eq0
returns-then-spot-eq0 c =
    let there = is_with (goal.at.returns-then-spot-eq0 c).After-with_value-pairs in
    record { is = λ pin. none_told c.requires.pair_lookable.sound.ranges pin (c.requires.spotted.reached pin).reached c.if-spot-eq0.true (there.is pin) }

-- copies are left over, and the row tells the lows passed
module _ (c : After-read_row-row) where
  spot : SpotBelow c.args.table.now (last_row c.args.table.now) c.args.spot.row c.args.spot.level c.args.spot.over
  spot = spot_last c.requires.pair_lookable c.requires.spotted.under

  up : LowsPassed c.args.lows.now (row_at c.args.table.now c.args.spot.row).mark (suc c.args.spot.level) (row_at c.args.table.now c.args.spot.row).lows
  up = passed_over c.requires.pair_lookable.paired spot (omega (arith, c.if-spot-eq0.false))

  lows_told : c.read_row-row.result.lows ≡ (row_at c.args.table.now c.args.spot.row).lows
  lows_told = ap (λ (row : Row). row.lows) c.read_row-row.ensures

pub with_over-requires : goal.with_over-requires
with_over-requires c =
    let at = goal.at.with_over-requires c in
    let sound = c.requires.pair_lookable.sound in
    let pin = c.requires.spotted.asked.pin in
    let reached = (c.requires.spotted.reached pin).reached in
    let before = (is_with at.After-with_value-pairs).is pin in
    let there = spot at.After-read_row-row in
    let small = differences_small pin.ranges c.args.spot.level reached.share (omega (arith, pin.count, sound.few)) in
    given_as c.requires.pair_lookable.counted (lows_told at.After-read_row-row)
    (over_given sound.ranges pin there.below.from (up at.After-read_row-row) reached before sound.few there.few (omega (arith, before, small)))

pub returns : goal.returns
returns c =
    let at = goal.at.returns c in
    let there = is_with at.After-with_value-pairs in
    record {
      is = λ pin.
          over_told c.requires.pair_lookable.sound.ranges pin (spot at.After-read_row-row).below.from (up at.After-read_row-row)
          (c.requires.spotted.reached pin).reached (there.is pin)
          (over_as c.requires.pair_lookable.counted (lows_told at.After-read_row-row) c.with_over.ensures);
    }
