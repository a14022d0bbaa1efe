-- The parts passed and those left are the sum over all lows, and over all highs. Assumes nothing.
use Rattle.std.proofs.Common.{◌≡◌, ◌+◌, length}
use Rattle.model.specs.Shares.{Ranges, sum_of}
use Rattle.probe.specs.Inner.Sides.{above_mean, below_mean}
use Rattle.probe.proofs.sides.both_sides.Given as goal

abbrev pub invariant-loop-low : goal.invariant-loop-low
invariant-loop-low l = record {
  ranges : Ranges l.low-iterator.a.rest.now l.low-iterator.b.rest.now;
  lows_passed : l.above + sum_of (above_mean (length l.lows) l.total) l.low-iterator.a.rest.now ≡ sum_of (above_mean (length l.lows) l.total) l.lows;
  highs_passed : l.below + sum_of (below_mean (length l.lows) l.total) l.low-iterator.b.rest.now ≡ sum_of (below_mean (length l.lows) l.total) l.highs;
}
