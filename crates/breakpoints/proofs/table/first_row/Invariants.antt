-- Each sum of the lows passed and those left is the sum over all lows, which are the shares at level 0. Assumes nothing.
use Rattle.breakpoints.specs.Laws.Sums.{Added}
use Rattle.breakpoints.specs.Inner.Tables.{itself, square}
use Rattle.breakpoints.proofs.table.first_row.Given as goal

abbrev pub invariant-loop-low : goal.invariant-loop-low
invariant-loop-low l = Added itself l.lows l.low-index l.copies × Added square l.lows l.low-index l.squares
