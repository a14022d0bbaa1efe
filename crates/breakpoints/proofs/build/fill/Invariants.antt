-- One row more is filled in each turn; at the end every bound is passed. Assumes nothing.
use Rattle.breakpoints.specs.Laws.Fills.{RowsTo}
use Rattle.breakpoints.proofs.build.fill.Given as goal

abbrev pub invariant-loop-k : goal.invariant-loop-k
invariant-loop-k l = RowsTo l.lows l.highs l.starts l.stops l.k l.row l.table
