-- One row more has its numbers in each turn. Assumes nothing.
use Rattle.breakpoints.specs.Laws.PairFills.{PairsTo}
use Rattle.breakpoints.proofs.build.fill_pairs.Given as goal

abbrev pub invariant-loop-k : goal.invariant-loop-k
invariant-loop-k l = PairsTo l.lows l.highs l.fn.table l.table l.k l.row l.here
