-- One row more is filled in each turn; at the end every bound is passed. Assumes nothing.
use Rattle.std.proofs.Common.{arith, add-one}
use Rattle.breakpoints.specs.Laws.Fills.{rows_next, rows_all}
use Rattle.breakpoints.proofs.build.fill.Goals as goal

pub loop-k-preserved : goal.loop-k-preserved
loop-k-preserved c = rw add-one (rows_next c.loop-k.invariant (omega arith) c.next_row-row.ensures (rw add-one at c.write_row-in-loop-k.ensures))

pub returns : goal.returns
returns c = let (breakpoints, passed) = rows_all c.requires.sound_ranges c.requires.risen c.loop-k.invariant (omega arith) in
    record { breakpoints = breakpoints; passed = passed }
