-- Measured against the table, and copied. Assumes nothing.
use Rattle.std.proofs.Common.{length, arith}
use Rattle.job.proofs.Laws.Reading.{filled_accepted, table_fits}
use Rattle.job.proofs.fill.Goals as goal

pub returns : goal.returns
returns c = λ text job e f.
    let a = c.args in
    let fits = table_fits text (length a.lows.now) (length a.highs.now) job e (omega (arith, f.units_are)) (omega (arith, f.units_are)) in
    filled_accepted text a.lows.now a.highs.now fits f (rw c.copy_from_slice.ensures.after) (rw c.copy_from_slice-2.ensures.after)
