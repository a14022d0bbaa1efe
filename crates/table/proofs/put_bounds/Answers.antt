-- To write entry i after the first i is to have written the first i + 1.
use Rattle.std.proofs.Common.{add-one, arith}
use Rattle.table.proofs.Laws.Lists.{over_ranges}
use Rattle.table.proofs.put_bounds.Goals as goal

pub loop-i-preserved : goal.loop-i-preserved
loop-i-preserved c =
    rw (c.loop-i.invariant, add-one) (over_ranges c.loop-i.i c.args.bounds.lows c.args.bounds.highs c.args.table.now (omega arith) (omega arith))
