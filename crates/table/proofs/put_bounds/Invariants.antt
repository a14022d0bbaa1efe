-- The first entries are the bounds', the others as they were.
use Rattle.std.proofs.Common.{◌≡◌}
use Rattle.table.specs.Inner.Tables.{over, ranges}
use Rattle.table.proofs.put_bounds.Given as goal

abbrev pub invariant-loop-i : goal.invariant-loop-i
invariant-loop-i l = l.table ≡ over l.i (ranges l.bounds.lows l.bounds.highs) l.initial.table
