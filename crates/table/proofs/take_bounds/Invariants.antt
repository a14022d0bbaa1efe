-- The first numbers of both arrays are the table's, the others 0.
use Rattle.std.proofs.Common.{◌≡◌}
use Rattle.table.specs.Tables.{lows_in, highs_in}
use Rattle.table.specs.Inner.Tables.{over, zeros}
use Rattle.table.proofs.take_bounds.Given as goal

abbrev pub invariant-loop-i : goal.invariant-loop-i
invariant-loop-i l = record { lows : l.lows ≡ over l.i (lows_in l.table) zeros; highs : l.highs ≡ over l.i (highs_in l.table) zeros }
