-- The last row at or below the value is from k to below top. Assumes nothing.
use Prim.Native.Nat.{suc, ◌-◌, ◌≤◌, ◌<◌}
use Rattle.breakpoints.specs.Inner.Rows.{row_at}
use Rattle.breakpoints.proofs.distances.row_of.Given as goal

abbrev pub invariant-loop-top : goal.invariant-loop-top
invariant-loop-top l = record {
  apart : l.k < l.top;
  up_to : l.top ≤ suc l.last;
  from : (row_at l.table l.k).mark ≤ l.value;
  past : l.top ≤ l.last → l.value < (row_at l.table l.top).mark;
}

abbrev pub decreases-loop-top : goal.decreases-loop-top
decreases-loop-top l = l.top - l.k
