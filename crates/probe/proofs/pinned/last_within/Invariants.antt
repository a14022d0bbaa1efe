-- The last row with T at most the total is between k and top, and the step stays small. Assumes nothing.
use Rattle.std.proofs.Common.{suc, ◌-◌, ◌≤◌, ◌<◌}
use Rattle.breakpoints.specs.Inner.Rows.{row_at}
use Rattle.probe.specs.Inner.Probes.{pinned_total}
use Rattle.probe.proofs.pinned.last_within.Given as goal

-- the last row is from k to below top
abbrev pub invariant-loop-top : goal.invariant-loop-top
invariant-loop-top l = record {
  apart : l.k < l.top;
  up_to : l.top ≤ suc l.last;
  holds : pinned_total (row_at l.table l.k) l.trial.low l.trial.high l.trial.value ≤ l.total;
  fails : l.top ≤ l.last → l.total < pinned_total (row_at l.table l.top) l.trial.low l.trial.high l.trial.value;
  steps : 0 < l.step;
  steps_few : l.step ≤ 1024;
}

abbrev pub decreases-loop-top : goal.decreases-loop-top
decreases-loop-top l = l.top - l.k
