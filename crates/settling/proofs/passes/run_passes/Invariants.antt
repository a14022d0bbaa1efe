-- Within a pass, the turns taken and those left are the pass; between passes, the passes done and those left are the settling.
-- Each pass that changes the table makes the sum of widths fall. Assumes nothing.
use Rattle.member_ranges.specs.Tables.{table_of, width}
use Rattle.works.proofs.Laws.Running.{PassUnderWay, SettlingUnderWay}
use Rattle.settling.proofs.passes.run_passes.Given as goal

abbrev pub invariant-loop-turns : goal.invariant-loop-turns
invariant-loop-turns l =
    PassUnderWay l.flat l.groups (table_of l.initial.lows l.initial.highs) (table_of l.lows l.highs) l.at l.turns

abbrev pub invariant-passes : goal.invariant-passes
invariant-passes l =
    SettlingUnderWay l.flat l.groups (table_of l.initial.lows l.initial.highs) (table_of l.lows l.highs) l.passes

abbrev pub decreases-passes : goal.decreases-passes
decreases-passes l = width (table_of l.lows l.highs)
