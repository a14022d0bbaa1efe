-- Of the members passed, the running ones' ranges are replaced, and those of the others are still to come. Assumes nothing.
use Rattle.member_ranges.specs.Laws.Writing.{Scattered}
use Rattle.member_ranges.proofs.scatter_running.Given as goal

abbrev pub invariant-loop-member : goal.invariant-loop-member
invariant-loop-member l =
    Scattered l.members l.marks l.member_lows l.initial.lows l.lows l.count l.member-index
    × Scattered l.members l.marks l.member_highs l.initial.highs l.highs l.count l.member-index
