-- Of the members passed, the running ones' ranges are written, in order. Assumes nothing.
use Rattle.member_ranges.specs.Laws.Writing.{Gathered}
use Rattle.member_ranges.proofs.gather_running.Given as goal

abbrev pub invariant-loop-member : goal.invariant-loop-member
invariant-loop-member l =
    Gathered l.members l.marks l.lows l.initial.member_lows l.member_lows l.count l.member-index
    × Gathered l.members l.marks l.highs l.initial.member_highs l.member_highs l.count l.member-index
