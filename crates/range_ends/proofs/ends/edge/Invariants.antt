-- The search keeps a value that no plan gives outside and one that some plan gives inside, and comes nearer. Assumes nothing.
use Rattle.model.specs.Figures.{apart}
use Rattle.range_ends.specs.Inner.Known.{Bracketed}
use Rattle.range_ends.proofs.ends.edge.Given as goal

abbrev pub invariant-loop-question : goal.invariant-loop-question
invariant-loop-question l =
    Bracketed l.lows l.highs l.table l.question.total l.question.limits l.member l.initial.found.outer l.initial.found.inner l.found

abbrev pub decreases-loop-question : goal.decreases-loop-question
decreases-loop-question l = apart l.found.outer l.found.inner
