-- The entries of the members passed are written, in order. Assumes nothing.
use Rattle.member_ranges.specs.Tables.{gather}
use Rattle.model.proofs.Laws.Writing.{Filled}
use Rattle.member_ranges.proofs.gather.Given as goal

abbrev pub invariant-loop-k : goal.invariant-loop-k
invariant-loop-k l = Filled (gather l.entries l.members) l.initial.out l.out l.k
