-- The numbers passed are written. Assumes nothing.
use Rattle.model.proofs.Laws.Writing.{Filled}
use Rattle.model.proofs.lists.copy.Given as goal

abbrev pub invariant-loop-i : goal.invariant-loop-i
invariant-loop-i l = Filled l.from l.initial.to l.to l.i
