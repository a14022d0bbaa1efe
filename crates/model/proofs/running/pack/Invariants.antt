-- The running members passed are at the front, in order. Assumes nothing.
use Rattle.model.proofs.Laws.Packing.{Packed}
use Rattle.model.proofs.running.pack.Given as goal

abbrev pub invariant-loop-i : goal.invariant-loop-i
invariant-loop-i l = Packed l.marks l.initial.numbers l.numbers l.count l.i
