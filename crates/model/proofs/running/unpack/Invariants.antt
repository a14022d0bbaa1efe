-- The members from i on have their numbers back. Assumes nothing.
use Rattle.std.proofs.Common.{◌≡◌, length, take}
use Rattle.model.proofs.Laws.Packing.{Unpacked}
use Rattle.model.proofs.running.unpack.Given as goal

abbrev pub invariant-loop-i : goal.invariant-loop-i
invariant-loop-i l =
    let rest = l.i-iterator.iter.iter.rest.now in
    Unpacked l.marks l.numbers (take l.count l.initial.numbers) l.left (length rest)
    × (l.i-iterator.iter.count ≡ 0) × (rest ≡ take (length rest) l.marks)
