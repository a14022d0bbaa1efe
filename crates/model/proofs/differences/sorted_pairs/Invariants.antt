-- From the last number on, each is taken from all later ones. Assumes nothing.
use Rattle.std.proofs.Common.{◌≡◌, length, take}
use Rattle.model.proofs.Laws.Pairs.{PairsFrom}
use Rattle.model.proofs.differences.sorted_pairs.Given as goal

abbrev pub invariant-loop-x : goal.invariant-loop-x
invariant-loop-x l =
    let rest = l.x-iterator.iter.rest.now in
    PairsFrom l.xs (length rest) l.later l.sum l.pairs × (rest ≡ take (length rest) l.xs)
