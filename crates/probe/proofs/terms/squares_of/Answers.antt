-- The quotient is the greatest sum of squares that the limit allows. Assumes nothing.
use Rattle.std.proofs.Common.{arith}
use Rattle.probe.specs.Laws.Terms.{squares_most}
use Rattle.probe.proofs.terms.squares_of.Goals as goal

pub returns : goal.returns
returns c = rw c.in-AtMost.is (squares_most _ _ _ (omega arith))
