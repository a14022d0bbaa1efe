-- The bar lies between a number with enough members above it and one with no more than there are copies. Assumes nothing.
use Prim.Native.Nat.{◌-◌}
use Rattle.headroom.specs.Inner.Takers.{BarBetween}
use Rattle.headroom.proofs.find_bar.Given as goal

abbrev pub invariant-loop-under : goal.invariant-loop-under
invariant-loop-under l = BarBetween l.lows l.highs l.v l.left l.under l.bar l.above

abbrev pub decreases-loop-under : goal.decreases-loop-under
decreases-loop-under l = l.bar - l.under
