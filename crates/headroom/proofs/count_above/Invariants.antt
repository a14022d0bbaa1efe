-- What was counted and the members left that are ahead are all. Assumes nothing.
use mathlib.Core.Path.{◌≡◌}
use Prim.Native.Nat.{◌+◌}
use lib.ListN.{length}
use Rattle.model.specs.Levels.{roomier}
use Rattle.headroom.proofs.count_above.Given as goal

abbrev pub invariant-loop-low : goal.invariant-loop-low
invariant-loop-low l = record {
  paired : length l.low-iterator.b.rest.now ≡ length l.low-iterator.a.rest.now;
  counted : l.count + roomier l.low-iterator.a.rest.now l.low-iterator.b.rest.now l.v l.other ≡ roomier l.lows l.highs l.v l.other;
}
