-- What was counted and the members left that are ahead are all. Assumes nothing.
use native.Mathlib.Omega.{arith}
use mathlib.Core.Path.{ap}
use lib.ListN.{length}
use Rattle.model.specs.Levels.{roomier}
use Rattle.model.proofs.Laws.Headroom.{roomier_few}
use Rattle.headroom.proofs.count_above.Goals as goal

pub loop-low-preserved : goal.loop-low-preserved
unfolding roomier
loop-low-preserved c =
    let (lows, highs) = c.in-Some.ensures.steps in
    record {
      paired = omega (arith, ap length lows, ap length highs);
      counted = omega (arith, c.one_above-count.ensures, rw (lows, highs) at c.loop-low.invariant.counted);
    }

pub overflow_add-count : goal.overflow_add-count
overflow_add-count c = omega (arith, (loop-low-preserved c).counted, roomier_few c.args.lows.now c.args.highs.now c.args.v c.args.other)

pub returns : goal.returns
returns c = let few = roomier_few c.loop-low.low-iterator.a.rest.now c.loop-low.low-iterator.b.rest.now c.args.v c.args.other in
    grind (arith, c.in-None.ensures.steps)
