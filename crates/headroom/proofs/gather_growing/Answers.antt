-- What was gathered and the members left that can take a copy are all. Assumes nothing.
use native.Mathlib.Omega.{arith}
use lib.ListN.{get_or, drop_of_length-le}
use Rattle.model.specs.Levels.{roomier}
use Rattle.model.proofs.Laws.Headroom.{ahead_own, growth_most}
use Rattle.model.proofs.Laws.Walk.{roomier_walk}
use Rattle.headroom.proofs.gather_growing.Goals as goal

pub loop-i-preserved : goal.loop-i-preserved
loop-i-preserved c =
    let i = c.loop-i.i in
    let low = get_or c.args.lows.now i 0 in
    let high = get_or c.args.highs.now i 0 in
    let counted = roomier_walk c.args.lows.now c.args.highs.now i (omega arith) (omega arith) c.args.v c.args.v in
    (omega (arith, c.growth.ensures, growth_most low high c.args.v), omega (arith, c.growth.ensures, counted, ahead_own low high c.args.v))

pub overflow_add-count : goal.overflow_add-count
overflow_add-count c = omega (arith, (loop-i-preserved c).0, c.requires.sound_ranges.few)

pub returns-clause-value : goal.returns-clause-value
unfolding roomier
returns-clause-value c =
    let all = rw (drop_of_length-le c.args.lows.now {i = c.loop-i.i} (omega arith)) at c.loop-i.invariant.1 in
    omega arith
