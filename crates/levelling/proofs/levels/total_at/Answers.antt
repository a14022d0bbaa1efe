-- What was added up and T(v) of the members left are T(v). Assumes nothing.
use native.Mathlib.Omega.{arith}
use lib.ListN.{drop_of_length-le}
use Rattle.model.specs.Shares.{sum}
use Rattle.model.specs.Levels.{total_at, clamped}
use Rattle.model.proofs.Laws.Lists.{ranges_at}
use Rattle.model.proofs.Laws.Walk.{total_at_walk}
use Rattle.model.proofs.Laws.Sound.{total_at_small}
use Rattle.levelling.proofs.levels.total_at.Goals as goal

pub clamp-total-requires : goal.clamp-total-requires
clamp-total-requires c = (ranges_at c.requires.sound_ranges.ranges c.loop-i.i (omega arith)).0

pub loop-i-preserved : goal.loop-i-preserved
loop-i-preserved c =
    omega (
      arith,
      total_at_walk c.args.lows.now c.args.highs.now c.loop-i.i (omega arith)
          (omega arith) c.args.v,
    )

pub overflow_add-total : goal.overflow_add-total
overflow_add-total c = omega (arith, loop-i-preserved c, total_at_small c.requires.sound_ranges c.args.v)

pub returns-clause-value : goal.returns-clause-value
unfolding total_at clamped sum
returns-clause-value c = rw (← c.loop-i.invariant, drop_of_length-le c.args.lows.now {i = c.loop-i.i} (omega arith)) (omega arith)
