-- From the value's own level to the other, what is far moves as T does. Assumes nothing.
use Rattle.std.proofs.Common.{arith}
use Rattle.breakpoints.specs.Laws.PairRows.{distances_small, far_told}
use Rattle.probe.proofs.lookups.far_from.Goals as goal

pub overflow_add-result : goal.overflow_add-result
overflow_add-result c =
    let sound = c.requires.pair_lookable.sound in
    let there = distances_small sound.ranges sound.few c.requires.level_le_greatest_share.1 c.distances_on-there.ensures in
    let here = distances_small sound.ranges sound.few c.requires.level_le_greatest_share.0 c.requires.distances_at in
    omega (arith, c.abs_diff.ensures, there.0, there.1, here.0)

pub returns : goal.returns
returns c = far_told c.requires.pair_lookable.sound.ranges c.requires.distances_at c.distances_on-there.ensures c.abs_diff.ensures
