-- To write number i of a field after the first i is to have written the first i + 1.
use Rattle.std.proofs.Common.{◌<◌, length-take, refl, add-one, arith}
use Rattle.std.proofs.lemmas.List.{get_or-take}
use Rattle.table.specs.Inner.Tables.{zeros}
use Rattle.table.proofs.Laws.Lists.{over_map}
use Rattle.table.proofs.take_bounds.Goals as goal

pub loop-i-init : goal.loop-i-init
unfolding zeros
loop-i-init c = record { lows = refl; highs = refl }

pub loop-i-preserved : goal.loop-i-preserved
loop-i-preserved c =
    let table = c.args.table.now in
    let count = c.min-count.result in
    let within : c.loop-i.i < count = omega (arith, length-take count table) in
    let entry = get_or-take count table c.loop-i.i (record { low = 0; high = 0 }) within in
    record {
      lows = rw (c.loop-i.invariant.lows, entry, add-one) (over_map (λ r. r.low) c.loop-i.i table zeros _ (omega (arith, length-take count table)));
      highs = rw (c.loop-i.invariant.highs, entry, add-one) (over_map (λ r. r.high) c.loop-i.i table zeros _ (omega (arith, length-take count table)));
    }
