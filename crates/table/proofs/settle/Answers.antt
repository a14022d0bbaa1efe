-- Settling over a table's bounds is settling over its lows and highs.
use Rattle.std.proofs.Common.{◌≡◌, length, arith}
use Rattle.model.specs.Shares.{most_units}
use Rattle.table.specs.Inner.Tables.{bounds_of, after_settling}
use Rattle.table.proofs.Laws.Fronts.{settled_table_lem}
use Rattle.table.proofs.settle.Goals as goal

pub returns : goal.returns
returns c =
    let settled : c.settle_bounds-answer.result ≡ after_settling c.args.text.now (bounds_of c.args.table.now) (length c.args.scratch.now) =
    rw c.take_bounds.ensures at c.settle_bounds-answer.ensures in
    let lows : length c.settle_bounds-answer.result.0.lows ≡ most_units = omega arith in
    let highs : length c.settle_bounds-answer.result.0.highs ≡ most_units = omega arith in
    rw (c.put_bounds.ensures, settled) (settled_table_lem c.args.text.now c.args.table.now (length c.args.scratch.now) (rw settled at lows) (rw settled at highs))
