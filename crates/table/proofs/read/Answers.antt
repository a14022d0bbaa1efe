-- Reading into a table's bounds is reading into its lows and highs.
use Rattle.std.proofs.Common.{◌≡◌, length, arith}
use Rattle.model.specs.Shares.{most_units}
use Rattle.table.specs.Inner.Tables.{bounds_of, after_reading}
use Rattle.table.proofs.Laws.Fronts.{read_table_lem}
use Rattle.table.proofs.read.Goals as goal

pub returns : goal.returns
returns c =
    let found : c.read_bounds-answer.result ≡ after_reading c.args.text.now (bounds_of c.args.table.now) =
    rw c.take_bounds.ensures at c.read_bounds-answer.ensures in
    let lows : length c.read_bounds-answer.result.0.lows ≡ most_units = omega arith in
    let highs : length c.read_bounds-answer.result.0.highs ≡ most_units = omega arith in
    rw (c.put_bounds.ensures, found) (read_table_lem c.args.text.now c.args.table.now (rw found at lows) (rw found at highs))
