-- Writing with a table's bounds is writing with its lows and highs.
use Rattle.table.proofs.Laws.Fronts.{written_table}
use Rattle.table.proofs.write.Goals as goal

pub returns : goal.returns
returns c = rw (c.write_bounds.ensures, c.take_bounds.ensures) (written_table c.args.text.now c.args.table.now c.args.buffer.now)
