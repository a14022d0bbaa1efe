-- The two numbers are written behind the row. Assumes nothing.
use Rattle.std.proofs.Common.{◌+◌, ◌*◌, add-one}
use Rattle.breakpoints.specs.Laws.Rows.{pair_row_written}
use Rattle.breakpoints.proofs.rows.write_pair_row.Goals as goal

pub returns : goal.returns
returns c = rw (add-one (7 * c.args.k + 5)) (pair_row_written c.args.k c.args.row c.args.table.now c.requires)
