-- The five numbers are written one after another from the row's place on. Assumes nothing.
use Rattle.std.proofs.Common.{ℕ, ◌≡◌, suc, ◌+◌, ◌*◌, arith}
use Rattle.breakpoints.specs.Laws.Rows.{row_written}
use Rattle.breakpoints.proofs.rows.write_row.Goals as goal

pub returns : goal.returns
returns c =
    let at : ℕ = 7 * c.args.k in
    let one : at + 1 ≡ suc at = omega arith in
    let two : at + 2 ≡ suc (suc at) = omega arith in
    let three : at + 3 ≡ suc (suc (suc at)) = omega arith in
    let four : at + 4 ≡ suc (suc (suc (suc at))) = omega arith in
    rw (one, two, three, four) (row_written c.args.k c.args.row c.args.table.now c.requires)
