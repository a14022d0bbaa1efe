-- A text that is read is written as its groups are; one that is refused leaves the buffer. Assumes nothing.
use Rattle.std.proofs.lemmas.Result.{err_from_is_err_and}
use Rattle.writer.proofs.Laws.Held.{read_held, read_writes, refused_writes}
use Rattle.writer.proofs.calls.write.Goals as goal

pub returns-in_err-counts : goal.returns-in_err-counts
returns-in_err-counts c =
    let args = c.args in
    let (error, is, gives) = err_from_is_err_and c.from_residual.result c.from_residual.ensures.1 in
    rw (is, gives) (refused_writes c.scan_groups.ensures c.in_err-counts.field-0.0 c.in_err-counts.was args.lows.now args.highs.now args.buffer.now)

pub write_over-requires : goal.write_over-requires
write_over-requires c = read_held c.scan_groups.ensures c.in_ok-counts.was

pub returns : goal.returns
returns c =
    let args = c.args in
    rw c.write_over.ensures
    (read_writes c.scan_groups.ensures c.in_ok-counts.was args.lows.now args.highs.now args.buffer.now)
