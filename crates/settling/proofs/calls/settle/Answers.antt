-- A text that is read is settled as its groups are; one that is refused leaves the table. Assumes nothing.
use Rattle.std.proofs.Common.{◌∙◌, arith, length}
use Rattle.std.proofs.lemmas.Result.{err_from_is_err_and}
use Rattle.works.proofs.Laws.Accepted.{read_prepared, read_settles, refused_settles}
use Rattle.settling.proofs.calls.settle.Goals as goal

pub returns-in_err-counts : goal.returns-in_err-counts
returns-in_err-counts c =
    let args = c.args in
    let (error, is, gives) = err_from_is_err_and c.from_residual.result c.from_residual.ensures.1 in
    rw (is, gives) (refused_settles c.scan_groups.ensures c.in_err-counts.field-0.0 c.in_err-counts.was args.lows.now args.highs.now (length args.scratch.now))

pub settle_job-requires : goal.settle_job-requires
settle_job-requires c = read_prepared c.scan_groups.ensures (omega (arith, c.scan_groups.auto.flat, c.flat_room-flat.ensures)) c.in_ok-counts.was

pub returns : goal.returns
returns c =
    let args = c.args in
    c.settle_job.ensures ∙ read_settles c.scan_groups.ensures c.in_ok-counts.was args.lows.now args.highs.now (length args.scratch.now)
