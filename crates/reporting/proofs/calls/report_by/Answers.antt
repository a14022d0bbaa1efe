-- A text that is read is reported as its groups are; one that is refused leaves all lists. Assumes nothing.
use Rattle.std.proofs.Common.{arith, length}
use Rattle.std.proofs.lemmas.Result.{err_from_is_err_and}
use Rattle.works.proofs.Laws.Accepted.{read_prepared}
use Rattle.report.proofs.Laws.Texts.{read_limits, read_reports, refused_reports}
use Rattle.reporting.proofs.calls.report_by.Goals as goal

pub returns-in_err-counts : goal.returns-in_err-counts
returns-in_err-counts c =
    let args = c.args in
    let (error, is, gives) = err_from_is_err_and c.from_residual.result c.from_residual.ensures.1 in
    rw (is, gives)
    (refused_reports c.scan_groups.ensures args.lows.now args.highs.now (length args.scratch.now) args.buffer.now c.requires.most_bytes_in_bounds
    c.in_err-counts.field-0.0 c.in_err-counts.was)

pub report_job-requires : goal.report_job-requires
report_job-requires c =
    let scanned = c.scan_groups.ensures in
    record {
      prepared = read_prepared scanned (omega (arith, c.requires.most_flat_in_bounds, c.scan_groups.auto)) c.in_ok-counts.was;
      within_limits = read_limits scanned c.in_ok-counts.was;
      most_bytes_in_bounds = c.requires.most_bytes_in_bounds;
    }

pub returns : goal.returns
returns c =
    let args = c.args in
    rw c.report_job.ensures
    (read_reports c.scan_groups.ensures args.lows.now args.highs.now (length args.scratch.now) args.buffer.now c.requires.most_bytes_in_bounds
    c.in_ok-counts.was)
