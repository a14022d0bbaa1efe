-- Reporting over a table's bounds is reporting over its lows and highs.
use Rattle.std.proofs.Common.{◌≡◌, length, arith}
use Rattle.model.specs.Shares.{most_units}
use Rattle.table.specs.Inner.Tables.{bounds_of, after_reporting, buffer_after}
use Rattle.table.proofs.Laws.Fronts.{reported_table}
use Rattle.table.proofs.report.Goals as goal

pub returns : goal.returns
returns c =
    let done : c.report_bounds-answer.result ≡ after_reporting c.args.text.now (bounds_of c.args.table.now) (length c.args.scratch.now) c.args.buffer.now =
    rw c.take_bounds.ensures at c.report_bounds-answer.ensures.0 in
    let written : c.report_bounds-answer.new.buffer ≡ buffer_after c.args.text.now (bounds_of c.args.table.now) (length c.args.scratch.now) c.args.buffer.now =
    rw c.take_bounds.ensures at c.report_bounds-answer.ensures.1 in
    let lows : length c.report_bounds-answer.result.0.lows ≡ most_units = omega arith in
    let highs : length c.report_bounds-answer.result.0.highs ≡ most_units = omega arith in
    rw (c.put_bounds.ensures, done, written)
    (reported_table c.args.text.now c.args.table.now (length c.args.scratch.now) c.args.buffer.now (rw done at lows) (rw done at highs))
