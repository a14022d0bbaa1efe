-- A short buffer is refused; else the text is reported by way of the flat list. Assumes nothing.
use lib.ListN.{length}
use Rattle.report.proofs.Laws.Texts.{buffer_short}
use Rattle.reporting.proofs.calls.report.Goals as goal

pub returns-then-buffer-lt-MOST_BYTES : goal.returns-then-buffer-lt-MOST_BYTES
returns-then-buffer-lt-MOST_BYTES c =
    let args = c.args in
    buffer_short args.text.now args.lows.now args.highs.now (length args.scratch.now) args.buffer.now c.if-buffer-lt-MOST_BYTES.true
