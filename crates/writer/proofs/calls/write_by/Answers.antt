-- The page holds the text; it is copied where the buffer is long enough. Assumes nothing.
use Rattle.std.proofs.Common.{arith}
use Rattle.writer.specs.Inner.Asked.{job_held}
use Rattle.writer.proofs.Laws.Writes.{page_refused, page_copied}
use Rattle.writer.proofs.calls.write_by.Goals as goal

pub returns-then-buffer-length : goal.returns-then-buffer-length
returns-then-buffer-length c =
    let put = c.put_job-length.ensures in
    page_refused (job_held c.args.flat.now c.args.groups c.args.lows.now c.args.highs.now) _ put.value put.buffer_after _ c.if-buffer-length.true

pub returns : goal.returns
returns c =
    let put = c.put_job-length.ensures in
    rw c.copy_from_slice.ensures.after
    (page_copied (job_held c.args.flat.now c.args.groups c.args.lows.now c.args.highs.now) _ put.value put.buffer_after _ (omega arith))
