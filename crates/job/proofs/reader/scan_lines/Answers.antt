-- Each line is taken as the definition takes it, a refusal is the text's, and at the end the counts are the answer.
use Rattle.std.proofs.Common.{◌<◌, length, drop, sym, ◌∙◌, leb-false, leb-true}
use Rattle.std.proofs.lemmas.Result.{err_from_is_err_and}
use Rattle.job.proofs.Laws.Scanning.{Going, start, on_line, scanned_stop, scanned_counts}
use Rattle.job.proofs.reader.scan_lines.Goals as goal
use Rattle.job.proofs.reader.scan_lines.Goals.{After-moved-reader}

pub loop-reader-init : goal.loop-reader-init
loop-reader-init c = record { same_text = rw c.new-reader.ensures; going = rw c.new-reader.ensures (start _ _ _ _) }

-- a line more
turn : (c : After-moved-reader) → let a = c.args in
    let n = c.take_line.new in
    (length (drop c.in_ok-more.next.at a.text.now) < length (drop c.loop-reader.reader.at a.text.now))
    × Going a.text.now a.lows.now a.highs.now a.flat.now n.lows n.highs n.flat c.in_ok-more.next.at c.in_ok-more.more
turn c =
    let i = c.loop-reader.invariant in
    let bytes_left = rw i.same_text at (leb-false _ _ (sym c.at_end.ensures ∙ c.loop-reader-test.true)) in
    on_line i.going c.in_ok-more.more c.in_ok-more.next bytes_left (rw i.same_text at (c.in_ok-more.ensures i.going.job _ _ _ i.going.holds))
    c.take_line.auto.lows c.take_line.auto.highs c.take_line.auto.flat

pub loop-reader-smaller : goal.loop-reader-smaller
loop-reader-smaller c = rw c.moved-reader.ensures (turn c).0

pub loop-reader-preserved : goal.loop-reader-preserved
loop-reader-preserved c = record { same_text = rw c.moved-reader.ensures c.loop-reader.invariant.same_text; going = rw c.moved-reader.ensures (turn c).1 }

pub returns-in_err-more : goal.returns-in_err-more
returns-in_err-more c =
    let i = c.loop-reader.invariant in
    let r = err_from_is_err_and c.from_residual.result c.from_residual.ensures.1 in
    let bytes_left = rw i.same_text at (leb-false _ _ (sym c.at_end.ensures ∙ c.loop-reader-test.true)) in
    rw (r.1, r.2) (scanned_stop c.requires.0 i.going _ _ _ _ bytes_left (rw i.same_text at (c.in_err-more.ensures i.going.job _ _ _ i.going.holds)))

pub returns : goal.returns
returns c =
    let i = c.loop-reader.invariant in
    rw c.counted.ensures (scanned_counts c.requires.0 i.going (rw i.same_text at (leb-true _ _ (sym c.at_end.ensures ∙ c.loop-reader-test.false))))
