-- Before each line a job is held, and the lines left are those of the text after the job's; each line leaves fewer bytes.
use Rattle.std.proofs.Common.{◌≡◌, length, drop}
use Rattle.job.proofs.Laws.Scanning.{Going}
use Rattle.job.proofs.reader.scan_lines.Given as goal

abbrev pub invariant-loop-reader : goal.invariant-loop-reader
invariant-loop-reader l = record {
  same_text : l.reader.text.now ≡ l.text;
  going : Going l.text l.initial.lows l.initial.highs l.initial.flat l.lows l.highs l.flat l.reader.at l.progress;
}

abbrev pub decreases-loop-reader : goal.decreases-loop-reader
decreases-loop-reader l = length (drop l.reader.at l.text)
