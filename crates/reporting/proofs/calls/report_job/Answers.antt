-- What settling answers and leaves is reported. Assumes nothing.
use mathlib.Core.Path.{◌∙◌}
use native.Mathlib.Omega.{arith}
use lib.ListN.{length}
use Rattle.report.proofs.Laws.Settled.{settles_answerable}
use Rattle.report.proofs.Laws.Texts.{settled_reports}
use Rattle.reporting.proofs.calls.report_job.Goals as goal

pub put_answer-requires : goal.put_answer-requires
put_answer-requires c =
    let kept = c.settle_job-answer.auto in
    let answerable =
    settles_answerable c.requires.within_limits c.args.lows.now c.args.highs.now (length c.args.scratch.now)
    c.settle_job-answer.ensures (omega (arith, kept)) (omega (arith, kept)) in
    record {
      answerable = answerable;
      holds_job = record { holds = c.requires.prepared.holds; marked = c.requires.prepared.marked };
      most_bytes_in_bounds = c.requires.most_bytes_in_bounds;
    }

pub returns : goal.returns
returns c =
    c.put_answer.ensures ∙ settled_reports _ _ _ _ c.settle_job-answer.ensures
