-- The verdict is the definition's; the stores are the job's new unit. Assumes nothing.
use Rattle.std.proofs.Common.{ap, sym, ◌∙◌}
use Rattle.std.proofs.lemmas.Result.{err_from_is_err_and}
use Rattle.job.specs.Inner.Verdicts.{verdict_answer}
use Rattle.job.specs.Inner.Taking.{place_at}
use Rattle.job.specs.Job.{add}
use Rattle.form.specs.Form.{unit}
use Rattle.job.proofs.Laws.Verdicts.{no_refusal}
use Rattle.job.proofs.Laws.Taking.{verdict_kept, unit_err, unit_next, unit_holds}
use Rattle.job.proofs.steps.take_unit.Goals as goal

pub returns-in_err-unit_verdict : goal.returns-in_err-unit_verdict
returns-in_err-unit_verdict c = λ text from job lows₀ highs₀ flat₀ l is holds.
    let p = c.args.progress in
    let r = err_from_is_err_and c.from_residual.result c.from_residual.ensures.1 in
    let kept = ap (λ v. verdict_answer v (place_at p)) (verdict_kept p l c.args.unit is) in
    rw (r.1, r.2) (unit_err job p _ holds l from _ (c.in_err-unit_verdict.ensures ∙ kept))

pub returns : goal.returns
returns c = λ text from job lows₀ highs₀ flat₀ l is holds.
    let p = c.args.progress in
    let good = sym (verdict_kept p l c.args.unit is) ∙ no_refusal _ _ c.in_ok-unit_verdict.ensures in (
      add job (unit l),
      unit_next job p _ holds l from _ good,
      rw (c.put_mark.ensures, ← is) (unit_holds job p _ holds l good c.requires.1 c.requires.2 c.requires.3),
    )
