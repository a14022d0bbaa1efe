-- The line is the definition's; the verdict on what is stored is its verdict, and the stores are the job's new group. Assumes nothing.
use Rattle.std.proofs.Common.{sym, ◌∙◌, ap, arith}
use Rattle.std.proofs.lemmas.Result.{err_from_is_err_and}
use lib.Seq.{sets}
use Rattle.model.specs.Figures.{greatest_deviation, greatest_spread, greatest_pairs}
use Rattle.text.specs.Parsed.{mapped}
use Rattle.text.specs.Laws.Parsed.{mapped_failed}
use Rattle.text.specs.Inner.Numbers.{held}
use Rattle.text.specs.Inner.Spots.{bytes_from}
use Rattle.groups.specs.Inner.Flat.{flat_length}
use Rattle.form.specs.Form.{limits_said, group, group_as}
use Rattle.job.specs.Job.{add, step_on}
use Rattle.form.specs.Inner.Tally.{group_tally}
use Rattle.form.specs.Laws.Tally.{GroupFacts, group_facts}
use Rattle.job.specs.Inner.Verdicts.{verdict_answer}
use Rattle.job.specs.Inner.Taking.{place_at}
use Rattle.job.proofs.Laws.Verdicts.{first_zero, limit_coded}
use Rattle.job.proofs.Laws.Placed.{members_from, placed, placed_number, placed_taken, placed_good}
use Rattle.job.proofs.Laws.Taking.{not_in_form, group_err, group_next, group_holds, head_numbers, heads_alike}
use Rattle.job.proofs.steps.take_group.Goals as goal
use Rattle.job.proofs.steps.take_group.Goals.{In-Some}

pub returns-in_default : goal.returns-in_default
unfolding mapped
returns-in_default c = λ job lows₀ highs₀ flat₀ lows highs holds.
    let a = c.args in
    let none = mapped_failed (group_tally a.progress.units (members_from a.progress) a.flat.now) (group_as held (bytes_from a.text.now a.spot)) (sym c.in_default.ensures) in
    rw (c.refusal.ensures, c.ailment.ensures, none)
    (not_in_form job a.progress _ holds (bytes_from a.text.now a.spot))

-- what is known of the line once it was read
seen : (c : In-Some) →
    let a = c.args in
    let m = c.in-Some.members in
    GroupFacts a.progress.units (members_from a.progress) a.flat.now c.group_line.new.flat (bytes_from a.text.now a.spot) (bytes_from a.text.now m.next) c.in-Some.head m.count m.within
seen c =
    let a = c.args in
    group_facts _ _ a.flat.now _ _ _ _ _ _ (sym c.in-Some.ensures)

pub group_verdict-requires : goal.group_verdict-requires
group_verdict-requires c =
    (c.requires.0, placed c.args.progress _ _ (seen (goal.at.group_verdict-requires c).In-Some) c.requires.2 c.requires.0.units)

pub returns-in_err-group_verdict : goal.returns-in_err-group_verdict
unfolding mapped
returns-in_err-group_verdict c = λ job lows₀ highs₀ flat₀ lows highs holds.
    let p = c.args.progress in
    let f = seen (goal.at.returns-in_err-group_verdict c).In-Some in
    let r = err_from_is_err_and c.from_residual.result c.from_residual.ensures.1 in
    let v = ap (λ v. verdict_answer v (place_at p)) (placed_number p _ _ f c.requires.2) in
    rw (r.1, r.2, f.read) (group_err job p _ holds f.line _ _ (c.in_err-group_verdict.ensures ∙ v))

pub put_group-requires : goal.put_group-requires
put_group-requires c =
    let f = seen (goal.at.put_group-requires c).In-Some in
    let limits = limits_said f.line.heading in
    let k = placed_good c.args.progress _ _ f c.requires.2 c.in_ok-group_verdict.ensures in (
      omega (arith, k.room, k.fits, c.group_line.auto.flat, c.requires.2),
      rw (← f.limits) (omega (arith, limit_coded greatest_deviation limits.deviation k.deviation_fits)),
      rw (← f.limits) (omega (arith, limit_coded greatest_spread limits.spread k.spread_fits)),
      rw (← f.limits) (omega (arith, limit_coded greatest_pairs limits.pairs k.pairs_fits)),
    )

pub overflow_add-more-2 : goal.overflow_add-more-2
overflow_add-more-2 c =
    let f = seen (goal.at.overflow_add-more-2 c).In-Some in
    omega (arith, (placed_good c.args.progress _ _ f c.requires.2 c.in_ok-group_verdict.ensures).fits, f.counted)

pub returns : goal.returns
unfolding mapped
returns c = λ job lows₀ highs₀ flat₀ lows highs holds.
    let f = seen (goal.at.returns c).In-Some in
    let p = c.args.progress in
    let none = placed_taken p _ _ f c.requires.2 c.in_ok-group_verdict.ensures in
    let at = flat_length p.groups p.memberships in
    let stored = c.put_group.ensures ∙ heads_alike c.group_line.new.flat at (sym f.total) (sym f.limits) (sym f.there) (sym f.counted) ∙ ap (λ x. sets x at (head_numbers job p _ holds f.line)) f.stored in (
      add job (group f.line),
      ap (λ x. step_on job (bytes_from c.args.text.now c.args.spot) (mapped group x)) f.read ∙ group_next job p _ holds f.line _ _ none,
      group_holds job p _ holds f.line _ _ (first_zero _ _ none).0 c.requires.2 f.counted stored,
    )
