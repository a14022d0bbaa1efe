-- Scanned, and what was read filled into the table. Assumes nothing.
use Rattle.std.proofs.Common.{◌≡◌, ◌∙◌}
use Rattle.std.proofs.lemmas.Result.{err_from_is_err_and}
use Rattle.job.specs.Job.{Job, accepted, read_job}
use Rattle.job.specs.Inner.Reading.{Fronts}
use Rattle.job.proofs.Laws.Reading.{filled_refused, fronts_long, accepted_by, refused_by_lem, table_refused}
use Rattle.job.proofs.read_by.Goals as goal
use Rattle.job.proofs.read_by.Goals.{In_ok-counts}

pub returns-in_err-counts : goal.returns-in_err-counts
returns-in_err-counts c =
    let a = c.args in
    let r = err_from_is_err_and c.from_residual.result c.from_residual.ensures.1 in
    let refuses = refused_by_lem (read_job a.text.now) _ c.in_err-counts.ensures.groups.answer in
    rw (r.1, r.2) (filled_refused a.text.now a.lows.now a.highs.now _ (table_refused a.text.now _ _ _ refuses))

-- a text that was read has a job, which the lists hold
held : (c : In_ok-counts) →
    let n = c.in_ok-counts.counts in
    (job : Job) × (read_job c.args.text.now ≡ accepted job) × Fronts c.scan.new.lows c.scan.new.highs n.units n.groups job
held c =
    let k = c.in_ok-counts.ensures in
    let j = accepted_by (read_job c.args.text.now) _ _ k.groups.answer in (
      j.0,
      j.1,
      record { rest = _; past = _; lows = k.found_lows j.0 j.1; highs = k.found_highs j.0 j.1; units_are = j.2; pairs = k.pairs j.0 j.1 ∙ j.2; groups_are = j.3 },
    )

pub fill-requires : goal.fill-requires
fill-requires c = fronts_long (held (goal.at.fill-requires c).In_ok-counts).2

pub returns : goal.returns
returns c =
    let h = held (goal.at.returns c).In_ok-counts in
    c.fill.ensures _ h.0 h.1 h.2
