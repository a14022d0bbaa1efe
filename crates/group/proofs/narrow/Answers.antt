-- Lists that pass the checks are sound, and narrowed; on a refusal they are as they were. Assumes nothing.
use Rattle.std.proofs.Common.{◌≡◌, length, Ok, sym}
use Rattle.std.proofs.lemmas.Result.{err_from_is_err_and}
use Rattle.list_checks.specs.Checks.{amounts_within, check_lists}
use Rattle.list_checks.proofs.Laws.Findings.{check_exactly, passed_sound, passed_marked}
use Rattle.group.specs.Narrowing.{narrowing}
use Rattle.group.specs.Laws.Narrowing.{answer_narrowed, answer_refused}
use Rattle.group.proofs.narrow.Goals as goal
use Rattle.group.proofs.narrow.Goals.{In_ok-check_lists}

pub returns-in_err-check_lists-clause-value : goal.returns-in_err-check_lists-clause-value
unfolding narrowing
returns-in_err-check_lists-clause-value c =
    let refused = err_from_is_err_and c.from_residual.result c.from_residual.ensures.1 in
    rw (refused.1, refused.2, ← c.amounts_within.ensures, ← c.in_err-check_lists.ensures)

-- the lists passed the checks
passed : (c : In_ok-check_lists) → check_lists c.args.lows.now c.args.highs.now c.args.marks.now (length c.args.lows.now) (amounts_within c.args.total c.args.limits) ≡ Ok tt
passed c = rw (← c.amounts_within.ensures) (sym c.in_ok-check_lists.ensures)

pub narrow_running-requires : goal.narrow_running-requires
narrow_running-requires c =
    let clear = (check_exactly _ _ _ _ _ _).0 (passed (goal.at.narrow_running-requires c).In_ok-check_lists) in
    record { sound_ranges = (passed_sound clear).0; marked = passed_marked clear }

pub returns-in_default-clause-value : goal.returns-in_default-clause-value
returns-in_default-clause-value c =
    answer_narrowed _ _ _ _ _ (passed (goal.at.returns-in_default-clause-value c).In_ok-check_lists) c.narrow_running.ensures.answer c.in_default.is

pub returns-clause-value : goal.returns-clause-value
returns-clause-value c =
    answer_refused _ _ _ _ _ (passed (goal.at.returns-clause-value c).In_ok-check_lists) c.narrow_running.ensures.answer c.in-NoPlan.is
