-- Lists that pass the checks are sound, and levelled; on a refusal the plan is as it was. Assumes nothing.
use Rattle.std.proofs.Common.{sym}
use Rattle.std.proofs.lemmas.Result.{err_from_is_err_and}
use Rattle.list_checks.proofs.Laws.Findings.{check_exactly, passed_sound, passed_marked}
use Rattle.levelling.specs.Levelling.{levelling}
use Rattle.group.proofs.level.Goals as goal

pub level_core-requires : goal.level_core-requires
level_core-requires c =
    let clear = (check_exactly _ _ _ _ _ _).0 (sym c.in_ok-check_lists.ensures) in
    record { sound_ranges = (passed_sound clear).0; marked = passed_marked clear; lows_in_bounds = (passed_sound clear).1 }

pub returns-in_err-check_lists-clause-value : goal.returns-in_err-check_lists-clause-value
unfolding levelling
returns-in_err-check_lists-clause-value c =
    let refused = err_from_is_err_and c.from_residual.result c.from_residual.ensures.1 in
    rw (refused.1, refused.2, ← c.in_err-check_lists.ensures)

pub returns-clause-value : goal.returns-clause-value
unfolding levelling
returns-clause-value c = rw (← c.in_ok-check_lists.ensures) c.level_core.ensures.value
