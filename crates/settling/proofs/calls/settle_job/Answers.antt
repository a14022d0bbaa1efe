-- A table that passes the checks is settled; else it holds what it held. Assumes nothing.
use Rattle.std.proofs.Common.{sym, ◌∙◌, arith, length, length-take-le}
use Rattle.std.proofs.lemmas.Result.{err_from_is_err_and}
use Rattle.groups.specs.Inner.Flat.{marks_from}
use Rattle.member_ranges.specs.Laws.Parts.{part}
use Rattle.works.proofs.Laws.Checked.{Roomy, passed_room, passed_opening, passed_settles, failed_refuses}
use Rattle.settling.proofs.calls.settle_job.Goals as goal
use Rattle.settling.proofs.calls.settle_job.Goals.{In_ok-check_table}

-- a table that passes the checks has room
room : (c : In_ok-check_table) → Roomy c.args.units (length c.args.lows.now) (length c.args.highs.now) (length c.args.scratch.now)
room c = passed_room _ _ _ _ _ (sym c.check_table.ensures ∙ c.in_ok-check_table.was)

pub returns-in_err-check_table : goal.returns-in_err-check_table
returns-in_err-check_table c =
    let args = c.args in
    let (error, is, gives) = err_from_is_err_and c.from_residual.result c.from_residual.ensures.1 in
    rw (is, gives)
    (failed_refuses _ args.units args.lows.now args.highs.now (length args.scratch.now) args.flat.now args.groups
    (part marks_from args.units args.flat.now) c.in_err-check_table.field-0.0 (sym c.check_table.ensures ∙ c.in_err-check_table.was))

pub slice_bounds-settle_core-end : goal.slice_bounds-settle_core-end
slice_bounds-settle_core-end c = (room c).for_lows

pub slice_bounds-settle_core-end-2 : goal.slice_bounds-settle_core-end-2
slice_bounds-settle_core-end-2 c = sym (length-take-le _ _ (room (goal.at.slice_bounds-settle_core-end-2 c).In_ok-check_table).for_lows)

pub slice_bounds-settle_core-end-3 : goal.slice_bounds-settle_core-end-3
slice_bounds-settle_core-end-3 c = (room (goal.at.slice_bounds-settle_core-end-3 c).In_ok-check_table).for_highs

pub slice_bounds-settle_core-end-4 : goal.slice_bounds-settle_core-end-4
slice_bounds-settle_core-end-4 c = sym (length-take-le _ _ (room (goal.at.slice_bounds-settle_core-end-4 c).In_ok-check_table).for_highs)

pub settle_core-requires : goal.settle_core-requires
settle_core-requires c =
    let space = room (goal.at.settle_core-requires c).In_ok-check_table in
    record {
      opening = passed_opening _ _ _ _ _ (sym c.check_table.ensures ∙ c.in_ok-check_table.was) c.requires;
      highs_in_bounds =
          omega (
            arith,
            space,
            length-take-le c.args.units c.args.lows.now space.for_lows,
            length-take-le c.args.units c.args.highs.now space.for_highs,
          );
    }

pub returns : goal.returns
returns c =
    let args = c.args in
    passed_settles _ _ _ _ _ (sym c.check_table.ensures ∙ c.in_ok-check_table.was) args.flat.now args.groups
    (part marks_from args.units args.flat.now) c.settle_core.ensures.value c.settle_core.ensures.highs_after
