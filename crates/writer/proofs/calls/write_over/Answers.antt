-- A table that passes the checks is written; else the buffer holds what it held. Assumes nothing.
use Rattle.std.specs.Prelude.{ℕ, ◌*◌, Ok, List, ◌≡◌}
use Rattle.std.proofs.Common.{sym, ap, ◌∙◌, length, length-take-le}
use Rattle.std.proofs.lemmas.Result.{err_from_is_err_and}
use Rattle.groups.specs.Inner.Flat.{groups_in, marks_from, marks_in}
use Rattle.works.specs.Calls.{check_table}
use Rattle.works.proofs.Laws.Checked.{Roomy, passed_room}
use Rattle.member_ranges.specs.Laws.Parts.{part}
use Rattle.writer.proofs.Laws.Held.{held_room, held_sound, held_writes}
use Rattle.writer.proofs.Laws.Writes.{over_failed}
use Rattle.writer.proofs.calls.write_over.Goals as goal
use Rattle.writer.proofs.calls.write_over.Goals.{After-check_table, In_ok-check_table}

pub slice_bounds-check_table-end : goal.slice_bounds-check_table-end
slice_bounds-check_table-end c = held_room c.requires

-- the table is checked with the marks of the flat list
checked : (c : After-check_table)
    → c.check_table.result ≡ check_table (marks_in c.args.units c.args.flat.now) c.args.units c.args.lows.now c.args.highs.now (8 * c.args.units)
checked c =
    c.check_table.ensures
    ∙ ap (λ (marks : List ℕ). check_table marks c.args.units c.args.lows.now c.args.highs.now (8 * c.args.units))
    (part marks_from c.args.units c.args.flat.now)

-- it passes
passes : (c : In_ok-check_table)
    → check_table (marks_in c.args.units c.args.flat.now) c.args.units c.args.lows.now c.args.highs.now (8 * c.args.units) ≡ Ok tt
passes c = sym (checked (goal.at.In_ok-check_table c).After-check_table) ∙ c.in_ok-check_table.was

-- so it has room
room : (c : In_ok-check_table) → Roomy c.args.units (length c.args.lows.now) (length c.args.highs.now) (8 * c.args.units)
room c = passed_room _ c.args.units _ _ _ (passes c)

pub returns-in_err-check_table : goal.returns-in_err-check_table
returns-in_err-check_table c =
    let args = c.args in
    let (error, is, gives) = err_from_is_err_and c.from_residual.result c.from_residual.ensures.1 in
    rw (is, gives)
    (over_failed _ (groups_in args.groups args.flat.now) args.units args.lows.now args.highs.now args.buffer.now c.in_err-check_table.field-0.0
    (sym (checked (goal.at.returns-in_err-check_table c).After-check_table) ∙ c.in_err-check_table.was))

pub slice_bounds-write_job-end : goal.slice_bounds-write_job-end
slice_bounds-write_job-end c = sym (length-take-le _ _ (room (goal.at.slice_bounds-write_job-end c).In_ok-check_table).for_lows)

pub slice_bounds-write_job-end-2 : goal.slice_bounds-write_job-end-2
slice_bounds-write_job-end-2 c = sym (length-take-le _ _ (room (goal.at.slice_bounds-write_job-end-2 c).In_ok-check_table).for_highs)

pub write_job-requires : goal.write_job-requires
write_job-requires c =
    let held = c.requires in
    record { holds = held.holds; sound_job = held_sound held _ _ (passes (goal.at.write_job-requires c).In_ok-check_table) }

pub returns : goal.returns
returns c = c.write_job.ensures ∙ held_writes c.requires _ _ (passes (goal.at.returns c).In_ok-check_table) _
