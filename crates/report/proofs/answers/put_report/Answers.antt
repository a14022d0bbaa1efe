-- The line of the passes, the unit lines and the group lines, which fit the buffer. Assumes nothing.
use Rattle.std.proofs.Common.{rules, ℕ, ◌≤◌, List, [], ◌∷◌, refl, ◌∙◌, length, arith}
use mathlib.Core.List.{flatten}
use Rattle.form.specs.Form.{most_bytes}
use Rattle.model.specs.Groups.{Group}
use Rattle.model.proofs.Laws.Lists.{ranges_length}
use Rattle.print.specs.Inner.Written.{Room}
use Rattle.print.specs.Laws.Written.{Rest, begin, room_next, next, done, from_start}
use Rattle.groups.specs.Inner.Flat.{groups_in, marks_in}
use Rattle.member_ranges.specs.Tables.{Table, table_of}
use Rattle.report.proofs.Laws.Lengths.{report_fits}
use Rattle.report.specs.Lines.{settled_line}
use Rattle.report.specs.Reportable.{Reportable}
use Rattle.report.specs.Reports.{unit_lines, group_lines, report_of}
use Rattle.report.proofs.answers.put_report.Goals as goal
use Rattle.report.proofs.answers.put_report.Goals.{After-put_settled_line}

module _ {marks : List ℕ} {groups : List Group} {table : Table} {passes : ℕ} (ready : Reportable marks groups table passes) {buffer : List ℕ}
    (long : most_bytes ≤ length buffer) where
  room : Room buffer 0 (report_of marks groups table passes)
  room = record { fits = omega (arith, report_fits ready) }

  parts : Rest (report_of marks groups table passes) buffer 0
      (settled_line passes ∷ flatten (unit_lines 1 table.lows table.highs) ∷ flatten (group_lines marks 1 table groups) ∷ []) buffer 0
  unfolding report_of
  parts = begin _ refl room

pub put_settled_line-requires : goal.put_settled_line-requires
put_settled_line-requires c =
    room_next (parts c.requires.reportable c.requires.most_bytes_in_bounds)

-- the line of the passes is written
module _ (c : After-put_settled_line) where
  units-left : Rest (report_of (marks_in (length c.args.lows.now) c.args.flat.now) (groups_in c.args.groups c.args.flat.now) (table_of c.args.lows.now c.args.highs.now) c.args.passes) c.args.buffer.now 0
      (flatten (unit_lines 1 c.args.lows.now c.args.highs.now) ∷ flatten (group_lines (marks_in (length c.args.lows.now) c.args.flat.now) 1 (table_of c.args.lows.now c.args.highs.now) (groups_in c.args.groups c.args.flat.now)) ∷ [])
      c.put_settled_line.new.page.bytes.now c.put_settled_line.new.page.at
  units-left = next (parts c.requires.reportable c.requires.most_bytes_in_bounds) c.put_settled_line.ensures.wrote

pub put_unit_lines-requires : goal.put_unit_lines-requires
put_unit_lines-requires c = record { highs_len = ranges_length c.requires.reportable.valid; room = room_next (units-left (goal.at.put_unit_lines-requires c).After-put_settled_line) }

pub put_group_lines-requires : goal.put_group_lines-requires
put_group_lines-requires c =
    let ready = c.requires.reportable in
    let holds = c.requires.holds_job in
    record {
      printable = record { holds = holds.holds; marked = holds.marked; paired = ranges_length ready.valid; levelable = ready.levelable };
      room = room_next (next (units-left (goal.at.put_group_lines-requires c).After-put_settled_line) c.put_unit_lines.ensures.wrote);
    }

pub returns : goal.returns
unfolding flatten
returns c =
    let groups-left = next (units-left (goal.at.returns c).After-put_settled_line) c.put_unit_lines.ensures.wrote in
    let (counted, holds) = from_start (room c.requires.reportable c.requires.most_bytes_in_bounds) (done refl (next groups-left c.put_group_lines.ensures.wrote)) in
    record { value = counted; buffer_after = rw counted (search rules ∙ holds) }
