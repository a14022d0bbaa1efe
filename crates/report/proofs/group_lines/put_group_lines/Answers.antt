-- The lines of the groups after the number-th are left to be written. Assumes nothing.
use mathlib.Core.Path.{◌≡◌}
use native.Mathlib.Omega.{arith}
use Prim.Native.Nat.{◌+◌, ◌≤◌}
use lib.ListN.{length, take}
use lib.Seq.{length-take-le}
use Rattle.std.proofs.Common.{sym, ◌∙◌}
use Rattle.groups.specs.Inner.Flat.{group_in}
use Rattle.groups.specs.Laws.Reading.{size_stored}
use Rattle.groups.specs.Laws.Walk.{walk_whole}
use Rattle.groups.specs.Memberships.{size}
use Rattle.print.specs.Laws.Written.{room_next}
use Rattle.works.specs.Inner.Asked.{HoldsMembers}
use Rattle.member_ranges.specs.Tables.{table_of}
use Rattle.report.specs.Reportable.{Levelable}
use Rattle.report.specs.Inner.Asked.{marks_for, line_of_levelling}
use Rattle.report.proofs.Laws.Printing.{printing_end, coming, next_levelable, next_rest, next_printing, count_few, levelled_line_lem}
use Rattle.report.specs.Reports.{line_of}
use Rattle.report.proofs.group_lines.put_group_lines.Goals as goal
use Rattle.report.proofs.group_lines.put_group_lines.Goals.{After-group_at-group, After-level_stored-levelling}

pub group_at-group-requires : goal.group_at-group-requires
group_at-group-requires c = walk_whole _ _ c.loop-written.invariant.0.walk c.loop-written-test.true

-- the group whose line comes
module _ (c : After-group_at-group) where
  -- it can be levelled
  levelable : Levelable (marks_for c.args.flat.now (table_of c.args.lows.now c.args.highs.now)) (table_of c.args.lows.now c.args.highs.now)
      (group_in c.args.flat.now c.group_at-group.result)
  levelable = next_levelable _ _ _ _ _ c.loop-written.invariant.0 c.loop-written-test.true c.group_at-group.ensures

  -- it lies within the list
  within : c.group_at-group.result.from + c.group_at-group.result.count ≤ length c.args.flat.now
  within = (coming _ _ _ _ _ c.loop-written.invariant.0 c.loop-written-test.true c.group_at-group.ensures).within

pub level_stored-levelling-requires : goal.level_stored-levelling-requires
level_stored-levelling-requires c =
    let start = (goal.at.level_stored-levelling-requires c).After-group_at-group in
    let holds : HoldsMembers _ _ _ = record { whole = within start; marked = c.requires.printable.marked } in
    record {
      levelable = levelable start;
      highs_len = c.requires.printable.paired;
      holds_members = holds;
      most_units_in_bounds = omega (arith, c.loop-written.invariant.1.0);
    }

-- once it is levelled
module _ (c : After-level_stored-levelling) where
  -- it has as many members as it says
  counted : size (group_in c.args.flat.now c.group_at-group.result) ≡ c.group_at-group.result.count
  counted = size_stored c.args.flat.now c.group_at-group.result
      (coming _ _ _ _ _ c.loop-written.invariant.0 c.loop-written-test.true c.group_at-group.ensures).within

  -- its line is the one defined
  line : line_of_levelling (c.loop-written.written + 1) c.level_stored-levelling.result
      (take c.group_at-group.result.count c.level_stored-levelling.new.plan)
      ≡ line_of (marks_for c.args.flat.now (table_of c.args.lows.now c.args.highs.now)) (c.loop-written.written + 1) (table_of c.args.lows.now c.args.highs.now)
      (group_in c.args.flat.now c.group_at-group.result)
  line = levelled_line_lem _ counted c.level_stored-levelling.ensures

pub slice_bounds-plan-end : goal.slice_bounds-plan-end
slice_bounds-plan-end c =
    let at = goal.at.slice_bounds-plan-end c in
    omega (arith, counted at.After-level_stored-levelling, count_few (levelable at.After-group_at-group), c.loop-written.invariant.1.0, c.level_stored-levelling.auto)

pub slice_bounds-put_levelled_line-end : goal.slice_bounds-put_levelled_line-end
slice_bounds-put_levelled_line-end c =
    let at = goal.at.slice_bounds-put_levelled_line-end c in
    sym (length-take-le _ _ (omega (arith, counted at.After-level_stored-levelling, count_few (levelable at.After-group_at-group), c.loop-written.invariant.1.0, c.level_stored-levelling.auto)))

pub put_levelled_line-requires : goal.put_levelled_line-requires
put_levelled_line-requires c =
    rw (line (goal.at.put_levelled_line-requires c).After-level_stored-levelling)
    (room_next (next_rest _ _ _ _ _ c.loop-written.invariant.0 c.loop-written-test.true c.group_at-group.ensures))

pub loop-written-preserved : goal.loop-written-preserved
loop-written-preserved c =
    let wrote = rw (line (goal.at.loop-written-preserved c).After-level_stored-levelling) at c.put_levelled_line.ensures.wrote in (
      next_printing _ _ _ _ _ c.loop-written.invariant.0 c.loop-written-test.true c.group_at-group.ensures wrote,
      (omega (arith, c.loop-written.invariant.1.0, c.level_stored-levelling.auto), c.put_levelled_line.ensures.same_reference ∙ c.loop-written.invariant.1.1),
    )

pub returns-clause-wrote : goal.returns-clause-wrote
returns-clause-wrote c = printing_end _ _ _ _ _ c.loop-written.invariant.0 c.loop-written-test.false
