-- The members' ranges and marks are gathered, and those are levelled. Assumes nothing.
use native.Mathlib.Omega.{arith}
use Prim.Native.Nat.{◌≤◌}
use lib.ListN.{length}
use lib.Seq.{length-take-le}
use Rattle.std.proofs.Common.{sym}
use Rattle.model.specs.Shares.{most_units}
use Rattle.member_ranges.specs.Laws.Members.{gather_length}
use Rattle.report.proofs.group_lines.level_members.Goals as goal
use Rattle.report.proofs.group_lines.level_members.Goals.{Start}

-- at most 256 members
few : (start : Start) → length start.args.members.now ≤ most_units
few start = omega (arith, gather_length start.args.lows.now start.args.members.now, start.requires.level_members.sound.few)

pub gather_front-requires-clause-members_in_bounds : goal.gather_front-requires-clause-members_in_bounds
gather_front-requires-clause-members_in_bounds c =
    omega (arith, few (goal.at.gather_front-requires-clause-members_in_bounds c).Start, c.room-member_lows.ensures)

pub gather_front-requires-2-clause-members_in_bounds : goal.gather_front-requires-2-clause-members_in_bounds
gather_front-requires-2-clause-members_in_bounds c =
    omega (arith, few (goal.at.gather_front-requires-2-clause-members_in_bounds c).Start, c.room-member_highs.ensures)

pub gather_front-requires-3-clause-members_in_bounds : goal.gather_front-requires-3-clause-members_in_bounds
gather_front-requires-3-clause-members_in_bounds c =
    omega (arith, few (goal.at.gather_front-requires-3-clause-members_in_bounds c).Start, c.room-member_marks.ensures)

pub slice_bounds-member_lows-end : goal.slice_bounds-member_lows-end
slice_bounds-member_lows-end c =
    omega (arith, few (goal.at.slice_bounds-member_lows-end c).Start, c.room-member_lows.ensures, c.gather_front.auto)

pub slice_bounds-level_core-end : goal.slice_bounds-level_core-end
slice_bounds-level_core-end c =
    sym (length-take-le _ _ (omega (arith, few (goal.at.slice_bounds-level_core-end c).Start, c.room-member_lows.ensures, c.gather_front.auto)))

pub slice_bounds-member_highs-end : goal.slice_bounds-member_highs-end
slice_bounds-member_highs-end c =
    omega (arith, few (goal.at.slice_bounds-member_highs-end c).Start, c.room-member_highs.ensures, c.gather_front-2.auto)

pub slice_bounds-level_core-end-2 : goal.slice_bounds-level_core-end-2
slice_bounds-level_core-end-2 c =
    sym (length-take-le _ _ (omega (arith, few (goal.at.slice_bounds-level_core-end-2 c).Start, c.room-member_highs.ensures, c.gather_front-2.auto)))

pub slice_bounds-member_marks-end : goal.slice_bounds-member_marks-end
slice_bounds-member_marks-end c =
    omega (arith, few (goal.at.slice_bounds-member_marks-end c).Start, c.room-member_marks.ensures, c.gather_front-3.auto)

pub slice_bounds-level_core-end-3 : goal.slice_bounds-level_core-end-3
slice_bounds-level_core-end-3 c =
    sym (length-take-le _ _ (omega (arith, few (goal.at.slice_bounds-level_core-end-3 c).Start, c.room-member_marks.ensures, c.gather_front-3.auto)))
