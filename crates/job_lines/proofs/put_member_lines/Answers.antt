-- The lines of the groups after those counted are left to be written. Assumes nothing.
use Rattle.std.proofs.Common.{refl, ◌∙◌}
use Rattle.groups.specs.Laws.Walk.{walk_whole}
use Rattle.print.specs.Laws.Written.{room_next}
use Rattle.job_lines.specs.Laws.Course.{course_start, course_end, coming, named_next, rest_next, course_next}
use Rattle.job_lines.proofs.put_member_lines.Goals as goal

pub loop-init : goal.loop-init
loop-init c =
    (course_start _ _ _ _ c.requires.holds c.requires.accepted_groups c.requires.room, refl)

pub group_at-group-requires : goal.group_at-group-requires
group_at-group-requires c = walk_whole _ _ c.loop.invariant.0.walk c.loop-test.true

pub put_member_line-requires : goal.put_member_line-requires
put_member_line-requires c =
    let course = c.loop.invariant.0 in
    let some = c.loop-test.true in
    let read = c.group_at-group.ensures in
    record {
      count_in_bounds = (coming _ _ _ _ course some read).within;
      named = named_next _ _ _ _ course some read;
      room = room_next (rest_next _ _ _ _ course some read);
    }

pub loop-preserved : goal.loop-preserved
loop-preserved c = (
  course_next _ _ _ _ c.loop.invariant.0 c.loop-test.true c.group_at-group.ensures c.put_member_line.ensures.wrote,
  c.put_member_line.ensures.same_reference ∙ c.loop.invariant.1,
)

pub returns-clause-wrote : goal.returns-clause-wrote
returns-clause-wrote c = course_end _ _ _ _ c.loop.invariant.0 c.loop-test.false
