-- The lines of the groups after those counted are left to be written. Assumes nothing.
use Rattle.std.proofs.Common.{◌≡◌}
use Rattle.job_lines.specs.Laws.Course.{Course}
use Rattle.job_lines.proofs.put_member_lines.Given as goal

abbrev pub invariant-loop : goal.invariant-loop
invariant-loop l =
    Course l.flat l.groups l.initial.page.bytes.now l.initial.page.at l.page.bytes.now l.page.at l.from l.counter × (l.page.bytes.ghost_name ≡ l.initial.page.bytes.ghost_name)
