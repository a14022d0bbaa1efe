-- The numbers of the members from the i-th on are left to be written. Assumes nothing.
use Rattle.std.proofs.Common.{◌≡◌, suc, drop, map}
use Rattle.print.specs.Items.{item, items}
use Rattle.print.specs.Laws.Written.{Rest}
use Rattle.job_lines.proofs.put_members.Given as goal

abbrev pub invariant-loop-member : goal.invariant-loop-member
invariant-loop-member l =
    Rest (items (map suc l.members)) l.initial.page.bytes.now l.initial.page.at (map item (map suc (drop l.member-index l.members))) l.page.bytes.now l.page.at × (l.page.bytes.ghost_name ≡ l.initial.page.bytes.ghost_name)
