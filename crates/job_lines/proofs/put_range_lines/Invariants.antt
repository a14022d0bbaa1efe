-- The lines of the units that are left are to be written. Assumes nothing.
use Rattle.std.proofs.Common.{◌≡◌}
use mathlib.Core.List.{flatten}
use Rattle.print.specs.Laws.Written.{Rest}
use Rattle.job_lines.specs.Texts.{range_lines}
use Rattle.job_lines.proofs.put_range_lines.Given as goal

abbrev pub invariant-loop-mark : goal.invariant-loop-mark
invariant-loop-mark l =
    let left = l.mark-iterator in
    let ranges = left.b in
    Rest (flatten (range_lines l.marks l.lows l.highs)) l.initial.page.bytes.now l.initial.page.at (range_lines left.a.rest.now ranges.a.rest.now ranges.b.rest.now) l.page.bytes.now l.page.at × (l.page.bytes.ghost_name ≡ l.initial.page.bytes.ghost_name)
