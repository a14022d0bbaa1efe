-- The lines of the units that are left are to be written. Assumes nothing.
use Rattle.std.proofs.Common.{◌≡◌, suc}
use mathlib.Core.List.{flatten}
use Rattle.print.specs.Laws.Written.{Rest}
use Rattle.report.specs.Reports.{unit_lines}
use Rattle.report.proofs.lines.put_unit_lines.Given as goal

abbrev pub invariant-loop-i : goal.invariant-loop-i
invariant-loop-i l =
    let left = l.i-iterator.iter in
    Rest (flatten (unit_lines 1 l.lows l.highs)) l.initial.page.bytes.now l.initial.page.at (unit_lines (suc l.i-iterator.count) left.a.rest.now left.b.rest.now) l.page.bytes.now l.page.at × (l.page.bytes.ghost_name ≡ l.initial.page.bytes.ghost_name)
