-- The lines of the groups after the number-th are left to be written. Assumes nothing.
use mathlib.Core.Path.{◌≡◌}
use lib.ListN.{length}
use Rattle.model.specs.Shares.{most_units}
use Rattle.member_ranges.specs.Tables.{table_of}
use Rattle.report.proofs.Laws.Printing.{Printing}
use Rattle.report.proofs.group_lines.put_group_lines.Given as goal

abbrev pub invariant-loop-written : goal.invariant-loop-written
invariant-loop-written l =
    Printing l.flat l.groups (table_of l.lows l.highs) l.initial.page.bytes.now l.initial.page.at l.page.bytes.now l.page.at l.from l.written × ((length l.plan ≡ most_units) × (l.page.bytes.ghost_name ≡ l.initial.page.bytes.ghost_name))
