-- 01's report of its example job, and what the program prints of that job's text, computed. Assumes nothing.
use mathlib.Core.List.{[], ◌∷◌, flatten}
use Rattle.std.specs.Prelude.{◌≡◌, refl}
use Rattle.std.proofs.Common.{ap, ◌∙◌}
use Rattle.model.specs.Shares.{sum, sum_of}
use Rattle.model.specs.Figures.{deviation, spread, pairs}
use Rattle.model.specs.Levels.{clamped, total_at, level_below, level, remainder, roomier, by_headroom, levelled}
use Rattle.model.specs.Ways.{topped, evened}
use Rattle.text.specs.Words.{bytes}
use Rattle.text.specs.Numbers.{digits_of, print_number}
use Rattle.print.specs.Items.{item, items, form, printed_line}
use Rattle.model.specs.Known.{same_list}
use Rattle.model.specs.Plans.{has_plan, turn_of, first_up, first_down, narrowed_low, narrowed_high, tabulate, narrowed_lows, narrowed_highs}
use Rattle.model.specs.Running.{running}
use Rattle.works.specs.Resting.{running_groups}
use Rattle.member_ranges.specs.Tables.{widths, gather, scatter}
use Rattle.works.specs.Settling.{narrowed, revise, pass_from, settle_from, settle}
use Rattle.works.specs.Known.{example, example_table}
use Rattle.form.specs.Form.{print_limit, print_pairs, print_members, print_line}
use Rattle.job.specs.Job.{read_lines, some_unit, read_job}
use Rattle.job.proofs.Laws.Worked.{worked_lines, print_lines, worked_job, worked_reads}
use Rattle.report.specs.Lines.{group_line, refusal_line}
use Rattle.report.specs.Program.{printed_read, printed_of}
use Rattle.report.specs.Reports.{unit_lines, levelled_line, group_lines, report_of, printed}
use Rattle.report.specs.Known.{example_report, example_text}

pub example_report_lem : printed (0 ∷ 0 ∷ 0 ∷ []) example (settle (running_groups (0 ∷ 0 ∷ 0 ∷ []) example) example_table) ≡ example_report
unfolding running printed report_of group_lines levelled_line unit_lines group_line printed_line form items item flatten print_number digits_of example_report example example_table settle settle_from pass_from revise narrowed widths gather scatter same_list sum sum_of deviation spread pairs clamped total_at level_below level remainder roomier by_headroom levelled topped evened has_plan turn_of first_up first_down narrowed_low narrowed_high tabulate narrowed_lows narrowed_highs
example_report_lem = refl

-- 01: "A refusal prints one line"
pub example_refusal : refusal_line 12 1 ≡ bytes "(refused 12 1)\n"
unfolding printed_line form items item flatten print_number digits_of
example_refusal = refl

example_lines : example_text ≡ print_lines worked_lines
unfolding example_text flatten worked_lines print_lines print_line print_limit print_pairs print_members print_number digits_of
example_lines = refl

-- the program prints 01's report of 01's job text
pub example_printed : printed_of example_text ≡ example_report
unfolding printed_of printed_read worked_job example example_table
example_printed = ap printed_of example_lines ∙ ap printed_read worked_reads ∙ example_report_lem

-- 01: "Empty text is 10"
pub empty_printed : printed_of [] ≡ bytes "(refused 10 0)\n"
unfolding printed_of printed_read read_job read_lines some_unit printed_line form items item flatten print_number digits_of
empty_printed = refl
